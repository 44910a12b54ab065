-- A covered record that is native, or half of a BL, is one of which the manual says what it does;
-- which records are covered without exception.
use Prim.Native.Nat.{ℕ}
use mathlib.Core.Path.{◌≡◌, refl, sym}
use mathlib.Core.Bool.{Bool, true, false, not, ◌&&◌, ◌||◌, true≢false}
use Rattle.armv4t.specs.declared.Cond.{Cond}
use Rattle.armv4t.specs.declared.Op.TheVariants.{BlockMem}
use Rattle.armv4t.specs.declared.Instr.{Instr}
use Rattle.file_instrs.specs.declared.decode.TimedInstr.{TimedInstr}
use Rattle.armv4t_manual.specs.Unsaid.{no_instruction, unpredictable, is_nv}
use Rattle.lower_forms.specs.Block.{emit_instr}
use Rattle.lower_forms.specs.Differs.{differs_in}
use Rattle.lower_forms.proofs.Body.{or_l, or_r}
use Rattle.lower_forms.specs.Forms.{is_native}
use Rattle.claim_meaning.specs.Block.{is_native_record, is_half, is_said}
use Rattle.claim_meaning.specs.Block.{is_covered}

-- the manual says what an instruction does, and it is no named difference
pub record Said (i : Instr) : Type 0 where
  pub instruction : no_instruction i ≡ false
  pub predictable : unpredictable i.op ≡ false
  pub condition : is_nv i.cond ≡ false
  pub same : differs_in i i.op ≡ false

not_true : (t : Bool) → not t ≡ true → t ≡ false
not_true true e = sym e
not_true false e = refl

said_of : (i : Instr) → is_said i ≡ true → Said i
said_of i e =
    let all =
    not_true (no_instruction i || unpredictable i.op || is_nv i.cond || differs_in i i.op)
    e in
    let three =
    or_l (no_instruction i || unpredictable i.op || is_nv i.cond) (differs_in i i.op)
    all in
    let two = or_l (no_instruction i || unpredictable i.op) (is_nv i.cond) three in
    record {
      instruction = or_l (no_instruction i) (unpredictable i.op) two;
      predictable = or_r (no_instruction i) (unpredictable i.op) two;
      condition = or_r (no_instruction i || unpredictable i.op) (is_nv i.cond) three;
      same =
          or_r (no_instruction i || unpredictable i.op || is_nv i.cond) (differs_in i i.op)
          all;
    }

or_true : (b : Bool) → (b || true) ≡ true
or_true true = refl
or_true false = refl

-- no load or store of several registers is excepted from the claim on blocks, but under NV
module _ (a cost : ℕ) (c : Cond) (thumb ld : Bool) (rn rlist : ℕ) (pre up s_bit writeback : Bool)
  where
    abbrev blockMem : TimedInstr
    blockMem =
        record {
          instr = record {
            addr = a;
            cond = c;
            op = BlockMem ld rn rlist pre up s_bit writeback;
            thumb = thumb;
          };
          cost = cost;
        }

    pub block-mem-covered : (region : ℕ) → is_nv c ≡ false → is_covered region blockMem ≡ true
    block-mem-covered region e = rw e (or_true (not (is_native_record region blockMem) && true))

native_said : (n h s : Bool) → n ≡ true → ((not n && not h) || s) ≡ true → s ≡ true
native_said true h s e p = p
native_said false h s e p = absurd (true≢false (sym e))

half_said : (n h s : Bool) → h ≡ true → ((not n && not h) || s) ≡ true → s ≡ true
half_said true true s e p = p
half_said false true s e p = p
half_said n false s e p = absurd (true≢false (sym e))

-- so the manual says what a covered record does that is native, or half of a BL
pub covered_native : (region : ℕ) (x : TimedInstr)
    → is_native (emit_instr x.instr.thumb region 0 x).0 ≡ true → is_covered region x ≡ true
    → Said x.instr
covered_native region x e c =
    said_of x.instr
    (native_said (is_native (emit_instr x.instr.thumb region 0 x).0) (is_half x.instr.op)
    (is_said x.instr) e c)

pub covered_half : (region : ℕ) (x : TimedInstr) → is_half x.instr.op ≡ true
    → is_covered region x ≡ true → Said x.instr
covered_half region x e c =
    said_of x.instr
    (half_said (is_native (emit_instr x.instr.thumb region 0 x).0) (is_half x.instr.op)
    (is_said x.instr) e c)
