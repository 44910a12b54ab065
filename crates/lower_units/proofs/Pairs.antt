-- Two halves of a Thumb BL that fuse: the text of the pair leaves as the manual's two instructions
-- do, one after the other.
use Rattle.std.proofs.Common.{Some, None}
use Prim.Native.Nat.{ℕ, ◌+◌, ◌*◌, ◌/◌, ◌%◌, ◌<◌}
use mathlib.Core.Path.{◌≡◌, refl, sym, ap, subst}
use mathlib.Core.Bool.{Bool, true, false, not, cond, ◌&&◌, true≢false}
use mathlib.Core.List.{List}
use mathlib.Core.Option.{some}
use native.Mathlib.Nat.{mod-lt}
use native.Mathlib.Omega.{arith}
use lib.Dec.{eqb, lit<}
use Rattle.armv4t.specs.declared.Op.{Op}
use Rattle.armv4t.specs.declared.Op.TheVariants.{Alu, Mul, MulLong, Swap, Bx, Branch, ThumbBlHigh}
use Rattle.armv4t.specs.declared.Op.TheVariants.{ThumbBlLow, Mem, BlockMem, Mrs, MsrReg, MsrImm}
use Rattle.armv4t.specs.declared.Op.TheVariants.{Swi, Undefined}
use Rattle.armv4t.specs.declared.Instr.{Instr}
use Rattle.armv4t.specs.Bit0.{clear_bit0, set_bit0}
use Rattle.armv4t.specs.Instr.{size_of}
use Rattle.armv4t.specs.Cond.{is_al}
use Rattle.armv4t.specs.Fused.{Fused, fuse_low, fuse_ops, fuse}
use Rattle.file_instrs.specs.declared.decode.TimedInstr.{TimedInstr}
use Rattle.c_tree.specs.Stmt.{Owner}
use Rattle.c_meaning.specs.State.{State}
use Rattle.lower_forms.specs.Block.{emit_pair}
use Rattle.lower_units.specs.Block.{native_text}
use Rattle.armv4t_manual.specs.Machine.{Machine, set_reg}
use Rattle.armv4t_manual.specs.Unsaid.{no_instruction_of}
use Rattle.armv4t_manual.specs.Execute.{operation, execute}
use Rattle.lower_forms.specs.Agree.{Agrees}
use Rattle.lower_units.specs.Text.{Leaves}
use Rattle.lower_units.specs.Records.{PairMeans}
use Rattle.lower_forms.proofs.Body.{some_same}
use Rattle.lower_units.proofs.Exits.{jump_leaves}
use Rattle.lower_units.proofs.Outcome.{outcome, always}
use Rattle.lower_units.proofs.Aligned.{twos, two_lt}

-- what fused is not nothing
pub not_pair : {target ret : ℕ} → ◌≡◌ {A = Fused} None (Some (target, ret)) → ⊥
not_pair e = let z : ◌≡◌ {A = ℕ} 0 1 = cc in omega arith

from_pair : Fused → ℕ × ℕ
from_pair None = (0, 0)
from_pair (Some (target, ret)) = (target, ret)

module _ {t r target ret : ℕ} (e : ◌≡◌ {A = Fused} (Some (t, r)) (Some (target, ret))) where
  target_of_lem : t ≡ target
  unfolding from_pair
  target_of_lem = ap (λ (f : Fused). (from_pair f).0) e

  ret_of : r ≡ ret
  unfolding from_pair
  ret_of = ap (λ (f : Fused). (from_pair f).1) e

-- what fuses with a first half
record Low (lr : ℕ) (op : Op) (addr target ret : ℕ) : Type 0 where
  off : ℕ
  is : op ≡ ThumbBlLow off
  target_is : (lr + off * 2) % 4294967296 ≡ target
  ret_is : set_bit0 ((addr + 2) % 4294967296) ≡ ret

low_half : (lr : ℕ) (op : Op) (addr target ret : ℕ) → fuse_low lr op addr ≡ Some (target, ret)
    → Low lr op addr target ret
low_half lr (Alu _ _ _ _ _) addr target ret e = absurd (not_pair e)
low_half lr (Mul _ _ _ _ _ _) addr target ret e = absurd (not_pair e)
low_half lr (MulLong _ _ _ _ _ _ _) addr target ret e = absurd (not_pair e)
low_half lr (Swap _ _ _ _) addr target ret e = absurd (not_pair e)
low_half lr (Bx _) addr target ret e = absurd (not_pair e)
low_half lr (Branch _ _) addr target ret e = absurd (not_pair e)
low_half lr (ThumbBlHigh _) addr target ret e = absurd (not_pair e)
low_half lr (ThumbBlLow off) addr target ret e =
    record { off = off; is = refl; target_is = target_of_lem e; ret_is = ret_of e }
low_half lr (Mem _ _ _ _ _ _ _ _ _) addr target ret e = absurd (not_pair e)
low_half lr (BlockMem _ _ _ _ _ _ _) addr target ret e = absurd (not_pair e)
low_half lr (Mrs _ _) addr target ret e = absurd (not_pair e)
low_half lr (MsrReg _ _ _) addr target ret e = absurd (not_pair e)
low_half lr (MsrImm _ _ _) addr target ret e = absurd (not_pair e)
low_half lr (Swi _) addr target ret e = absurd (not_pair e)
low_half lr (Undefined _) addr target ret e = absurd (not_pair e)

-- what fuses is two halves
record High (op low : Op) (addr target ret : ℕ) : Type 0 where
  lr : ℕ
  is : op ≡ ThumbBlHigh lr
  second : Low lr low addr target ret

high_half : (op low : Op) (addr target ret : ℕ) → fuse_ops op low addr ≡ Some (target, ret)
    → High op low addr target ret
high_half (Alu _ _ _ _ _) low addr target ret e = absurd (not_pair e)
high_half (Mul _ _ _ _ _ _) low addr target ret e = absurd (not_pair e)
high_half (MulLong _ _ _ _ _ _ _) low addr target ret e = absurd (not_pair e)
high_half (Swap _ _ _ _) low addr target ret e = absurd (not_pair e)
high_half (Bx _) low addr target ret e = absurd (not_pair e)
high_half (Branch _ _) low addr target ret e = absurd (not_pair e)
high_half (ThumbBlHigh lr) low addr target ret e =
    record { lr = lr; is = refl; second = low_half lr low addr target ret e }
high_half (ThumbBlLow _) low addr target ret e = absurd (not_pair e)
high_half (Mem _ _ _ _ _ _ _ _ _) low addr target ret e = absurd (not_pair e)
high_half (BlockMem _ _ _ _ _ _ _) low addr target ret e = absurd (not_pair e)
high_half (Mrs _ _) low addr target ret e = absurd (not_pair e)
high_half (MsrReg _ _ _) low addr target ret e = absurd (not_pair e)
high_half (MsrImm _ _ _) low addr target ret e = absurd (not_pair e)
high_half (Swi _) low addr target ret e = absurd (not_pair e)
high_half (Undefined _) low addr target ret e = absurd (not_pair e)

-- a half of which the manual says what it does is Thumb's, and its operation is said
half_said : (i : Instr) (m : Machine) (next : Machine × ℕ) (op : Op) → i.op ≡ op
    → no_instruction_of i.thumb i.cond op ≡ not (i.thumb && is_al i.cond)
    → execute i m ≡ some next → (i.thumb ≡ true) × (operation i op m ≡ some next)
half_said i m next op q h e =
    go i.thumb refl (is_al i.cond) refl
    (subst (λ (b : Bool). b ≡ false) h
    (subst (λ (op : Op). no_instruction_of i.thumb i.cond op ≡ false) q
    (outcome i m next e).0))
  where
    go : (t : Bool) → i.thumb ≡ t → (a : Bool) → is_al i.cond ≡ a → not (t && a) ≡ false
        → (i.thumb ≡ true) × (operation i op m ≡ some next)
    go true t true a f = (t, always i m next a e op q)
    go true t false a f = absurd (true≢false f)
    go false t a p f = absurd (true≢false f)

module _ (lr off addr cycles : ℕ) (ks : List ℕ) (a : ℕ) (o : Owner) {z : State} {m : Machine}
    (g : Agrees z m) where
  target : ℕ
  target = (lr + off * 2) % 4294967296

  ret : ℕ
  ret = set_bit0 ((addr + 2) % 4294967296)

  up : (k : ℕ) → k < 4294967296 → k / 2 * 2 + 1 < 4294967296
  up k h = omega arith

  twice : (b : Bool) (x y w : ℕ) → cond b x w ≡ cond b x (cond b y w)
  twice true x y w = refl
  twice false x y w = refl

  -- R14 is set once in the text
  same : ◌≡◌ {A = Machine × ℕ} (set_reg 14 ret m, set_bit0 target)
      (set_reg 14 ret (set_reg 14 lr m), set_bit0 target)
  same = λ j. (
    record {
      r = λ i. twice (eqb i 14) ret lr (m.r i) j;
      n = m.n;
      z = m.z;
      c = m.c;
      v = m.v;
      other_bits = m.other_bits;
      mem = m.mem;
    },
    set_bit0 target,
  )

  pair_leaves : Leaves (native_text ks a o (emit_pair cycles target ret)) z
      (set_reg 14 ret (set_reg 14 lr m), set_bit0 target)
  unfolding native_text target ret
  pair_leaves =
      let ht : target < 4294967296 = mod-lt (lr + off * 2) (lit< tt) in
      subst (Leaves (native_text ks a o (emit_pair cycles target ret)) z) same
      (jump_leaves ks a o cycles true ret (clear_bit0 target) (set_bit0 target)
      (up ((addr + 2) % 4294967296) (mod-lt (addr + 2) (lit< tt))) (two_lt target ht)
      (up target ht)
      (twos target) g)

-- the two halves, one after the other
halves_mean : (i j : Instr) {z : State} {m : Machine} → Agrees z m → (half next : Machine × ℕ)
    → execute i m ≡ some half → execute j half.0 ≡ some next
    → (lr off : ℕ) → i.op ≡ ThumbBlHigh lr → j.op ≡ ThumbBlLow off
    → (cycles : ℕ) (ks : List ℕ) (a : ℕ) (o : Owner)
    → Leaves
    (native_text ks a o
    (emit_pair cycles ((lr + off * 2) % 4294967296) (set_bit0 ((j.addr + 2) % 4294967296)))) z
    next
unfolding target ret
halves_mean i j {z} {m} g half next d e lr off p q cycles ks a o =
    let high = half_said i m half (ThumbBlHigh lr) p refl d in
    let m1 : Machine = set_reg 14 lr m in
    let low =
    half_said j m1 next (ThumbBlLow off) q refl
    (subst (λ (n : Machine × ℕ). execute j n.0 ≡ some next) (sym (some_same high.1)) e) in
    subst text (some_same low.1)
    (subst (λ (t : Bool). text (
      set_reg 14 (set_bit0 ((j.addr + size_of t) % 4294967296)) m1,
      set_bit0
          ((lr + off * 2) % 4294967296),
    )) (sym low.0)
    (pair_leaves lr off j.addr cycles ks a o g))
  where
    text : Machine × ℕ → Type 0
    text =
        Leaves (native_text ks a o
        (emit_pair cycles ((lr + off * 2) % 4294967296) (set_bit0 ((j.addr + 2) % 4294967296)))) z

pub pair_means : (ks : List ℕ) (at : ℕ) (x y : TimedInstr) → PairMeans ks at x y
unfolding fuse
pair_means ks at x y t r f cycles o z m s g half next d e =
    let high = high_half x.instr.op y.instr.op y.instr.addr t r f in
    let low = high.second in
    subst (λ (r : ℕ). Leaves (native_text ks at o (emit_pair cycles t r)) z next) low.ret_is
    (subst (λ (t : ℕ). Leaves
    (native_text ks at o (emit_pair cycles t (set_bit0 ((y.instr.addr + 2) % 4294967296)))) z
    next) low.target_is
    (halves_mean x.instr y.instr g half next d e high.lr low.off high.is low.is
    cycles ks at o))
