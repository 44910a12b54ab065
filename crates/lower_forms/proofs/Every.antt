-- What holds of each kind of form that emit_block makes holds of all forms of a block.
use Rattle.std.proofs.Common.{Some, None}
use Prim.Native.Nat.{ℕ, ◌+◌}
use mathlib.Core.Bool.{Bool, true, false}
use mathlib.Core.List.{List, [], ◌∷◌}
use Rattle.armv4t.specs.declared.Op.{Op}
use Rattle.armv4t.specs.declared.Op.TheVariants.{Alu, Mul, MulLong, Swap, Bx, Branch, ThumbBlHigh}
use Rattle.armv4t.specs.declared.Op.TheVariants.{ThumbBlLow, Mem, BlockMem, Mrs, MsrReg, MsrImm}
use Rattle.armv4t.specs.declared.Op.TheVariants.{Swi, Undefined}
use Rattle.armv4t.specs.declared.Instr.{Instr}
use Rattle.armv4t.specs.Fused.{Fused, fuse}
use Rattle.file_instrs.specs.declared.decode.TimedInstr.{TimedInstr}
use Rattle.file_blocks.specs.Parse.{Block}
use Rattle.lower_forms.specs.Forms.{bx, Form, native}
use Rattle.lower_forms.specs.Operands.{reg_expr}
use Rattle.lower_forms.specs.InlineBody.{listed}
use Rattle.lower_forms.specs.Block.{flush_ticks, emit_shell, emit_pair, emit_branch, native_exit}
use Rattle.lower_forms.specs.Block.{is_pop, emit_pop, emit_straight, emit_op, emit_instr, fused_or}
use Rattle.lower_forms.specs.Block.{emit_instrs, body_of}
use Rattle.file_blocks.specs.Address.{region}
use Rattle.base_lists.proofs.Each.{Each}
use Rattle.base_lists.proofs.Bools.{either}

-- what holds of both is held by a fused pair or not
pub fused_or_lem : {A : Type 0} (P : A → Type 0) (f : Fused) {x : A} {g : ℕ → ℕ → A} → P x
    → ((t r : ℕ) → P (g t r)) → P (fused_or f x g)
fused_or_lem P None p q = p
fused_or_lem P (Some (t, r)) p q = q t r

-- P of a form that comes with the cycles pending, and of forms
record One (P : Form → Type 0) (s : Form × ℕ) : Type 0 where
  form : P s.0

record All (P : Form → Type 0) (rs : List Form × ℕ) : Type 0 where
  forms : Each P rs.0

module _ (P : Form → Type 0)
    (shells : (thumb high : Bool) (cycles : ℕ) (i : Instr) → P (emit_shell thumb high cycles i))
    (straights : (thumb touchesBus : Bool) (cycles : ℕ) (x : TimedInstr)
    → P (emit_straight thumb touchesBus cycles x).0)
    (branches : (thumb : Bool) (cycles : ℕ) (i : Instr) (link : Bool) (target : ℕ)
    → P (native (emit_branch thumb cycles i link target)))
    (bxs : (cycles : ℕ) (i : Instr) (rm : ℕ) → P (native (bx (flush_ticks cycles) (reg_expr i rm))))
    (pops : (thumb : Bool) (cycles rn rlist : ℕ)
    → P (native (emit_pop thumb cycles rn (listed rlist 15)))) where
  straight_one : (thumb touchesBus : Bool) (cycles : ℕ) (x : TimedInstr)
      → One P (emit_straight thumb touchesBus cycles x)
  straight_one thumb touchesBus cycles x = record { form = straights thumb touchesBus cycles x }

  op_one : (thumb : Bool) (region cycles : ℕ) (x : TimedInstr) (o : Op)
      → One P (emit_op thumb region cycles x o)
  op_one thumb region cycles x (Alu op s rd rn op2) = straight_one thumb false cycles x
  op_one thumb region cycles x (Mul acc s rd rn rs rm) = straight_one thumb false cycles x
  op_one thumb region cycles x (MulLong signed acc s hi lo rs rm) =
      straight_one thumb false cycles x
  op_one thumb region cycles x (Swap byte rd rm rn) = straight_one thumb false cycles x
  op_one thumb region cycles x (Bx rm) =
      either (One P) (native_exit region x.instr)
      (record { form = bxs (cycles + x.cost) x.instr rm })
      (straight_one thumb false cycles x)
  op_one thumb region cycles x (Branch link target) =
      record { form = branches thumb (cycles + x.cost) x.instr link target }
  op_one thumb region cycles x (ThumbBlHigh lr) =
      record { form = shells thumb true cycles x.instr }
  op_one thumb region cycles x (ThumbBlLow off) = straight_one thumb false cycles x
  op_one thumb region cycles x (Mem load width signed rd rn offset pre up writeback) =
      straight_one thumb true cycles x
  op_one thumb region cycles x (BlockMem load rn rlist pre up s_bit writeback) =
      either (One P) (is_pop region x.instr load rn rlist pre up s_bit writeback)
      (record { form = pops thumb (cycles + x.cost) rn rlist })
      (straight_one thumb true cycles x)
  op_one thumb region cycles x (Mrs spsr rd) = straight_one thumb false cycles x
  op_one thumb region cycles x (MsrReg spsr fields rm) = straight_one thumb false cycles x
  op_one thumb region cycles x (MsrImm spsr fields value) = straight_one thumb false cycles x
  op_one thumb region cycles x (Swi imm) = straight_one thumb false cycles x
  op_one thumb region cycles x (Undefined raw) = straight_one thumb false cycles x

  -- an instruction that is not fused
  pub every_instr : (thumb : Bool) (region cycles : ℕ) (x : TimedInstr)
      → P (emit_instr thumb region cycles x).0
  unfolding emit_instr
  every_instr thumb region cycles x = (op_one thumb region cycles x x.instr.op).form

  module _ (pairs : (cycles target ret : ℕ) → P (native (emit_pair cycles target ret))) where
    instrs_all : (thumb : Bool) (region cycles : ℕ) (xs : List TimedInstr)
        → All P (emit_instrs thumb region cycles xs)
    unfolding emit_instrs
    instrs_all thumb region cycles [] = record { forms = tt }
    instrs_all thumb region cycles (x ∷ []) =
        record { forms = (every_instr thumb region cycles x, tt) }
    instrs_all thumb region cycles (x ∷ y ∷ rest) =
        fused_or_lem (All P) (fuse x.instr y.instr)
        (record {
          forms = (
            every_instr thumb region cycles x,
            (instrs_all thumb region
                (emit_instr thumb region cycles x).1 (y ∷ rest)).forms,
          );
        })
        (λ t r. record {
          forms = (pairs (cycles + (x.cost + y.cost)) t r, (instrs_all thumb region 0 rest).forms);
        })

    -- all forms of a block
    pub every_form : (multiplier : ℕ) (b : Block) → Each P (body_of multiplier b).forms
    unfolding body_of
    every_form multiplier b = (instrs_all b.thumb (region b.addr) 0 b.instrs).forms
