-- What the records of a block are lowered to, native or shells, and what shells do.
use Rattle.std.proofs.Common.{Some, None}
use Prim.Native.Nat.{ℕ, ◌+◌, ◌<◌}
use mathlib.Core.Path.{◌≡◌, refl, ap, ◌∙◌}
use mathlib.Core.Bool.{Bool, true, false, cond}
use mathlib.Core.List.{List, [], ◌∷◌, ◌++◌}
use mathlib.Core.Option.{Option, none, some}
use lib.Dec.{eqb}
use Rattle.armv4t.specs.declared.Op.{Op}
use Rattle.armv4t.specs.declared.Op.TheVariants.{Alu, Mul, MulLong, Swap, Bx, Branch, ThumbBlHigh}
use Rattle.armv4t.specs.declared.Op.TheVariants.{ThumbBlLow, Mem, BlockMem, Mrs, MsrReg, MsrImm}
use Rattle.armv4t.specs.declared.Op.TheVariants.{Swi, Undefined}
use Rattle.armv4t.specs.declared.Instr.{Instr}
use Rattle.armv4t.specs.Fused.{Fused, fuse, fuse_low, fuse_ops}
use Rattle.file_instrs.specs.declared.decode.TimedInstr.{TimedInstr}
use Rattle.c_tree.specs.Expr.{u32, x-pc}
use Rattle.c_tree.specs.Stmt.{common, Code, ◌⨾◌, ret_interp}
use Rattle.c_meaning.specs.State.{bind, update, index, Scope, State, set_c, set_scopes, interp_answer}
use Rattle.c_meaning.specs.State.{after_interp, Declares}
use Rattle.c_meaning.specs.Eval.{eval, eval_as}
use Rattle.c_meaning.specs.Exec.{back, exec, asks, step, runs}
use Rattle.c_meaning.specs.Perform.{execs, perform}
use Rattle.c_meaning.specs.Helpers.{run}
use Rattle.armv4t_manual.proofs.Kept.{WrittenOut}
use Rattle.lower_forms.specs.Forms.{is_native}
use Rattle.lower_forms.specs.Forms.{Lines, Native, Form, Body}
use Rattle.lower_forms.specs.InlineBody.{inline_body}
use Rattle.lower_forms.specs.Block.{flush_ticks, emit_shell, native_exit, is_pop, emit_lines, emit_op}
use Rattle.lower_forms.specs.Block.{emit_instr, fused_or, cons_form, emit_pair, emit_instrs, pc_line}
use Rattle.lower_forms.specs.Means.{statements}
use Rattle.lower_units.specs.Block.{sp, lines, shell_code}
use Rattle.claim_meaning.specs.Block.{is_half}
use Rattle.lower_forms.proofs.Gives.{lt_true}
use Rattle.lower_units.proofs.Lines.{run_lines}
use Rattle.lower_units.proofs.Exits.{ticks_first}
use Rattle.lower_units.proofs.Pairs.{not_pair}

-- a record that is not fused is native, or a shell that starts at its address; which of them, no
-- cycles decide
pub data Emitted (thumb : Bool) (cycles : ℕ) (i : Instr) : Form → Bool → Type 0 where
  as_native : (r : Native) → Emitted thumb cycles i (Form.native r) true
  as_shell : (high : Bool) → Emitted thumb cycles i (emit_shell thumb high cycles i) false

module _ (thumb : Bool) (region cycles : ℕ) (x : TimedInstr) where
  lines_emitted : (touchesBus : Bool) (o : Option Lines)
      → Emitted thumb cycles x.instr (emit_lines thumb touchesBus cycles x o).0
      (is_native (emit_lines thumb touchesBus 0 x o).0)
  lines_emitted touchesBus none = as_shell false
  lines_emitted touchesBus (some ls) = as_native _

  straight_emitted : (touchesBus : Bool)
      → Emitted thumb cycles x.instr
      (emit_lines thumb touchesBus cycles x (inline_body thumb x.instr)).0
      (is_native (emit_lines thumb touchesBus 0 x (inline_body thumb x.instr)).0)
  straight_emitted touchesBus = lines_emitted touchesBus (inline_body thumb x.instr)

  -- an exit, native or not
  exit_emitted : (b : Bool) (r s : Native) (p q : Form × ℕ)
      → Emitted thumb cycles x.instr p.0 (is_native q.0)
      → Emitted thumb cycles x.instr (cond b (Form.native r, 0) p).0
      (is_native (cond b (Form.native s, 0) q).0)
  exit_emitted true r s p q e = as_native r
  exit_emitted false r s p q e = e

  op_emitted : (op : Op)
      → Emitted thumb cycles x.instr (emit_op thumb region cycles x op).0
      (is_native (emit_op thumb region 0 x op).0)
  op_emitted (Alu op s rd rn op2) = straight_emitted false
  op_emitted (Mul acc s rd rn rs rm) = straight_emitted false
  op_emitted (MulLong signed acc s hi lo rs rm) = straight_emitted false
  op_emitted (Swap byte rd rm rn) = straight_emitted false
  op_emitted (Bx rm) = exit_emitted (native_exit region x.instr) _ _ _ _ (straight_emitted false)
  op_emitted (Branch link target) = as_native _
  op_emitted (ThumbBlHigh lr) = as_shell true
  op_emitted (ThumbBlLow off) = straight_emitted false
  op_emitted (Mem load width signed rd rn offset pre up writeback) = straight_emitted true
  op_emitted (BlockMem load rn rlist pre up s_bit writeback) =
      exit_emitted (is_pop region x.instr load rn rlist pre up s_bit writeback) _ _ _ _
      (straight_emitted true)
  op_emitted (Mrs spsr rd) = straight_emitted false
  op_emitted (MsrReg spsr fields rm) = straight_emitted false
  op_emitted (MsrImm spsr fields value) = straight_emitted false
  op_emitted (Swi imm) = straight_emitted false
  op_emitted (Undefined raw) = straight_emitted false

  pub emitted : Emitted thumb cycles x.instr (emit_instr thumb region cycles x).0
      (is_native (emit_instr thumb region 0 x).0)
  unfolding emit_instr
  emitted = op_emitted x.instr.op

-- records have a form
pub some_form : (thumb : Bool) (region cycles : ℕ) (x : TimedInstr) (xs : List TimedInstr)
    → (r : Form) × (rs : List Form) × ((emit_instrs thumb region cycles (x ∷ xs)).0 ≡ r ∷ rs)
unfolding emit_instrs
some_form thumb region cycles x [] = (_, _, refl)
some_form thumb region cycles x (y ∷ ys) = go (fuse x.instr y.instr)
  where
    go : (f : Fused) → (r : Form) × (rs : List Form)
        × ((fused_or f
        (cons_form (emit_instr thumb region cycles x).0
        (emit_instrs thumb region (emit_instr thumb region cycles x).1 (y ∷ ys)))
        (λ target ret. cons_form (Form.native (emit_pair (cycles + (x.cost + y.cost)) target ret))
        (emit_instrs thumb region 0 ys))).0 ≡ r ∷ rs)
    go None = (_, _, refl)
    go (Some (target, ret)) = (_, _, refl)

-- half of a Thumb BL, which the manual writes out
pub record Half (op : Op) : Type 0 where
  pub half : is_half op ≡ true
  pub written : WrittenOut op

low_half : (lr : ℕ) (op : Op) (addr : ℕ) {target ret : ℕ} → fuse_low lr op addr ≡ Some (target, ret)
    → Half op
low_half lr (Alu _ _ _ _ _) addr e = absurd (not_pair e)
low_half lr (Mul _ _ _ _ _ _) addr e = absurd (not_pair e)
low_half lr (MulLong _ _ _ _ _ _ _) addr e = absurd (not_pair e)
low_half lr (Swap _ _ _ _) addr e = absurd (not_pair e)
low_half lr (Bx _) addr e = absurd (not_pair e)
low_half lr (Branch _ _) addr e = absurd (not_pair e)
low_half lr (ThumbBlHigh _) addr e = absurd (not_pair e)
low_half lr (ThumbBlLow off) addr e = record { half = refl; written = tt }
low_half lr (Mem _ _ _ _ _ _ _ _ _) addr e = absurd (not_pair e)
low_half lr (BlockMem _ _ _ _ _ _ _) addr e = absurd (not_pair e)
low_half lr (Mrs _ _) addr e = absurd (not_pair e)
low_half lr (MsrReg _ _ _) addr e = absurd (not_pair e)
low_half lr (MsrImm _ _ _) addr e = absurd (not_pair e)
low_half lr (Swi _) addr e = absurd (not_pair e)
low_half lr (Undefined _) addr e = absurd (not_pair e)

op_halves : (high low : Op) (addr : ℕ) {target ret : ℕ} → fuse_ops high low addr ≡ Some (target, ret)
    → Half high × Half low
op_halves (Alu _ _ _ _ _) low addr e = absurd (not_pair e)
op_halves (Mul _ _ _ _ _ _) low addr e = absurd (not_pair e)
op_halves (MulLong _ _ _ _ _ _ _) low addr e = absurd (not_pair e)
op_halves (Swap _ _ _ _) low addr e = absurd (not_pair e)
op_halves (Bx _) low addr e = absurd (not_pair e)
op_halves (Branch _ _) low addr e = absurd (not_pair e)
op_halves (ThumbBlHigh lr) low addr e =
    (record { half = refl; written = tt }, low_half lr low addr e)
op_halves (ThumbBlLow _) low addr e = absurd (not_pair e)
op_halves (Mem _ _ _ _ _ _ _ _ _) low addr e = absurd (not_pair e)
op_halves (BlockMem _ _ _ _ _ _ _) low addr e = absurd (not_pair e)
op_halves (Mrs _ _) low addr e = absurd (not_pair e)
op_halves (MsrReg _ _ _) low addr e = absurd (not_pair e)
op_halves (MsrImm _ _ _) low addr e = absurd (not_pair e)
op_halves (Swi _) low addr e = absurd (not_pair e)
op_halves (Undefined _) low addr e = absurd (not_pair e)

-- what fuses are two halves
pub halves : (high low : Instr) (target ret : ℕ) → fuse high low ≡ Some (target, ret)
    → Half high.op × Half low.op
unfolding fuse
halves high low target ret e = op_halves high.op low.op low.addr e

-- c[15] = a; after ticks
address_set : (n a : ℕ) (z : State) → a < 4294967296
    → perform (statements (flush_ticks n ++ pc_line a)) z ≡ some (set_c 15 a z)
unfolding perform execs exec eval
address_set n a z h = rw (ticks_first n (pc_line a) z, lt_true h)

pub after_address : (n a : ℕ) (c : Code) (z : State) → a < 4294967296
    → run (lines common 4 (flush_ticks n ++ pc_line a) c) z ≡ run c (set_c 15 a z)
after_address n a c z h =
    run_lines common 4 (flush_ticks n ++ pc_line a) c z
    ∙ ap (λ (q : Option State). bind q (run c)) (address_set n a z h)

-- return interp_one
pub run_return : (k i : ℕ) (c : Code) (z : State)
    → run (sp 4 ⨾ ret_interp k i ⨾ c) z ≡ some (after_interp z, back (interp_answer z))
unfolding run runs step
run_return k i c z = refl

-- a shell that others stand after, where c[15] is set: it goes on after it where the interpreter
-- answers k, and else returns the answer
pub record GoesOn (z : State) : Type 0 where
  pub scopes : List Scope
  pub declares : Declares scopes (u32, x-pc)
  pub goes : (b : Body) (i k : ℕ) (c : Code) → k < 4294967296
      → run (shell_code b i k c) z
      ≡ cond (eqb (interp_answer z) k) (run c (set_scopes scopes (after_interp z)))
      (some (set_scopes scopes (after_interp z), back (interp_answer z)))

pub goes_on : (z : State) → Declares z.scopes (u32, x-pc) → GoesOn z
unfolding run runs step asks eval eval_as
goes_on z d = go z.scopes refl d
  where
    go : (ss : List Scope) → z.scopes ≡ ss → Declares ss (u32, x-pc) → GoesOn z
    go [] p d = absurd d
    go (f ∷ fs) p d =
        record {
          scopes = known;
          declares = (some (interp_answer z), refl);
          goes = λ b i k c h. by b i k c h (eqb (interp_answer z) k) refl;
        }
      where
        known : List Scope
        known = update (index x-pc) (some (u32, some (interp_answer z))) f ∷ fs

        by : (b : Body) (i k : ℕ) (c : Code) → k < 4294967296 → (t : Bool)
            → eqb (interp_answer z) k ≡ t
            → run (shell_code b i k c) z
            ≡ cond t (run c (set_scopes known (after_interp z)))
            (some (set_scopes known (after_interp z), back (interp_answer z)))
        by b i k c h true q = rw (p, d.1, lt_true h, q)
        by b i k c h false q = rw (p, d.1, lt_true h, q)
