-- A record of a block that was written, alone or as the first of a fused pair.
-- Assumes nothing.
use Rattle.std.proofs.Common.{◌≡◌, ℕ, suc, ◌+◌, ◌*◌, ◌%◌, ◌^◌, ◌<◌, ◌≤◌, Bool, true, cond, List, ◌∷◌, drop, sym, ap, ◌∙◌, subst, true≢false, Some, None}
use package.native.Mathlib.Nat.{mod-eq_of_lt}
use package.native.Mathlib.Numerals.{add-one}
use package.native.Mathlib.Omega.{arith}
use Rattle.file_instrs.specs.declared.decode.TimedInstr.{TimedInstr}
use Rattle.file_blocks.specs.declared.read.BlockRecord.{BlockRecord}
use Rattle.c_tree.specs.Stmt.{end}
use Rattle.lower_forms.specs.Forms.{Form, native, shell, Body}
use Rattle.lower_forms.specs.Block.{emit_pair, emit_instr, cons_form, emit_instrs}
use Rattle.file_blocks.specs.Address.{region}
use Rattle.lower_forms.proofs.Cycles.{own, instr_cycles}
use Rattle.lower_units.specs.Block.{code_from}
use Rattle.file_blocks.specs.declared.next.FusedPair.{FusedPair}
use Rattle.emit_instr.specs.declared.step.Step.{Step}
use Rattle.emit_instr.specs.Onward.{Onward}
use Rattle.file_blocks.specs.Read.{instrs_of, next_of}
use Rattle.emit_block.specs.Walk.{forms_from, Recorded}
use Rattle.emit_block.proofs.FormsFrom.{instrs_alone, instrs_pair}

own_most : (r : Form) (n : ℕ) → own r n ≤ n
own_most (native r) n = omega arith
own_most (shell h t k) n = omega arith

-- the cycles pending after an instruction are at most those before it with its cost
pub pending_most : (thumb : Bool) (region cycles : ℕ) (x : TimedInstr)
    → (emit_instr thumb region cycles x).1 ≤ cycles + x.cost
pending_most thumb region cycles x =
    omega (
      arith,
      instr_cycles thumb region cycles x,
      own_most (emit_instr thumb region cycles x).0
          x.cost,
    )

-- the cycles of a pair do not wrap
pub pair_sum : (cycles own cost j sum : ℕ) → sum ≡ (cycles + (own + cost)) % 2 ^ 64
    → cycles ≤ 65535 * j → j < 2 ^ 32 → own < 2 ^ 16 → cost < 2 ^ 16
    → sum ≡ cycles + (own + cost)
pair_sum cycles own cost j sum e few index first second = e ∙ mod-eq_of_lt (omega arith)

module _ (f : List ℕ) (r : BlockRecord) (first : ℕ) (ks : List ℕ) (b : Body) (j cycles : ℕ)
    (x : TimedInstr) (out : List ℕ) (at : ℕ) (out' : List ℕ) (s : Step)
    (here : drop j (instrs_of f r first) ≡ x ∷ drop (suc j) (instrs_of f r first)) where
  -- an instruction that makes no pair
  pub alone_recorded : next_of x.instr (drop (suc j) (instrs_of f r first)) ≡ None
      → x.cost ≤ 65535
      → s.cycles ≡ (emit_instr r.thumb (region r.addr) cycles x).1
      → Onward out at
      (code_from ks b j
      ((emit_instr r.thumb (region r.addr) cycles x).0
      ∷ (forms_from f r first (suc j) s.cycles).0))
      (cond s.done end (code_from ks b (j + 1) (forms_from f r first (suc j) s.cycles).0)) out'
      s.at
      → Recorded f r first ks b j cycles out at out' s
  alone_recorded alone small pending onward =
      let form : Form = (emit_instr r.thumb (region r.addr) cycles x).0 in
      let ys : List TimedInstr = drop (suc j) (instrs_of f r first) in
      let all : forms_from f r first j cycles
      ≡ cons_form form (forms_from f r first (suc j) s.cycles) =
      ap (emit_instrs r.thumb (region r.addr) cycles) here
      ∙ instrs_alone r.thumb (region r.addr) cycles x ys alone
      ∙ ap (λ (n : ℕ). cons_form form (emit_instrs r.thumb (region r.addr) n ys))
      (sym pending) in
      record {
        onward =
            subst (λ (p : List Form × ℕ). Onward out at (code_from ks b j p.0)
            (cond s.done end
            (code_from ks b (suc j) (forms_from f r first (suc j) s.cycles).0)) out' s.at)
            (sym all)
            (subst (λ (n : ℕ). Onward out at
            (code_from ks b j (form ∷ (forms_from f r first (suc j) s.cycles).0))
            (cond s.done end (code_from ks b n (forms_from f r first (suc j) s.cycles).0))
            out' s.at) (add-one j) onward);
        same = λ _. ap (λ (p : List Form × ℕ). p.1) all;
        few = omega (arith, pending_most r.thumb (region r.addr) cycles x, pending, small);
      }

  -- a fused pair: nothing stands after it
  pub pair_recorded : (p : FusedPair)
      → next_of x.instr (drop (suc j) (instrs_of f r first)) ≡ Some p
      → s.done ≡ true → s.cycles ≡ 0
      → ((fs : List Form)
      → Onward out at
      (code_from ks b j (Form.native (emit_pair (cycles + (x.cost + p.cost)) p.target p.ret) ∷ fs)) end
      out' s.at)
      → Recorded f r first ks b j cycles out at out' s
  pair_recorded p next done none onward =
      let forms =
      instrs_pair r.thumb (region r.addr) cycles x (drop (suc j) (instrs_of f r first))
      p next in
      let all : (forms_from f r first j cycles).0
      ≡ Form.native (emit_pair (cycles + (x.cost + p.cost)) p.target p.ret) ∷ forms.0 =
      ap (λ (ys : List TimedInstr). (emit_instrs r.thumb (region r.addr) cycles ys).0) here
      ∙ forms.1 in
      record {
        onward =
            subst (λ (d : Bool). Onward out at (code_from ks b j (forms_from f r first j cycles).0)
            (cond d end (code_from ks b (suc j) (forms_from f r first (suc j) s.cycles).0))
            out' s.at) (sym done)
            (subst (λ (fs : List Form). Onward out at (code_from ks b j fs) end out' s.at)
            (sym all) (onward forms.0));
        same = λ e. absurd (true≢false (sym done ∙ e));
        few = omega (arith, none);
      }
