-- What the claims about blocks suppose is possible: there is an interpreter that acts as a step of
-- the machine and leaves T equal to bit 0 of the key; a function's head declares pc.
use Prim.Native.Nat.{ℕ, ◌+◌, ◌*◌, ◌/◌, ◌%◌, ◌^◌}
use mathlib.Core.Path.{◌≡◌, refl, sym, ap, ◌∙◌}
use mathlib.Core.Bool.{Bool, true, false, true≢false}
use mathlib.Core.List.{List, ◌∷◌}
use mathlib.Core.Option.{none, some}
use native.Mathlib.Omega.{arith}
use lib.Dec.{eqb}
use Rattle.base_words.specs.Word.{bit, one_if}
use Rattle.armv4t.specs.Bit0.{clear_bit0}
use Rattle.c_tree.specs.Expr.{u32, x-pc}
use Rattle.c_tree.specs.Stmt.{Code}
use Rattle.c_meaning.specs.State.{update, index, Scope, empty, Interpreter, State, set_scopes}
use Rattle.c_meaning.specs.State.{Declares}
use Rattle.c_meaning.specs.Exec.{exec, step, runs}
use Rattle.c_meaning.specs.Helpers.{run}
use Rattle.armv4t_manual.specs.Machine.{Machine, cpsr, thumb_state}
use Rattle.armv4t_manual.specs.Execute.{key}
use Rattle.lower_forms.proofs.Steps.{ne}
use Rattle.lower_units.specs.Units.{with_locals}
use Rattle.claim_meaning.specs.Block.{Interprets, StepsKeepState}

-- a step that changes nothing and goes on where it stands, in the state that T tells, and a call of
-- an interpreter that does so
abbrev pub still : ℕ → Machine → Machine × ℕ
still a m = (m, key (thumb_state m) (clear_bit0 a))

abbrev pub idle : Interpreter
idle c mem =
    record {
      c = update 15 (clear_bit0 (c 15)) c;
      mem = mem;
      answer = key (bit (c 16) 5) (clear_bit0 (c 15));
    }

-- bit 5 of the status register is T
t_of_status : (m : Machine) → bit (cpsr m) 5 ≡ thumb_state m
t_of_status m =
    ap (λ (k : ℕ). eqb k 1)
    (go (one_if m.n * 8 + one_if m.z * 4 + one_if m.c * 2 + one_if m.v) m.other_bits)
  where
    go : (f o : ℕ) → (f * 2 ^ 28 + o) / 2 ^ 5 % 2 ≡ o / 2 ^ 5 % 2
    go f o = omega arith

-- a key without bit 0 is its address
key_cleared : (t : Bool) (a : ℕ) → clear_bit0 a ≡ clear_bit0 (key t (clear_bit0 a))
key_cleared true a = omega arith
key_cleared false a = omega arith

pub an_interpreter : Interprets still idle
an_interpreter z m e s a =
    record {
      sound = s;
      same =
          record {
            regs = λ i l. ap (λ (f : Interpreter). (f z.c z.mem).c i) e
                ∙ rw (ne i 15 l) (a.regs i l);
            flags = ap (λ (f : Interpreter). (f z.c z.mem).c 16) e ∙ a.flags;
            memory = ap (λ (f : Interpreter). (f z.c z.mem).mem) e ∙ a.memory;
          };
      answers = ap (λ (f : Interpreter). (f z.c z.mem).answer) e
          ∙ ap (λ (t : Bool). key t (clear_bit0 (z.c 15)))
          (ap (λ (w : ℕ). bit w 5) a.flags ∙ t_of_status m);
      pc = ap (λ (f : Interpreter). (f z.c z.mem).c 15) e
          ∙ key_cleared (thumb_state m) (z.c 15);
    }

-- and its steps leave T equal to bit 0 of the key
key_bit : (t : Bool) (a : ℕ) → bit (key t (clear_bit0 a)) 0 ≡ t
key_bit true a =
    ap (λ (k : ℕ). eqb k 1) (let e : (a / 2 * 2 + 1) / 1 % 2 ≡ 1 = omega arith in e)
key_bit false a =
    ap (λ (k : ℕ). eqb k 1) (let e : (a / 2 * 2 + 0) / 1 % 2 ≡ 0 = omega arith in e)

pub steps_keep : StepsKeepState (λ k. still)
steps_keep k a m = sym (key_bit (thumb_state m) a)

-- not every step does: one that leads to the key 1 whatever T is
pub not_kept : StepsKeepState (λ k a m. (m, 1)) → ⊥
not_kept h =
    true≢false
    (sym (h 0 0 (record {
      r = λ i. 0;
      n = false;
      z = false;
      c = false;
      v = false;
      other_bits = 0;
      mem = λ a. 0;
    })))

-- after c and pc, at the head of a function, pc is declared, and nothing else has changed
pub locals_declared : (c : Code) (z : State) (fs : List Scope) → z.scopes ≡ empty ∷ fs
    → (y : State) × (run (with_locals c) z ≡ run c y) × Declares y.scopes (u32, x-pc)
    × (y.c ≡ z.c) × (y.mem ≡ z.mem) × (y.interpreter ≡ z.interpreter)
    × (y.answers ≡ z.answers)
unfolding with_locals run runs step exec
locals_declared c z fs e = (
  set_scopes (update (index x-pc) (some (u32, none)) empty ∷ fs) z,
  rw e,
  (none, refl),
  refl,
  refl,
  refl,
  refl,
)
