-- Executions that no other proof needs, though C99 has them: looked at inside a statement, or
-- inside a test, whether or not it has a value; the default of a switch; the parameter of a group's
-- function, which is a 32-bit number. Executions that are not alike.
use Prim.Native.Nat.{ℕ}
use mathlib.Core.Path.{◌≡◌, refl, subst}
use mathlib.Core.Bool.{Bool, true, false}
use mathlib.Core.List.{List, [], ◌∷◌}
use mathlib.Core.Option.{Option, none, some}
use native.Mathlib.Omega.{arith}
use lib.ListN.{get_elem?}
use Rattle.c_tree.specs.Expr.{Expr}
use Rattle.c_tree.specs.Stmt.{Plain, Test, gate, Owner, common, plain, goto, ret, ret_if, interp}
use Rattle.c_tree.specs.Stmt.{switch, Code, ◌⨾◌, when, Top}
use Rattle.c_meaning.specs.State.{State}
use Rattle.claim_ways.specs.Ways.{Event, reach, said, interpreted}
use Rattle.claim_functions.specs.Execution.{underway, returned, heard, ask, leave_all}
use Rattle.claim_functions.specs.Execution.{parameter, Execution, x_in, x_asking}
use Rattle.claim_functions.specs.Execution.{x_asking_ret, x_default}
use Rattle.claim_functions.specs.Determined.{Alike, same, behind, ahead}

module _ (ts : List Top) (f : Code) (n : Option ℕ) (c : Code) (ds : List Code) (z : State) where
  -- inside a plain statement, a goto, a return, or a call of interp_one
  pub inside : (o : Owner) (p : Plain) (e : Expr) (k i : ℕ)
      → Execution ts f n (plain o p ⨾ c) ds z [] (reach o ∷ []) underway
      × Execution ts f n (goto o k ⨾ c) ds z [] (reach o ∷ []) underway
      × Execution ts f n (ret o e ⨾ c) ds z [] (reach o ∷ []) underway
      × Execution ts f n (interp k i ⨾ c) ds z [] (interpreted k i ∷ []) underway
  inside o p e k i = (x_in, x_in, x_in, x_in)

  -- inside a test that has no value
  pub undefined_test : (o : Owner) (t : Test) (e : Expr) → ask t z ≡ none
      → Execution ts f n (ret_if o t e ⨾ c) ds z [] (reach o ∷ []) underway
  undefined_test o t e h =
      subst
      (λ q. Execution ts f n (ret_if o t e ⨾ c) ds z (heard o t q).0 (heard o t q).1 underway) h
      x_in

  -- inside the test of an if, with braces or with a return
  pub asking : (o : Owner) (x : Bool) (t : Test) (b : Code)
      → Execution ts f n (when o x t b c) ds z [] (reach o ∷ []) underway
  asking o x t b = x_asking

  pub asking_ret : (o : Owner) (t : Test) (e : Expr)
      → Execution ts f n (ret_if o t e ⨾ c) ds z [] (reach o ∷ []) underway
  asking_ret o t e = x_asking_ret

  -- a switch without an entry for the parameter
  pub no_entry : (i : ℕ) (ks : List ℕ) → get_elem? ks i ≡ none
      → Execution ts f (some i) (switch ks ⨾ c) ds z [] (reach common ∷ [])
      (returned (leave_all ds z) 0)
  no_entry i ks e = x_default e

-- 2^32 + 1 as a uint32_t
pub wraps : parameter 0x1_0000_0001 ≡ some 1
wraps = refl

-- two of which the gate says one thing and another are not one, wherever they have come
pub other_answer : (o : Owner)
    → Alike (true ∷ []) (reach o ∷ said gate true ∷ []) underway (false ∷ [])
    (reach o ∷ said gate false ∷ []) underway → ⊥
other_answer o (same p q e) = let z : ◌≡◌ {A = ℕ} 0 1 = cc in omega arith
other_answer o (behind e b) = let p = b.answers in let z : ◌≡◌ {A = ℕ} 0 1 = cc in omega arith
other_answer o (ahead e b) = let p = b.answers in let z : ◌≡◌ {A = ℕ} 0 1 = cc in omega arith

-- nor are two that carry out one record and another
pub other_record :
    Alike [] (interpreted 8 0 ∷ []) underway [] (interpreted 8 1 ∷ []) underway → ⊥
other_record (same p q e) = let z : ◌≡◌ {A = ℕ} 0 1 = cc in omega arith
other_record (behind e b) = let p = b.events in let z : ◌≡◌ {A = ℕ} 0 1 = cc in omega arith
other_record (ahead e b) = let p = b.events in let z : ◌≡◌ {A = ℕ} 0 1 = cc in omega arith

-- one that has returned comes no further
pub further : (y : State) (v : ℕ) (e : Event) → Alike [] [] (returned y v) [] (e ∷ []) underway → ⊥
further y v e (same p q r) = let z : ◌≡◌ {A = ℕ} 0 1 = cc in omega arith
further y v e (behind r b) = let z : ◌≡◌ {A = ℕ} 0 1 = cc in omega arith
further y v e (ahead r b) = let p = b.events in let z : ◌≡◌ {A = ℕ} 0 1 = cc in omega arith

-- two that have returned have one value
pub other_value : (y : State) → Alike [] [] (returned y 0) [] [] (returned y 1) → ⊥
other_value y (same p q e) = let z : ◌≡◌ {A = ℕ} 0 1 = cc in omega arith
other_value y (behind e b) = let z : ◌≡◌ {A = ℕ} 0 1 = cc in omega arith
other_value y (ahead e b) = let z : ◌≡◌ {A = ℕ} 0 1 = cc in omega arith
