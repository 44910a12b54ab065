-- Statements one after the other do what the first do, and then what the others do.
use Prim.Native.Nat.{ℕ}
use mathlib.Core.Path.{◌≡◌, refl, sym, ◌∙◌}
use mathlib.Core.Bool.{Bool, true, false, cond, beq}
use mathlib.Core.List.{List, [], ◌∷◌, ◌++◌}
use mathlib.Core.Option.{Option, none, some}
use Rattle.c_tree.specs.Stmt.{Plain, Code, end, ◌⨾◌, when, braces, ◌⧺◌, Helper}
use Rattle.c_meaning.specs.State.{bind, State, enter, leave}
use Rattle.c_meaning.specs.Exec.{Goes, on, to, back, Outcome, next, exec, asks, step, runs}
use Rattle.c_meaning.specs.Perform.{execs}

module _ {A B C : Type 0} where
  -- one bind after another
  pub bind_bind : (o : Option A) (f : A → Option B) (g : B → Option C)
      → bind (bind o f) g ≡ bind o (λ x. bind (f x) g)
  bind_bind none f g = refl
  bind_bind (some x) f g = refl

module _ {A B : Type 0} where
  -- what comes after may be another that does the same
  pub bind_same : (o : Option A) (f g : A → Option B) → ((x : A) → f x ≡ g x) → bind o f ≡ bind o g
  bind_same none f g h = refl
  bind_same (some x) f g h = h x

-- the same of where statements led
pub next_bind : (g : Goes) (z : State) (f k : State → Outcome)
    → bind (next g z f) (λ q. next q.1 q.0 k)
    ≡ next g z (λ u. bind (f u) (λ q. next q.1 q.0 k))
next_bind on z f k = refl
next_bind (to l) z f k = refl
next_bind (back x) z f k = refl

pub next_same : (g : Goes) (z : State) (f k : State → Outcome) → ((u : State) → f u ≡ k u)
    → next g z f ≡ next g z k
next_same on z f k h = h z
next_same (to l) z f k h = refl
next_same (back x) z f k h = refl

module _ (R : ℕ → ℕ → Option ℕ) (H : Helper → List ℕ → State → Outcome) where
  -- plain statements
  pub execs_append : (ps qs : List Plain) (z : State)
      → execs R H (ps ++ qs) z ≡ bind (execs R H ps z) (execs R H qs)
  unfolding execs
  execs_append [] qs z = refl
  execs_append (p ∷ ps) qs z =
      bind_same (exec R H p z) (execs R H (ps ++ qs)) (λ u. bind (execs R H ps u) (execs R H qs))
      (execs_append ps qs)
      ∙ sym (bind_bind (exec R H p z) (execs R H ps) (execs R H qs))

  -- what d does after an outcome, whose state a closing brace may change
  abbrev and_then : (State → State) → Code → State × Goes → Outcome
  and_then f d q = next q.1 (f q.0) (runs R H d)

  -- d alone, after an outcome
  abbrev then : Code → State × Goes → Outcome
  then d q = next q.1 q.0 (runs R H d)

  -- an outcome, then c ⧺ d, is the outcome, then c, and then d
  then_append : (f : State → State) (o : Outcome) (c d : Code)
      → ((u : State) → runs R H (c ⧺ d) u ≡ bind (runs R H c u) (then d))
      → bind o (and_then f (c ⧺ d)) ≡ bind (bind o (and_then f c)) (then d)
  then_append f o c d h =
      bind_same o (and_then f (c ⧺ d)) (λ q. bind (and_then f c q) (then d))
      (λ q.
      next_same q.1 (f q.0) (runs R H (c ⧺ d)) (λ u. bind (runs R H c u) (then d)) h
      ∙ sym (next_bind q.1 (f q.0) (runs R H c) (runs R H d)))
      ∙ sym (bind_bind o (and_then f c) (then d))

  -- the same of an if, whose test is b
  when_append : (b : Bool) (o : Outcome) (z : State) (c d : Code)
      → ((u : State) → runs R H (c ⧺ d) u ≡ bind (runs R H c u) (then d))
      → cond b (runs R H (c ⧺ d) z) (bind o (and_then leave (c ⧺ d)))
      ≡ bind (cond b (runs R H c z) (bind o (and_then leave c))) (then d)
  when_append true o z c d h = h z
  when_append false o z c d h = then_append leave o c d h

  -- code
  pub runs_append : (c d : Code) (z : State)
      → runs R H (c ⧺ d) z ≡ bind (runs R H c z) (λ q. next q.1 q.0 (runs R H d))
  unfolding runs
  runs_append end d z = refl
  runs_append (s ⨾ c) d z = then_append (λ u. u) (step R H s z) c d (runs_append c d)
  runs_append (when o n t b c) d z =
      bind_same (asks R H t z)
      (λ q. cond (beq n q.0) (runs R H (c ⧺ d) q.1)
      (bind (runs R H b (enter q.1)) (and_then leave (c ⧺ d))))
      (λ q. bind
      (cond (beq n q.0) (runs R H c q.1)
      (bind (runs R H b (enter q.1)) (and_then leave c))) (then d))
      (λ q. when_append (beq n q.0) (runs R H b (enter q.1)) q.1 c d
      (runs_append c d))
      ∙ sym
      (bind_bind (asks R H t z)
      (λ q. cond (beq n q.0) (runs R H c q.1)
      (bind (runs R H b (enter q.1)) (and_then leave c))) (then d))
  runs_append (braces b c) d z = then_append leave (runs R H b (enter z)) c d (runs_append c d)
