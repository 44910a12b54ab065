-- Lines of the text, run as code, do what their plain statements do.
use Prim.Native.Nat.{ℕ}
use mathlib.Core.Path.{◌≡◌, refl, sym, ap, ◌∙◌}
use mathlib.Core.List.{List, [], ◌∷◌}
use mathlib.Core.Option.{Option, none, some}
use Rattle.c_tree.specs.Stmt.{Plain, Owner, plain, Code, ◌⨾◌}
use Rattle.c_meaning.specs.State.{bind, State}
use Rattle.c_meaning.specs.Exec.{Goes, Outcome, next, on, exec, step, runs}
use Rattle.c_meaning.specs.Perform.{execs, perform}
use Rattle.c_meaning.specs.Helpers.{called, rotated, run}
use Rattle.c_meaning.proofs.Append.{bind_bind, bind_same, execs_append}
use Rattle.lower_forms.specs.Forms.{Lines}
use Rattle.lower_units.specs.Block.{nl, line, lines}
use Rattle.lower_forms.specs.Means.{statements}

-- a plain statement that ends
led : (o : Option State) (f : State → Outcome)
    → bind {A = State × Goes} (bind {B = State × Goes} o (λ u. some (u, on)))
    (λ q. next q.1 q.0 f) ≡ bind o f
led none f = refl
led (some z) f = refl

pub run_plain : (o : Owner) (p : Plain) (c : Code) (z : State)
    → run (plain o p ⨾ c) z ≡ bind (exec rotated called p z) (run c)
unfolding run runs step
run_plain o p c z = led (exec rotated called p z) (runs rotated called c)

bind_some : {A : Type 0} (o : Option A) → bind o (λ x. some x) ≡ o
bind_some none = refl
bind_some (some x) = refl

-- a line
pub run_line : (o : Owner) (ps : List Plain) (c : Code) (z : State)
    → run (line o ps c) z ≡ bind (perform ps z) (run c)
unfolding run runs step perform execs
run_line o [] c z = refl
run_line o (p ∷ []) c z =
    led (exec rotated called p z) (runs rotated called c)
    ∙ ap (λ (q : Option State). bind q (runs rotated called c))
    (sym (bind_some (exec rotated called p z)))
run_line o (p ∷ q ∷ ps) c z =
    led (exec rotated called p z) (λ u. run (line o (q ∷ ps) c) u)
    ∙ bind_same (exec rotated called p z) (run (line o (q ∷ ps) c))
    (λ u. bind (perform (q ∷ ps) u) (run c)) (run_line o (q ∷ ps) c)
    ∙ sym (bind_bind (exec rotated called p z) (perform (q ∷ ps)) (run c))

-- lines
pub run_lines : (o : Owner) (n : ℕ) (ls : Lines) (c : Code) (z : State)
    → run (lines o n ls c) z ≡ bind (perform (statements ls) z) (run c)
unfolding run runs step perform execs
run_lines o n [] c z = refl
run_lines o n (l ∷ ls) c z =
    run_line o l (nl ⨾ lines o n ls c) z
    ∙ bind_same (perform l z) (run (nl ⨾ lines o n ls c))
    (λ u. bind (perform (statements ls) u) (run c)) (run_lines o n ls c)
    ∙ sym (bind_bind (perform l z) (perform (statements ls)) (run c))
    ∙ ap (λ (q : Option State). bind q (run c))
    (sym (execs_append rotated called l (statements ls) z))
