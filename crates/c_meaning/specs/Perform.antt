-- Steps: an expression and plain statements of the text by themselves, and what they do.
use Rattle.std.specs.Prelude.{ℕ}
use mathlib.Core.List.{List, [], ◌∷◌}
use Rattle.std.proofs.Math.Option.{Option, some}
use Rattle.c_tree.specs.Expr.{Expr}
use Rattle.c_tree.specs.Stmt.{Plain, Helper}
use Rattle.c_meaning.specs.State.{bind, State}
use Rattle.c_meaning.specs.Eval.{eval}
use Rattle.c_meaning.specs.Exec.{Outcome, exec}
use Rattle.c_meaning.specs.Helpers.{rotated, called}

module _ (rorAnswer : ℕ → ℕ → Option ℕ) (helperCall : Helper → List ℕ → State → Outcome) where
  -- plain statements one after the other
  unfoldable pub execs : List Plain → State → Option State
  unfolding exec
  execs [] z = some z
  execs (p ∷ ps) z = bind (exec rorAnswer helperCall p z) (execs ps)

-- an expression of the text
unfoldable pub evaluate : Expr → State → Option ℕ
unfolding eval rotated
evaluate = eval rotated

-- plain statements of the text
unfoldable pub perform : List Plain → State → Option State
unfolding execs rotated called
perform = execs rotated called
