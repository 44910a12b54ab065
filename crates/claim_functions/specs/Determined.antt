-- To be believed: that C's reading is one: from one state there is one execution, which may be looked
-- at at any time.
use Rattle.std.specs.Prelude.{ℕ, ◌≡◌, Bool}
use mathlib.Core.List.{List, ◌++◌, Memᴰ}
use Rattle.file_blocks.specs.Parse.{Block, AcceptedAs}
use Rattle.c_tree.specs.Stmt.{Code, block, function}
use Rattle.c_meaning.specs.State.{State}
use Rattle.lower_units.specs.Units.{TranslationUnit, units}
use Rattle.claim_ways.specs.Ways.{Event}
use Rattle.claim_functions.specs.Execution.{Result, underway, Executes}

-- some answers and events are the beginning of others
pub record Begins (xs : List Bool) (es : List Event) (xs' : List Bool) (es' : List Event) : Type 0
  where
    pub later_answers : List Bool
    pub later_events : List Event
    pub answers : xs' ≡ xs ++ later_answers
    pub events : es' ≡ es ++ later_events

-- two executions are one, as far as they have come: they have come to the same, with the same
-- answers and events, or one is under way and the beginning of the other
pub data Alike (xs : List Bool) (es : List Event) (r : Result) (xs' : List Bool) (es' : List Event)
    (r' : Result) : Type 0 where
  same : xs ≡ xs' → es ≡ es' → r ≡ r' → Alike xs es r xs' es' r'
  behind : r ≡ underway → Begins xs es xs' es' → Alike xs es r xs' es' r'
  ahead : r' ≡ underway → Begins xs' es' xs es → Alike xs es r xs' es' r'

-- of a file, if it is accepted: every unit, every block's function in it, every state, and every
-- two executions from there
unfoldable pub ExecutionDetermined : ℕ → ℕ → ℕ → List ℕ → Type 0
ExecutionDetermined multiplier limit max f =
    (bs : List Block) → AcceptedAs f bs → (u : TranslationUnit)
    → Memᴰ u (units multiplier limit max bs)
    → (h : ℕ) (c : Code) → Memᴰ (function (block h) c) u.tree
    → (z : State) (xs : List Bool) (es : List Event) (r : Result) → Executes u.tree c z xs es r
    → (xs' : List Bool) (es' : List Event) (r' : Result) → Executes u.tree c z xs' es' r'
    → Alike xs es r xs' es' r'
