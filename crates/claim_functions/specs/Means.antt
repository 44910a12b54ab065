-- To be believed: what an execution means, and that there is one.
use Rattle.std.specs.Prelude.{ℕ, ◌≤◌, ◌≡◌, ◌⊎◌, Bool, true}
use mathlib.Core.List.{List, ◌++◌, Memᴰ}
use Rattle.std.proofs.Math.Option.{some}
use Rattle.std.proofs.Math.ListN.{get_elem?}
use Rattle.file_instrs.specs.declared.decode.TimedInstr.{TimedInstr}
use Rattle.file_blocks.specs.Parse.{Block, block_key, AcceptedAs}
use Rattle.file_blocks.specs.Address.{region}
use Rattle.c_tree.specs.Stmt.{Code, block, Top, function}
use Rattle.c_meaning.specs.State.{State}
use Rattle.armv4t_manual.specs.Machine.{Machine, Sound}
use Rattle.lower_forms.specs.Agree.{Agrees}
use Rattle.lower_units.specs.Units.{TranslationUnit, units}
use Rattle.claim_meaning.specs.Block.{Interprets, is_covered}
use Rattle.claim_ways.specs.Ways.{Event}
use Rattle.claim_ways.specs.Claim.{carried}
use Rattle.claim_functions.specs.Execution.{underway, returned, Executes}
use Rattle.claim_functions.specs.Chain.{SameGroup, Reaches, Chain}
use Rattle.claim_functions.specs.Counted.{counted, chain_events, last_events}

module _ (multiplier limit max : ℕ) (f : List ℕ) where
  -- of a file, if it is accepted: every unit, and every block with its function c in the unit,
  -- where all records of the blocks of its group are covered; every interpreter that acts as a step
  -- of the machine, and every state that agrees with a sound machine
  abbrev EachCovered :
      (List Block → ℕ → Block → List Top → Code → (ℕ → ℕ → Machine → Machine × ℕ) → State → Machine
      → Type 0) → Type 0
  EachCovered P =
      (bs : List Block) → AcceptedAs f bs → (i : ℕ) (b : Block)
      → get_elem? bs i ≡ some b
      → (u : TranslationUnit) → Memᴰ u (units multiplier limit max bs) → (c : Code)
      → Memᴰ (function (block (block_key b)) c) u.tree
      → ((d : Block) → SameGroup limit bs i d → (x : TimedInstr) → Memᴰ x d.instrs
      → is_covered (region d.addr) x ≡ true)
      → (step : ℕ → ℕ → Machine → Machine × ℕ) (z : State) (m : Machine)
      → ((k : ℕ) → Interprets (step k) (z.interpreter k)) → Sound m → Agrees z m
      → P bs i b u.tree c step z m

  -- each execution of the function from there that returns carries out a chain of blocks of the
  -- group, from this block on, and returns the key that the last one leads to; what demand 3 counts
  -- in its events is, in order, what they carry out
  unfoldable pub ExecutionMeans : Type 0
  ExecutionMeans = EachCovered λ bs i b ts c step z m.
      (xs : List Bool) (es : List Event) (y : State) (v : ℕ) → Executes ts c z xs es (returned y v)
      → (out : Machine × ℕ)
      × (chain : Chain step multiplier (SameGroup limit bs i) out 0 (block_key b) z m)
      × (v ≡ out.1) × Sound out.0 × Reaches y out
      × (counted es ≡ chain_events chain)

  -- each execution that is under way has carried out a beginning of such a chain, all of its blocks
  -- but the last, and of that a beginning: rest is to come
  unfoldable pub ExecutionBegins : Type 0
  ExecutionBegins = EachCovered λ bs i b ts c step z m.
      (xs : List Bool) (es : List Event) → Executes ts c z xs es underway
      → (out : Machine × ℕ)
      × (chain : Chain step multiplier (SameGroup limit bs i) out 0 (block_key b) z m)
      × Sound out.0
      × ((begun rest : List Event) × (last_events chain ≡ begun ++ rest)
      × (chain_events chain ≡ counted es ++ rest))

  -- C gets on from there: an execution of the function returns, or there are some that carry out as
  -- many instructions as is wished
  unfoldable pub ExecutionGetsOn : Type 0
  ExecutionGetsOn = EachCovered λ bs i b ts c step z m.
      (n : ℕ)
      → ((xs : List Bool) × (es : List Event) × (y : State) × (v : ℕ)
      × Executes ts c z xs es (returned y v))
      ⊎ ((xs : List Bool) × (es : List Event) × Executes ts c z xs es underway × (n ≤ carried es))
