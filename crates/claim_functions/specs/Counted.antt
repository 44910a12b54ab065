-- To be believed: what demand 3 counts in the events of an execution, and the same read off what
-- its blocks carry out.
use Rattle.std.specs.Prelude.{ℕ, ◌+◌, List, [], ◌∷◌, ◌++◌}
use Rattle.file_instrs.specs.declared.decode.TimedInstr.{TimedInstr}
use Rattle.file_blocks.specs.Parse.{Block, block_key}
use Rattle.c_meaning.specs.State.{State}
use Rattle.armv4t_manual.specs.Machine.{Machine}
use Rattle.claim_meaning.specs.Block.{CarriedOut, by_manual, by_interpreter, Sequence, last, pair}
use Rattle.claim_meaning.specs.Block.{more, Carries, in_order, granted, absent, refused}
use Rattle.claim_ways.specs.Ways.{Event, reach, said, native_start, interpreted}
use Rattle.claim_functions.specs.Chain.{Chain, c_last, c_more}

-- the events that demand 3 counts, in their order: records carried out by their text, or by the
-- interpreter
abbrev pub counted : List Event → List Event
counted [] = []
counted (reach o ∷ es) = counted es
counted (said t x ∷ es) = counted es
counted (native_start k i n ∷ es) = native_start k i n ∷ counted es
counted (interpreted k i ∷ es) = interpreted k i ∷ counted es

module _ {step : ℕ → ℕ → Machine → Machine × ℕ} {region : ℕ} where
  -- what is to be counted for a record, with the index i in the block with the key k
  abbrev pub record_event : {x : TimedInstr} {m : Machine} {next : Machine × ℕ} {before after : ℕ}
      → ℕ → ℕ → CarriedOut step region x m next before after → Event
  record_event k i (by_manual n e f) = native_start k i 1
  record_event k i (by_interpreter n e f) = interpreted k i

  -- for records one after the other, the first with the index i; a fused pair is two
  abbrev pub sequence_events : {before after : ℕ} {xs : List TimedInstr} {m : Machine}
      {out : Machine × ℕ} → ℕ → ℕ → Sequence step region before after xs m out → List Event
  sequence_events k i (last a b x xs m next alone by ends) = record_event k i by ∷ []
  sequence_events k i (pair n x y xs target ret m half next e f g) = native_start k i 2 ∷ []
  sequence_events k i (more a b c x xs m next out alone by stays e s) =
      record_event k i by ∷ sequence_events k (i + 1) s

  -- for a block: its records, or the interpreter's step in their place
  abbrev pub block_events : {multiplier : ℕ} {b : Block} {z : State} {m : Machine}
      {out : Machine × ℕ} {used : ℕ} → ℕ → Carries step region multiplier b z m out used
      → List Event
  block_events k (in_order n e s) = sequence_events k 0 s
  block_events k (granted n h e f g s) = sequence_events k 0 s
  block_events k (absent e f s) = interpreted k 0 ∷ []
  block_events k (refused h e f g s) = interpreted k 0 ∷ []

module _ {step : ℕ → ℕ → Machine → Machine × ℕ} {multiplier : ℕ} {Member : Block → Type 0}
    {out : Machine × ℕ} where
  -- for blocks one after the other
  abbrev pub chain_events : {n k : ℕ} {z : State} {m : Machine}
      → Chain step multiplier Member out n k z m → List Event
  chain_events (c_last b used i e by) = block_events (block_key b) by
  chain_events (c_more b used next y i e by l r c) = block_events (block_key b) by ++ chain_events c

  -- for the last of them
  abbrev pub last_events : {n k : ℕ} {z : State} {m : Machine}
      → Chain step multiplier Member out n k z m → List Event
  last_events (c_last b used i e by) = block_events (block_key b) by
  last_events (c_more b used next y i e by l r c) = last_events c
