-- Steps: what the readers of exits answer.
use Rattle.std.specs.Prelude.{◌≡◌, ℕ, List, map, Option, Some, None}
use Rattle.std.proofs.Math.Option as maybe
use Rattle.std.proofs.Math.ListN.{get_elem?}
use Rattle.armv4t.specs.declared.Instr.{Instr}
use Rattle.armv4t.specs.Fused.{fuse}
use Rattle.file_records.specs.Trailer.{block_start}
use Rattle.file_blocks.specs.declared.read.BlockRecord.{BlockRecord}
use Rattle.file_blocks.specs.Parse.{block_at, blocks_of, Accepted}
use Rattle.file_blocks.specs.Read.{IsBlock}
use Rattle.plan_exits.specs.declared.exits.Exits.{Exits}
use Rattle.plan_exits.specs.Exits.{exits, keys_of}

-- the keys of the exits of a block that there is
abbrev pub found_keys : Option Exits → maybe.Option (List ℕ)
found_keys (Some e) = maybe.some (keys_of e)
found_keys None = maybe.none

-- no instruction makes a pair with this one after it
abbrev pub EndsNoPair : Instr → Type 0
EndsNoPair i = (before : Instr) → fuse before i ≡ None

-- these are the exits of the block with a record, whichever block of an accepted file has it
abbrev pub AreExits : List ℕ → BlockRecord → ℕ → Exits → Type 0
AreExits f b first e =
    (i : ℕ) → IsBlock f i b first → keys_of e ≡ exits (block_at f (block_start f i) first)

-- in an accepted file these are the exits of block i, or there is no such block
abbrev pub AreFoundExits : List ℕ → ℕ → Option Exits → Type 0
AreFoundExits f i e = Accepted f → found_keys e ≡ get_elem? (map exits (blocks_of f)) i
