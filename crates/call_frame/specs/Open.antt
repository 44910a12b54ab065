-- Steps: what opening a file tells a call.
use Rattle.std.specs.Prelude.{ℕ, ◌*◌, ◌≤◌, ◌≡◌, List, length}
use Rattle.std.proofs.Math.Option.{Option, none, some}
use Rattle.file_records.specs.Trailer.{block_count}
use Rattle.file_blocks.specs.Parse.{Parsed, Accepted}
use Rattle.call_frame.specs.Frame.{Refusal, before_blocks}

-- the refusal of a file before its blocks are looked at
unfoldable pub opening : Option Refusal → ℕ → ℕ → Parsed → Option Refusal
opening early per_block lent (Parsed.refused n i) = some (record { number = n; place = i })
opening early per_block lent (Parsed.accepted bs) = before_blocks early lent (per_block * length bs)

-- a file with n blocks is open: it is accepted, and nothing else refuses it before its blocks are
-- looked at
pub record IsOpen (f : List ℕ) (early : Option Refusal) (per_block lent n : ℕ) : Type 0 where
  pub accepted : Accepted f
  pub blocks : n ≡ block_count f
  pub few : n ≤ 65536
  pub nothing : early ≡ none
  pub room : per_block * n ≤ lent
