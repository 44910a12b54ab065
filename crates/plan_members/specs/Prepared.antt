-- Steps: what the work numbers hold for the passes over blocks and groups, four quarters of n
-- numbers each.
use Rattle.std.specs.Prelude.{ℕ, ◌*◌, ◌≤◌, ◌≡◌, List, length, get_or}
use Rattle.file_records.specs.Trailer.{block_count}
use Rattle.file_blocks.specs.Parse.{blocks_of, Accepted}
use Rattle.plan_groups.specs.Groups.{rows_in, HasFirsts}
use Rattle.plan_groups.specs.Plan.{plan}

-- the work numbers of an accepted file with n blocks: quarters 2 and 0 have the rows of the plan,
-- quarter 3 the number of each block's first instruction; quarter 1 is free
pub record HoldsPlan (f : List ℕ) (n limit : ℕ) (work : List ℕ) : Type 0 where
  pub accepted : Accepted f
  pub all : n ≡ block_count f
  pub room : 4 * n ≤ length work
  pub rows : rows_in n work ≡ plan limit (blocks_of f)
  pub firsts : HasFirsts f n work

-- they became so, and nothing past the four quarters changed
pub record Prepared (f : List ℕ) (n limit : ℕ) (work work' : List ℕ) : Type 0 where
  pub same : length work' ≡ length work
  pub after : (k : ℕ) → 4 * n ≤ k → get_or work' k 0 ≡ get_or work k 0
  pub ready : HoldsPlan f n limit work'
