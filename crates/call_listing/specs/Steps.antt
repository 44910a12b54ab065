-- Steps: the work numbers as the lines of a listing are written from them.
use Rattle.std.specs.Prelude.{◌≡◌, ℕ, ◌+◌, ◌<◌, List, slice_index}
use Rattle.file_blocks.specs.Parse.{blocks_of}
use Rattle.plan_groups.specs.Plan.{plan}
use Rattle.plan_groups.specs.Plan.{group_of}

-- quarter 1 has the group of each block, as a limit makes them
abbrev pub HoldsGroups : List ℕ → ℕ → ℕ → List ℕ → Type 0
HoldsGroups f n limit work = (i : ℕ) → i < n
    → slice_index work (n + i) ≡ group_of i (plan limit (blocks_of f))
