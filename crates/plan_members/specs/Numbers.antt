-- Steps: what the work numbers hold while quarter 1 gets the group of each block.
use Rattle.std.specs.Prelude.{ℕ, ◌+◌, ◌*◌, ◌≤◌, ◌<◌, ◌≡◌, List, length, get_or, take, drop}
use Rattle.plan_groups.specs.Plan.{group_of}
use Rattle.base_lists.specs.Interleave.{interleave}

-- the rows from row p on, in quarters 2 and 0
abbrev pub rows_in_from : ℕ → List ℕ → ℕ → List ℕ
rows_in_from n work p = interleave (drop p (take n (drop (2 * n) work))) (drop p (take n work))

-- quarter 1 has the groups of the rows from row p on, and no other number changed
pub record GroupsFrom (n p : ℕ) (work work' : List ℕ) : Type 0 where
  pub same : length work' ≡ length work
  pub before : (k : ℕ) → k < n → get_or work' k 0 ≡ get_or work k 0
  pub after : (k : ℕ) → 2 * n ≤ k → get_or work' k 0 ≡ get_or work k 0
  pub groups : (i : ℕ) → i < n → get_or work' (n + i) 0 ≡ group_of i (rows_in_from n work p)
