-- Steps: the rows of a group in the work numbers, and the row of one of its members.
use Rattle.std.specs.Prelude.{ℕ, suc, ◌+◌, ◌≤◌, ◌<◌, ◌≡◌, List, length}
use Rattle.file_blocks.specs.Parse.{blocks_of}
use Rattle.plan_groups.specs.Plan.{groups}
use Rattle.plan_groups.specs.Groups.{HasRoom}
use Rattle.plan_members.specs.declared.group_rows.Rows.{Rows}
use Rattle.plan_members.specs.Members.{members_of, start_of}
use Rattle.plan_members.specs.Prepared.{HoldsPlan}

-- the work numbers have some rows, one at least
abbrev pub HasRows : List ℕ → List ℕ → Rows → Type 0
HasRows f work r = HasRoom f work r.blocks × (r.first < r.end) × (r.end ≤ r.blocks)

-- the same, and one of them is that of member k
abbrev pub HasRow : List ℕ → List ℕ → Rows → ℕ → Type 0
HasRow f work r k = HasRows f work r × (r.first + k < r.end)

-- some rows are those of group g
pub record IsGroup (f : List ℕ) (limit : ℕ) (work : List ℕ) (g : ℕ) (r : Rows) : Type 0 where
  pub ready : HoldsPlan f r.blocks limit work
  pub first : r.first ≡ start_of (groups limit (blocks_of f)) g
  pub next : r.end ≡ start_of (groups limit (blocks_of f)) (suc g)

-- row p is that of member k of group g, in a file of n blocks
pub record IsRow (f : List ℕ) (n limit : ℕ) (work : List ℕ) (g k p : ℕ) : Type 0 where
  pub ready : HoldsPlan f n limit work
  pub place : p ≡ start_of (groups limit (blocks_of f)) g + k
  pub inside : k < length (members_of limit (blocks_of f) g)
