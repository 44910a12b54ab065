-- Steps: what the readers of the work numbers answer, whichever plan these hold.
use Rattle.std.specs.Prelude.{ℕ, suc, ◌+◌, ◌<◌, ◌≡◌, List, length, get_or}
use Rattle.file_records.specs.BlockRecord.{count_sum}
use Rattle.file_blocks.specs.Parse.{blocks_of}
use Rattle.plan_groups.specs.Plan.{groups}
use Rattle.plan_members.specs.Members.{members_of, start_of}
use Rattle.plan_members.specs.Numbers.{GroupsFrom}
use Rattle.plan_members.specs.Prepared.{HoldsPlan}

-- i is the block of row p: where that is the row of member k of group g, it is that member
abbrev pub IsRowBlock : List ℕ → ℕ → ℕ → Type 0
IsRowBlock work p i =
    (f : List ℕ) (n limit g k : ℕ)
    → HoldsPlan f n limit work
    → p ≡ start_of (groups limit (blocks_of f)) g + k
    → k < length (members_of limit (blocks_of f) g)
    → i ≡ get_or (members_of limit (blocks_of f) g) k 0

-- h is the group of row p: where that is the row of a member of group g, it is g
abbrev pub IsRowGroup : List ℕ → ℕ → ℕ → ℕ → Type 0
IsRowGroup work n p h =
    (f : List ℕ) (limit g k : ℕ)
    → HoldsPlan f n limit work
    → p ≡ start_of (groups limit (blocks_of f)) g + k
    → k < length (members_of limit (blocks_of f) g)
    → h ≡ g

-- r is the number of the first instruction of block i
abbrev pub IsFirstInstr : List ℕ → ℕ → ℕ → ℕ → Type 0
IsFirstInstr work n i r = (f : List ℕ) (limit : ℕ) → HoldsPlan f n limit work → r ≡ count_sum f i

-- r is the first row of the group after the one that begins at row p
abbrev pub IsGroupEnd : List ℕ → ℕ → ℕ → ℕ → Type 0
IsGroupEnd work n p r =
    (f : List ℕ) (limit g : ℕ)
    → HoldsPlan f n limit work
    → p ≡ start_of (groups limit (blocks_of f)) g
    → r ≡ start_of (groups limit (blocks_of f)) (suc g)

-- quarter 1 has the group of row p too, where it had those of the rows after it
abbrev pub OneRowMore : ℕ → ℕ → List ℕ → List ℕ → Type 0
OneRowMore n p work work' =
    (work₀ : List ℕ) → GroupsFrom n (p + 1) work₀ work → GroupsFrom n p work₀ work'
