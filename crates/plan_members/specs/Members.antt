-- Steps: the members of the groups of a plan, their keys, and the rows where they stand.
use Rattle.std.specs.Prelude.{ℕ, zero, suc, ◌+◌, Bool, cond, List, [], ◌∷◌, map, length, get_or}
use Rattle.file_blocks.specs.Parse.{Block, block_key, blocks_of}
use Rattle.plan_groups.specs.Plan.{groups}

-- the blocks of a group, by its number
abbrev pub members_of : ℕ → List Block → ℕ → List ℕ
members_of limit bs g = get_or (groups limit bs) g []

-- the keys of some blocks, by their numbers
abbrev pub member_keys : List Block → List ℕ → List ℕ
member_keys bs is = map (λ (i : ℕ). get_or (map block_key bs) i 0) is

-- the keys of the members of group g of a file
abbrev pub group_keys : ℕ → List ℕ → ℕ → List ℕ
group_keys limit f g = member_keys (blocks_of f) (members_of limit (blocks_of f) g)

-- the keys that a member of group g transfers to by a goto: those of its group where `several` is
-- true, and none where it is false
abbrev pub keys_within : Bool → ℕ → List ℕ → ℕ → List ℕ
keys_within several limit f g = cond several (group_keys limit f g) []

-- the row of the first member of a group
unfoldable pub start_of : List (List ℕ) → ℕ → ℕ
start_of gs zero = 0
start_of [] (suc g) = 0
start_of (is ∷ gs) (suc g) = length is + start_of gs g
