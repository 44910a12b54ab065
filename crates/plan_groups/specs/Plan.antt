-- To be believed: the plan, that is which blocks share a group, and the order in which groups and
-- blocks are emitted.
use Rattle.std.specs.Prelude.{ℕ, zero, suc, ◌+◌, Bool, not, cond, ◌&&◌, List, [], ◌∷◌, ◌++◌, map, length, get_or, ltb, eqb}
use Rattle.std.proofs.Math.Option.{Option, none, some}
use Rattle.file_blocks.specs.Parse.{Block, block_key}
use Rattle.file_keys.specs.Order.{sort_by_key}
use Rattle.plan_exits.specs.Exits.{exits}
use Rattle.base_forest.specs.Roots.{root, hang}
use Rattle.base_lists.specs.Lists.{is_empty, range}
use Rattle.plan_search.specs.Target.{joinable, target}

-- the edge (document 01) from block i to the block that was found for a key, if there is one
abbrev pub join_to : ℕ → List ℕ → Option ℕ → List ℕ
join_to i p none = p
join_to i p (some j) = hang p i j

-- the edges from block i to its exits, in their order
unfoldable pub join_exits : List Block → ℕ → List ℕ → List ℕ → List ℕ
join_exits all i p [] = p
join_exits all i p (k ∷ ks) = join_exits all i (join_to i p (target k all 0)) ks

-- the edges from block i, which is b: none where it is not of page 8
abbrev pub join_block : List Block → ℕ → Block → List ℕ → List ℕ
join_block all i b p = cond (joinable b) (join_exits all i p (exits b)) p

-- the edges from some blocks counted from i, in their order
unfoldable pub join_blocks : List Block → List ℕ → ℕ → List Block → List ℕ
join_blocks all p i [] = p
join_blocks all p i (b ∷ bs) = join_blocks all (join_block all i b p) (suc i) bs

-- the parents after all edges; at first each block is its own
unfoldable pub parents : List Block → List ℕ
parents bs = join_blocks bs (range (length bs) 0) 0 bs

-- of n blocks from block i on those whose root is r, where rootOf gives a block's root
unfoldable pub with_root : (ℕ → ℕ) → ℕ → ℕ → ℕ → List ℕ
with_root rootOf r zero i = []
with_root rootOf r (suc n) i =
    cond (eqb (rootOf i) r) (i ∷ with_root rootOf r n (suc i)) (with_root rootOf r n (suc i))

-- the component (document 01) with root r, among n blocks with these parents
abbrev pub members : List ℕ → ℕ → ℕ → List ℕ
members p r n = with_root (root p) r n 0

-- a part as a list of one, or no part where it is empty
abbrev pub as_parts : List ℕ → List (List ℕ)
as_parts [] = []
as_parts (i ∷ is) = (i ∷ is) ∷ []

-- whether a part closes before a block with so many instructions: it is open, so not empty, and the
-- block would push its total over the limit
abbrev pub closes : ℕ → ℕ → Bool → ℕ → Bool
closes limit total isOpen count = ltb limit (total + count) && isOpen

-- cuts a component into parts (document 01): one closes before a block that would push it over the
-- limit, unless it is empty
unfoldable pub parts : ℕ → List ℕ → List ℕ → ℕ → List ℕ → List (List ℕ)
parts limit counts part total [] = as_parts part
parts limit counts part total (i ∷ is) =
    cond (closes limit total (not (is_empty part)) (get_or counts i 0))
    (part ∷ parts limit counts (i ∷ []) (get_or counts i 0) is)
    (parts limit counts (part ++ (i ∷ [])) (total + get_or counts i 0) is)

-- the groups of the components with the n roots from r on; a number that is no root has no members
unfoldable pub groups_from : ℕ → List Block → List ℕ → ℕ → ℕ → List (List ℕ)
groups_from limit bs p zero r = []
groups_from limit bs p (suc n) r =
    parts limit (map (λ (b : Block). length b.instrs) bs) [] 0
    (sort_by_key (map block_key bs) (members p r (length bs)))
    ++ groups_from limit bs p n (suc r)

-- the groups (document 01) of some blocks, in emission order (document 01)
unfoldable pub groups : ℕ → List Block → List (List ℕ)
groups limit bs = groups_from limit bs (parents bs) (length bs) 0

-- two numbers for each block of a group: the group's number and the block's
abbrev pub group_rows : ℕ → List ℕ → List ℕ
group_rows g [] = []
group_rows g (i ∷ is) = g ∷ i ∷ group_rows g is

-- the rows of groups counted from g
unfoldable pub rows_from : ℕ → List (List ℕ) → List ℕ
rows_from g [] = []
rows_from g (is ∷ gs) = group_rows g is ++ rows_from (suc g) gs

-- the plan (document 01): in emission order two numbers for each block, group from 0 and block
-- index
unfoldable pub plan : ℕ → List Block → List ℕ
plan limit bs = rows_from 0 (groups limit bs)

-- the group of block i in the rows of a plan; 0 where no row has the block
unfoldable pub group_of : ℕ → List ℕ → ℕ
group_of i [] = 0
group_of i (g ∷ []) = 0
group_of i (g ∷ j ∷ rows) = cond (eqb j i) g (group_of i rows)
