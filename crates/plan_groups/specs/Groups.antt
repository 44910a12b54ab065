-- Steps: what grouping makes of the work numbers, step by step.
use Rattle.std.specs.Prelude.{ℕ, ◌+◌, ◌*◌, ◌≤◌, ◌<◌, ◌≡◌, List, length, get_or, take, drop}
use Rattle.file_records.specs.Trailer.{block_count, block_start}
use Rattle.file_records.specs.BlockRecord.{count_sum}
use Rattle.file_blocks.specs.Parse.{block_at, blocks_of}
use Rattle.file_keys.specs.Order.{block_keys, key_order}
use Rattle.plan_groups.specs.Plan.{join_block, parents, plan}
use Rattle.base_lists.specs.Interleave.{interleave}
use Rattle.base_forest.specs.Forest.{Flatter, Forest, SameRoots}
use Rattle.base_forest.specs.Roots.{root}

-- work numbers enough for the n blocks of a file, of which there are at most 65,536
abbrev pub HasRoom : List ℕ → List ℕ → ℕ → Type 0
HasRoom f work n = (4 * n ≤ length work) × (n ≤ 65536) × (n ≡ block_count f)

-- the same, and block i is one of them
abbrev pub HasRoomAt : List ℕ → List ℕ → ℕ → ℕ → Type 0
HasRoomAt f work n i = (4 * n ≤ length work) × (n ≤ 65536) × (i < n) × (n ≡ block_count f)

-- quarter 0 has all blocks in the order of their keys
abbrev pub HasOrder : List ℕ → ℕ → List ℕ → Type 0
HasOrder f n work = take n work ≡ key_order (block_keys f)

-- the rows of n blocks in the work numbers: group numbers in quarter 2, blocks in quarter 0
abbrev pub rows_in : ℕ → List ℕ → List ℕ
rows_in n work = interleave (take n (drop (2 * n) work)) (take n work)

-- quarter 1 of the work numbers: the parents
abbrev pub quarter1 : ℕ → List ℕ → List ℕ
quarter1 n work = take n (drop n work)

-- quarter 2 has the root of block i, its other numbers, those after it and quarter 0 are as they
-- were, and no root changed
pub record Rooted (n i : ℕ) (work work' : List ℕ) : Type 0 where
  pub same : length work' ≡ length work
  pub flatter : Flatter (quarter1 n work) (quarter1 n work')
  pub here : get_or work' (2 * n + i) 0 ≡ root (quarter1 n work) i
  pub small : get_or work' (2 * n + i) 0 < n
  pub before : (k : ℕ) → k < n → get_or work' k 0 ≡ get_or work k 0
  pub other : (k : ℕ) → 2 * n ≤ k → (k ≡ 2 * n + i → ⊥) → get_or work' k 0 ≡ get_or work k 0

-- quarter 2 has the roots of the first m blocks, quarter 0 and the numbers after quarter 2 are as
-- they were, and no root changed; quarter 2 from block m on is not spoken of
pub record AllRooted (n m : ℕ) (work work' : List ℕ) : Type 0 where
  pub same : length work' ≡ length work
  pub flatter : Flatter (quarter1 n work) (quarter1 n work')
  pub here : (j : ℕ) → j < m → get_or work' (2 * n + j) 0 ≡ root (quarter1 n work) j
  pub small : (j : ℕ) → j < m → get_or work' (2 * n + j) 0 < n
  pub before : (k : ℕ) → k < n → get_or work' k 0 ≡ get_or work k 0
  pub after : (k : ℕ) → 3 * n ≤ k → get_or work' k 0 ≡ get_or work k 0

-- what some edges make of the work numbers of n blocks: only parents may change, each edge makes
-- the path to a root at most one step longer, and the roots are those of the definition
pub record Joined (edges n : ℕ) (work work' : List ℕ) (joins : List ℕ → List ℕ) : Type 0 where
  pub same : length work' ≡ length work
  pub before : (k : ℕ) → k < n → get_or work' k 0 ≡ get_or work k 0
  pub after : (k : ℕ) → 2 * n ≤ k → get_or work' k 0 ≡ get_or work k 0
  pub depth : (d : ℕ) → Forest d (quarter1 n work) → Forest (d + edges) (quarter1 n work')
  pub roots : (d : ℕ) (q : List ℕ) → d + edges ≤ 2 * n → SameRoots d (quarter1 n work) q
      → SameRoots (d + edges) (quarter1 n work') (joins q)

-- quarter 3 has the number of each block's first instruction
abbrev pub HasFirsts : List ℕ → ℕ → List ℕ → Type 0
HasFirsts f n work = (i : ℕ) → i < n → get_or work (3 * n + i) 0 ≡ count_sum f i

-- quarter 3 was filled so, and no other number changed
pub record FirstsInQuarter3 (f : List ℕ) (n : ℕ) (work work' : List ℕ) : Type 0 where
  pub same : length work' ≡ length work
  pub before : (k : ℕ) → k < 3 * n → get_or work' k 0 ≡ get_or work k 0
  pub after : (k : ℕ) → 4 * n ≤ k → get_or work' k 0 ≡ get_or work k 0
  pub firsts : HasFirsts f n work'

-- the edges from block i, as its record has it
abbrev pub join_record : List ℕ → ℕ → List ℕ → List ℕ
join_record f i q = join_block (blocks_of f) i (block_at f (block_start f i) (count_sum f i)) q

-- quarter 1 has parents with the roots of the definition, and no other number changed
pub record AllJoined (f : List ℕ) (n : ℕ) (work work' : List ℕ) : Type 0 where
  pub same : length work' ≡ length work
  pub before : (k : ℕ) → k < n → get_or work' k 0 ≡ get_or work k 0
  pub after : (k : ℕ) → 2 * n ≤ k → get_or work' k 0 ≡ get_or work k 0
  pub forest : Forest (2 * n) (quarter1 n work')
  pub roots : (k : ℕ) → k < n → root (quarter1 n work') k ≡ root (parents (blocks_of f)) k

-- what grouping makes of the work numbers: quarters 0 and 2 have the blocks in emission order and
-- their group numbers, and nothing past the four quarters changed
pub record Grouped (f : List ℕ) (n limit : ℕ) (work work' : List ℕ) : Type 0 where
  pub same : length work' ≡ length work
  pub after : (k : ℕ) → 4 * n ≤ k → get_or work' k 0 ≡ get_or work k 0
  pub rows : rows_in n work' ≡ plan limit (blocks_of f)
