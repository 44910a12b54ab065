-- The rows of a plan: those in the work numbers, and the blocks and groups that they name.
-- Assumes nothing.
use Prim.Native.Nat.{ℕ, zero, suc, ◌+◌, ◌*◌, ◌≤◌, ◌<◌}
use mathlib.Core.Path.{◌≡◌, refl, sym, ap, ap₂, ◌∙◌, subst}
use mathlib.Core.List.Memᴰ
use mathlib.Core.List.{List, [], ◌∷◌, ◌++◌, map, flatten, Memᴰ}
use mathlib.Core.Logic.{◌⊎◌, inl, inr}
use native.Mathlib.Nat.{le_of_suc-le-suc}
use native.Mathlib.Omega.{arith}
use native.Mathlib.Decide.{dec_lt}
use lib.ListN.{length, get_or, take, drop, length-append, length-drop, length-map}
use lib.Seq.{length-take-le, get_or-take, get_or-drop}
use Rattle.base_lists.specs.Interleave.{interleave}
use Rattle.base_lists.specs.Lists.{count}
use Rattle.base_lists.proofs.Counts.{counted}
use Rattle.base_lists.proofs.Places.{member_at, map_at}
use Rattle.base_text.specs.Doc.{nothing}
use Rattle.file_records.specs.Trailer.{block_count, block_start}
use Rattle.file_blocks.specs.declared.read.BlockRecord.{BlockRecord}
use Rattle.file_blocks.specs.Address.{key_of}
use Rattle.file_blocks.specs.Parse.{Block, block_at, blocks_of}
use Rattle.file_blocks.specs.Read.{record_at, IsBlock}
use Rattle.file_blocks.proofs.Accepted.{length_of_lem, record_reads}
use Rattle.file_blocks.proofs.IsBlock.{block_inside, block_record, nth_block}
use Rattle.file_blocks.proofs.OwnKey.{record_key}
use Rattle.plan_exits.specs.Exits.{exits}
use Rattle.plan_groups.specs.Plan.{groups, group_rows, rows_from, plan}
use Rattle.plan_groups.proofs.GroupLaws.{group_some, groups_once, groups_only}
use Rattle.plan_groups.proofs.PlanLength.{groups_length}
use Rattle.plan_members.specs.Prepared.{HoldsPlan}
use Rattle.call_pages.specs.Page.{page_line, block_line, Row, rows_of, row_line}
use Rattle.call_pages.specs.Claims.{row_numbers}
use Rattle.call_pages.specs.Steps.{row_at}

-- the block of a row
abbrev pub block_in : Row → ℕ
block_in r = r.block

-- two numbers as a row
abbrev row : ℕ → ℕ → Row
row g i = record { group = g; block = i }

rows_two : (xs ys : List ℕ) (p : ℕ) → p < length xs → p < length ys
    → get_or (rows_of (interleave xs ys)) p (row 0 0) ≡ row (get_or xs p 0) (get_or ys p 0)
unfolding rows_of interleave
rows_two [] ys p h k = absurd (omega arith)
rows_two (x ∷ xs) [] p h k = absurd (omega arith)
rows_two (x ∷ xs) (y ∷ ys) zero h k = refl
rows_two (x ∷ xs) (y ∷ ys) (suc p) h k =
    rows_two xs ys p (le_of_suc-le-suc h) (le_of_suc-le-suc k)

-- the blocks of the rows are the members of the groups
blocks_here : (g : ℕ) (is rest : List ℕ)
    → map block_in (rows_of (group_rows g is ++ rest)) ≡ is ++ map block_in (rows_of rest)
unfolding rows_of
blocks_here g [] rest = refl
blocks_here g (i ∷ is) rest = ap (λ (js : List ℕ). i ∷ js) (blocks_here g is rest)

blocks_from : (g : ℕ) (gs : List (List ℕ)) → map block_in (rows_of (rows_from g gs)) ≡ flatten gs
unfolding rows_of rows_from flatten
blocks_from g [] = refl
blocks_from g (is ∷ gs) =
    blocks_here g is (rows_from (suc g) gs) ∙ ap (λ (js : List ℕ). is ++ js) (blocks_from (suc g) gs)

-- with their groups they are the plan's numbers
numbers_here : (g : ℕ) (is rest : List ℕ)
    → flatten (map row_numbers (rows_of (group_rows g is ++ rest)))
    ≡ group_rows g is ++ flatten (map row_numbers (rows_of rest))
unfolding rows_of flatten
numbers_here g [] rest = refl
numbers_here g (i ∷ is) rest = ap (λ (ns : List ℕ). g ∷ i ∷ ns) (numbers_here g is rest)

numbers_from_lem : (g : ℕ) (gs : List (List ℕ))
    → flatten (map row_numbers (rows_of (rows_from g gs))) ≡ rows_from g gs
unfolding rows_of rows_from flatten
numbers_from_lem g [] = refl
numbers_from_lem g (is ∷ gs) =
    numbers_here g is (rows_from (suc g) gs)
    ∙ ap (λ (ns : List ℕ). group_rows g is ++ ns) (numbers_from_lem (suc g) gs)

-- their groups are below the number of groups
groups_here : (g m : ℕ) (is rest : List ℕ) → g < m
    → ((r : Row) → Memᴰ r (rows_of rest) → r.group < m)
    → (r : Row) → Memᴰ r (rows_of (group_rows g is ++ rest)) → r.group < m
unfolding rows_of
groups_here g m [] rest h others r in_rest = others r in_rest
groups_here g m (i ∷ is) rest h others r at =
    go (groups_here g m is rest h others r) (Memᴰ.cases_cons at)
  where
    go : (Memᴰ r (rows_of (group_rows g is ++ rest)) → r.group < m)
        → (r ≡ row g i) ⊎ Memᴰ r (rows_of (group_rows g is ++ rest)) → r.group < m
    go later (inl e) = subst (λ (s : Row). s.group < m) (sym e) h
    go later (inr l) = later l

groups_from_lem : (g m : ℕ) (gs : List (List ℕ)) → g + length gs ≤ m → (r : Row)
    → Memᴰ r (rows_of (rows_from g gs)) → r.group < m
unfolding rows_of rows_from
groups_from_lem g m [] h r at = absurd (Memᴰ.not-nil at)
groups_from_lem g m (is ∷ gs) h r at =
    groups_here g m is (rows_from (suc g) gs) (omega arith)
    (groups_from_lem (suc g) m gs (omega arith)) r at

-- groups that have a block each are no more than the blocks
groups_few : (gs : List (List ℕ)) → ((g : List ℕ) → Memᴰ g gs → 1 ≤ length g)
    → length gs ≤ length (flatten gs)
unfolding flatten
groups_few [] h = omega arith
groups_few (g ∷ gs) h =
    omega (
      arith,
      h g (Memᴰ.head refl),
      groups_few gs (λ i m. h i (Memᴰ.tail m)),
      length-append g (flatten gs),
    )

module _ (limit : ℕ) (bs : List Block) where
  abbrev rows : List Row
  rows = rows_of (plan limit bs)

  pub rows_blocks : map block_in (rows_of (plan limit bs)) ≡ flatten (groups limit bs)
  unfolding plan
  rows_blocks = blocks_from 0 (groups limit bs)

  pub rows_numbers : flatten (map row_numbers (rows_of (plan limit bs))) ≡ plan limit bs
  unfolding plan
  rows_numbers = numbers_from_lem 0 (groups limit bs)

  -- one row for each block
  pub rows_all : length (rows_of (plan limit bs)) ≡ length bs
  rows_all = sym (length-map rows block_in) ∙ ap length rows_blocks ∙ groups_length bs limit

  pub rows_once : (i : ℕ) → i < length bs → count i (map block_in (rows_of (plan limit bs))) ≡ 1
  rows_once i h = ap (count i) rows_blocks ∙ groups_once limit bs i h

  module _ (r : Row) (at : Memᴰ r (rows_of (plan limit bs))) where
    -- a row names a block
    pub row_inside : r.block < length bs
    row_inside =
        elim (dec_lt r.block (length bs)) [
          | yes h ↦ h
          | no d ↦ absurd (omega (
            arith,
            groups_only limit bs r.block (omega arith),
            ap (count r.block) rows_blocks,
            counted (Memᴰ.map block_in at),
          ))
        ]

    -- and a group, of which there are no more
    pub row_group : r.group < length bs
    unfolding plan
    row_group =
        groups_from_lem 0 (length bs) (groups limit bs)
        (omega (
          arith,
          groups_few (groups limit bs) (group_some limit bs),
          groups_length bs limit,
        )) r at

module _ {f : List ℕ} {n limit : ℕ} {work : List ℕ} (ready : HoldsPlan f n limit work) where
  -- as many rows as blocks
  pub rows_n : length (rows_of (plan limit (blocks_of f))) ≡ n
  rows_n =
      rows_all limit (blocks_of f) ∙ length_of_lem f (blocks_of f) ready.accepted ∙ sym ready.all

  module _ (p : ℕ) (inside : p < n) where
    -- row p in the work numbers
    pub row_read : row_at limit (blocks_of f) p
        ≡ record { group = get_or work (2 * n + p) 0; block = get_or work p 0 }
    row_read =
        let room = ready.room in
        let long : n ≤ length (drop (2 * n) work) = omega (arith, length-drop (2 * n) work) in
        ap (λ (rs : List ℕ). get_or (rows_of rs) p (row 0 0)) (sym ready.rows)
        ∙ rows_two (take n (drop (2 * n) work)) (take n work) p
        (omega (arith, length-take-le n (drop (2 * n) work) long))
        (omega (arith, length-take-le n work (omega arith)))
        ∙ ap₂ row (get_or-take n (drop (2 * n) work) p 0 inside ∙ get_or-drop (2 * n) work p 0)
        (get_or-take n work p 0 inside)

    -- it names a block
    pub block_read : get_or work p 0 < block_count f
    block_read =
        omega (
          arith,
          ap block_in row_read,
          length_of_lem f (blocks_of f) ready.accepted,
          row_inside limit (blocks_of f) (row_at limit (blocks_of f) p)
              (member_at (rows_of (plan limit (blocks_of f))) p (row 0 0) (omega (arith, rows_n))),
        )

-- the line of a row, by the record of its block
pub row_line_lem : {f : List ℕ} {i : ℕ} {b : BlockRecord} {first : ℕ} → IsBlock f i b first
    → (group key n : ℕ) (keys : List ℕ) → key ≡ key_of b.addr b.thumb → n ≡ b.count
    → keys ≡ exits (block_at f (block_start f i) first)
    → page_line key group n keys ≡ row_line (blocks_of f) (record { group = group; block = i })
unfolding row_line block_line record_at
row_line_lem {f} {i} {b} {first} is group key n keys e c h =
    let block : get_or (blocks_of f) i (block_at f 0 0) ≡ block_at f (block_start f i) first =
    nth_block f i (block_at f 0 0) (block_inside is)
    ∙ ap (block_at f (block_start f i)) (sym is.starts) in
    let counts : n ≡ length (block_at f (block_start f i) first).instrs =
    c ∙ ap (λ (r : BlockRecord). r.count) (block_record is)
    ∙ (record_reads f (blocks_of f) is.accepted i (block_inside is)).count
    ∙ ap (λ (k : ℕ). length (block_at f (block_start f i) k).instrs) (sym is.starts) in
    ap (λ (m : ℕ). page_line key group m keys) counts
    ∙ ap₂ (λ (k : ℕ) (l : List ℕ). page_line k group
    (length (block_at f (block_start f i) first).instrs) l) (e ∙ record_key is) h
    ∙ sym (ap (block_line group) block)
    ∙ sym (map_at (block_line group) (blocks_of f) i (block_at f 0 0) nothing
    (omega (arith, block_inside is, length_of_lem f (blocks_of f) is.accepted)))
