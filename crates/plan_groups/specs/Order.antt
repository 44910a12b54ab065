-- Steps: the emission order as the code makes it, component by component along the links, with the
-- number of the group of each block.
use Rattle.std.specs.Prelude.{ℕ, zero, suc, ◌+◌, ◌*◌, ◌<◌, ◌≤◌, ◌≡◌, Bool, true, false, cond, List, [], ◌∷◌, ◌++◌, length, get_or, take, drop, ltb, eqb}
use Rattle.file_records.specs.Trailer.{block_count, block_start}
use Rattle.file_records.specs.BlockRecord.{count_at}
use Rattle.file_keys.specs.Digits.{keep}
use Rattle.plan_groups.specs.declared.order.Part.{Part}
use Rattle.plan_groups.specs.Links.{behind}
use Rattle.plan_groups.specs.Plan.{closes}

-- of some blocks those whose root is r, by a list of all roots
abbrev pub with_root_in : List ℕ → ℕ → List ℕ → List ℕ
with_root_in roots r is = keep (λ (i : ℕ). eqb (get_or roots i 0) r) is

-- what is left of component r from member h on, where there are n blocks in an order
unfoldable pub members_from : List ℕ → List ℕ → ℕ → ℕ → ℕ → List ℕ
members_from roots order r n h = cond (ltb h n) (h ∷ with_root_in roots r (behind h order)) []

-- the blocks of the components with the `left` roots from r on, each component in an order
unfoldable pub order_from : List ℕ → List ℕ → ℕ → ℕ → List ℕ
order_from roots order zero r = []
order_from roots order (suc left) r = with_root_in roots r order ++ order_from roots order left (suc r)

-- the group numbers of some members of a component, where group g is reached and has a total of
-- instructions
unfoldable pub numbers_of : ℕ → List ℕ → ℕ → ℕ → Bool → List ℕ → List ℕ
numbers_of limit counts g total isOpen [] = []
numbers_of limit counts g total isOpen (i ∷ is) =
    cond (closes limit total isOpen (get_or counts i 0))
    (suc g ∷ numbers_of limit counts (suc g) (get_or counts i 0) true is)
    (g ∷ numbers_of limit counts g (total + get_or counts i 0) true is)

-- the number of the next group after them
unfoldable pub next_group : ℕ → List ℕ → ℕ → ℕ → Bool → List ℕ → ℕ
next_group limit counts g total isOpen [] = cond isOpen (suc g) g
next_group limit counts g total isOpen (i ∷ is) =
    cond (closes limit total isOpen (get_or counts i 0))
    (next_group limit counts (suc g) (get_or counts i 0) true is)
    (next_group limit counts g (total + get_or counts i 0) true is)

-- the group numbers of the blocks of `left` components from component r on, from group g on
unfoldable pub numbers_from : ℕ → List ℕ → List ℕ → List ℕ → ℕ → ℕ → ℕ → List ℕ
numbers_from limit counts roots order g zero r = []
numbers_from limit counts roots order g (suc left) r =
    numbers_of limit counts g 0 false (with_root_in roots r order)
    ++ numbers_from limit counts roots order
    (next_group limit counts g 0 false (with_root_in roots r order)) left (suc r)

-- the part that takes a block with so many instructions: a new one where the one reached closes
abbrev pub part_with : ℕ → Part → Bool → ℕ → Part
part_with limit part isOpen count =
    cond (closes limit part.total isOpen count)
    (record { group = part.group + 1; total = count })
    (record { group = part.group; total = part.total + count })

-- counts has the instruction count of each block of a file
abbrev pub HasCounts : List ℕ → List ℕ → Type 0
HasCounts f counts = (i : ℕ) → i < block_count f → get_or counts i 0 ≡ count_at f (block_start f i)

-- what placing the blocks makes of the work numbers, where every block is in one component: quarter
-- 0 has the emission order, each component in the order that quarter 0 had, quarter 2 the group
-- numbers, and nothing past the four quarters changed
pub record Placed (f : List ℕ) (n limit : ℕ) (work work' : List ℕ) : Type 0 where
  pub same : length work' ≡ length work
  pub after : (k : ℕ) → 4 * n ≤ k → get_or work' k 0 ≡ get_or work k 0
  pub order : length (order_from (drop (2 * n) work) (take n work) n 0) ≡ n
      → take n work' ≡ order_from (drop (2 * n) work) (take n work) n 0
  pub numbers :
      length (order_from (drop (2 * n) work) (take n work) n 0) ≡ n
      → (counts : List ℕ)
      → HasCounts f counts
      → take n (drop (2 * n) work')
      ≡ numbers_from limit counts (drop (2 * n) work) (take n work) 0 n 0
