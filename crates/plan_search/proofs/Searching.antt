-- The search for a block by its key in the order of keys finds what the definition does, since no
-- two blocks of an accepted file have one key.
-- Assumes nothing.
use mathlib.Core.Path.{◌≡◌, refl, sym, ap, ◌∙◌}
use mathlib.Core.Bool.{Bool, true, false, and-false}
use mathlib.Core.List.{List, [], ◌∷◌}
use mathlib.Core.Option.{none, some}
use Prim.Native.Nat.{ℕ, zero, suc, suc-le-suc, zero-le, ◌+◌, ◌≤◌, ◌<◌}
use native.Mathlib.Nat.{add-zero, zero-add, le_of_suc-le-suc, not-suc-le-zero}
use native.Mathlib.Omega.{arith}
use native.Mathlib.Decide.{ℕ_discrete}
use borrow.Author.Tests.{eq-eqb, ne_eqb, eqb-true, lt-ltb, le-ltb, ltb-true}
use lib.ListN.{length, get_or}
use lib.Dec.{eqb, ltb}
use Rattle.base_lists.specs.Lists.{range, first_of}
use Rattle.base_lists.proofs.Bools.{left_true, right_true}
use Rattle.file_records.specs.Trailer.{block_count, block_start}
use Rattle.file_records.specs.BlockRecord.{key_plus, key_at}
use Rattle.std.proofs.Common.{Option, Some, None}
use Rattle.file_blocks.specs.declared.read.BlockRecord.{BlockRecord}
use Rattle.file_blocks.specs.Parse.{Block, block_key, block_at, blocks_of, Accepted}
use Rattle.file_blocks.specs.Read.{record_at, found_block}
use Rattle.file_blocks.proofs.Accepted.{length_of_lem}
use Rattle.file_blocks.proofs.IsBlock.{missing, nth_block, found_inside, found_record}
use Rattle.file_blocks.proofs.Keys.{block_key_lem, keys_differ}
use Rattle.file_blocks.proofs.Nowhere.{nowhere}
use Rattle.file_keys.specs.Order.{block_keys}
use Rattle.file_keys.specs.First.{block_with}
use Rattle.file_keys.proofs.Finding.{first_some, none_first}
use Rattle.file_keys.proofs.Reading.{length_keys, key_at_lem}
use Rattle.plan_search.specs.Target.{joinable, on_page8, target}
use Rattle.plan_search.specs.Search.{has_key}

zero_lt : (n : ℕ) → 0 < suc n
zero_lt n = omega arith

-- no block with the key can be joined
pub target_none : (k : ℕ) (bs : List Block) (i : ℕ) (d : Block)
    → ((j : ℕ) → j < length bs → block_key (get_or bs j d) ≡ k → joinable (get_or bs j d) ≡ false)
    → target k bs i ≡ none
unfolding target
target_none k [] i d h = refl
target_none k (b ∷ bs) i d h =
    elim (ℕ_discrete (block_key b) k) [
      | yes e ↦ rw (h 0 (zero_lt _) e, and-false)
          (target_none k bs (suc i) d (λ j l. h (suc j) (suc-le-suc l)))
      | no g ↦ rw (ne_eqb _ _ g) (target_none k bs (suc i) d (λ j l. h (suc j) (suc-le-suc l)))
    ]

-- the first block with the key can be joined
pub target_some : (k : ℕ) (bs : List Block) (i m : ℕ) (d : Block) → m < length bs
    → ((j : ℕ) → j < m → block_key (get_or bs j d) ≡ k → ⊥) → block_key (get_or bs m d) ≡ k
    → joinable (get_or bs m d) ≡ true
    → target k bs i ≡ some (i + m)
unfolding target
target_some k [] i m d l h e g = absurd (not-suc-le-zero l)
target_some k (b ∷ bs) i zero d l h e g = rw (eq-eqb _ _ e, g, add-zero)
target_some k (b ∷ bs) i (suc m) d l h e g =
    rw (ne_eqb _ _ (h 0 (zero_lt m)))
    (target_some k bs (suc i) m d (le_of_suc-le-suc l) (λ j b'. h (suc j) (suc-le-suc b')) e g
    ∙ ap some (let same : suc i + m ≡ i + suc m = omega arith in same))

-- what was found passes the test, and is one of the numbers
record Hit (test : ℕ → Bool) (n i m : ℕ) : Type 0 where
  low : i ≤ m
  inside : m < i + n
  passes : test m ≡ true

hit : (test : ℕ → Bool) (n i m : ℕ) → first_of test (range n i) ≡ some m → Hit test n i m
hit test zero i m e = absurd (let z : ◌≡◌ {A = ℕ} 0 1 = cc in omega arith)
hit test (suc n) i m e = go (test i) refl (hit test n (suc i) m)
  where
    go : (b : Bool) → test i ≡ b
        → (first_of test (range n (suc i)) ≡ some m → Hit test n (suc i) m) → Hit test (suc n) i m
    go true g rest =
        let f : some i ≡ some m = rw g at e in
        let same : i ≡ m = cc in
        record { low = omega arith; inside = omega arith; passes = ap test (sym same) ∙ g }
    go false g rest =
        let w = rest (rw g at e) in
        record {
          low = omega (arith, w.low);
          inside = omega (arith, w.inside);
          passes = w.passes;
        }

-- what the reader found of block i tells whether it has a key
module _ (f : List ℕ) (accepted : Accepted f) (i key : ℕ) (found : Option BlockRecord)
    (reads : found ≡ found_block f i) where
  pub key_nowhere : found ≡ None → false ≡ has_key f i key
  key_nowhere e = rw (le-ltb _ _ (missing f accepted i (sym reads ∙ e)))

  pub key_told : (b : BlockRecord) (k : ℕ) → found ≡ Some b
      → k ≡ key_plus b.addr b.thumb → eqb k key ≡ has_key f i key
  unfolding record_at
  key_told b k at is =
      let inside = found_inside f i b (sym reads ∙ at) in
      let same : k ≡ key_at f (block_start f i) =
      is ∙ ap (λ (r : BlockRecord). key_plus r.addr r.thumb)
      (found_record f i b (sym reads ∙ at)) in
      rw (same, lt-ltb _ _ inside)

module _ (f : List ℕ) (accepted : Accepted f) (key : ℕ) where
  -- whether block i has the key, by the list of all keys
  abbrev test : ℕ → Bool
  test i = eqb (get_or (block_keys f) i 0) key

  -- two blocks with the key are one
  only : (i j : ℕ) → i < block_count f → j < block_count f → key_at f (block_start f i) ≡ key
      → get_or (block_keys f) j 0 ≡ key → j ≡ i
  only i j h l e g =
      keys_differ f (blocks_of f) accepted j i l h (sym (key_at_lem f j l) ∙ g ∙ sym e)

  -- a block with the key is the one that the order has for it
  pub with_key : (i : ℕ) → has_key f i key ≡ true → some i ≡ block_with key (block_keys f)
  with_key i e =
      let inside : i < block_count f = ltb-true _ _ (left_true _ _ e) in
      let here : key_at f (block_start f i) ≡ key =
      eqb-true _ _ (right_true (ltb i (block_count f)) _ e) in
      sym (first_some test (length (block_keys f)) 0 i zero-le (omega (arith, length_keys f))
      (eq-eqb _ _ (key_at_lem f i inside ∙ here))
      (λ j l. ne_eqb _ _ (λ g. absurd (omega (arith, only i j inside (omega arith) here g)))))

  block_at_key : (j : ℕ) → j < length (blocks_of f) → block_key (get_or (blocks_of f) j nowhere) ≡ key
      → get_or (block_keys f) j 0 ≡ key
  block_at_key j l e =
      let inside : j < block_count f = omega (arith, length_of_lem f (blocks_of f) accepted) in
      key_at_lem f j inside ∙ sym (block_key_lem f (blocks_of f) accepted j nowhere inside) ∙ e

  -- no block has the key: an edge to it leads nowhere
  pub target_missing : none ≡ block_with key (block_keys f) → none ≡ target key (blocks_of f) 0
  target_missing e =
      sym (target_none key (blocks_of f) 0 nowhere
      (λ j l g. absurd
      (none_first test (length (block_keys f)) 0 (sym e) j zero-le
      (omega (arith, length_keys f, length_of_lem f (blocks_of f) accepted))
      (eq-eqb _ _ (block_at_key j l g)))))

  -- block m has it: an edge to it leads there if that block can be joined
  module _ (m : ℕ) (found : some m ≡ block_with key (block_keys f)) where
    there : Hit test (length (block_keys f)) 0 m
    there = hit test (length (block_keys f)) 0 m (sym found)

    pub target_inside : m < block_count f
    target_inside = omega (arith, there.inside, length_keys f)

    key_there : key_at f (block_start f m) ≡ key
    key_there = sym (key_at_lem f m target_inside) ∙ eqb-true _ _ there.passes

    same : (j : ℕ) → j < length (blocks_of f) → block_key (get_or (blocks_of f) j nowhere) ≡ key
        → j ≡ m
    same j l e =
        only m j target_inside (omega (arith, length_of_lem f (blocks_of f) accepted)) key_there
        (block_at_key j l e)

    module _ (b : BlockRecord) (read : Option BlockRecord) (reads : read ≡ found_block f m)
        (at : read ≡ Some b) where
      page_of_lem : joinable (get_or (blocks_of f) m nowhere) ≡ on_page8 b.addr
      unfolding block_at record_at
      page_of_lem = ap joinable (nth_block f m nowhere target_inside)
          ∙ ap (λ (r : BlockRecord). on_page8 r.addr) (sym (found_record f m b (sym reads ∙ at)))

      pub target_joined : on_page8 b.addr ≡ true → some m ≡ target key (blocks_of f) 0
      target_joined on =
          sym (target_some key (blocks_of f) 0 m nowhere
          (omega (arith, target_inside, length_of_lem f (blocks_of f) accepted))
          (λ j l e. omega (
            arith,
            same j (omega (arith, target_inside, length_of_lem f (blocks_of f) accepted)) e,
          ))
          (block_key_lem f (blocks_of f) accepted m nowhere target_inside ∙ key_there) (page_of_lem ∙ on)
          ∙ ap some (zero-add m))

      pub target_apart : on_page8 b.addr ≡ false → none ≡ target key (blocks_of f) 0
      target_apart off =
          sym (target_none key (blocks_of f) 0 nowhere
          (λ j l e. ap (λ (i : ℕ). joinable (get_or (blocks_of f) i nowhere)) (same j l e)
          ∙ page_of_lem ∙ off))

    -- the reader finds it
    pub never_missing : found_block f m ≡ None → ⊥
    never_missing e = omega (arith, target_inside, missing f accepted m e)
