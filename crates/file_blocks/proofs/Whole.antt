-- The whole check: its passes one after the other give the first broken rule, and an accepted file
-- has the counts of its trailer. Assumes nothing.
use Rattle.std.proofs.Common.{◌≡◌, ℕ, zero, suc, ◌+◌, ◌<◌, ◌≤◌, Bool, true, false, cond, ◌⊎◌, List, [], ◌∷◌, ◌++◌, length, sym, refl, ap, ◌∙◌, ap₂, inl, inr, append_assoc, le_of_suc-le-suc, not-suc-le-zero, add-zero, add_assoc, zero-add, arith, eqb-true, le-leb}
use mathlib.Core.List.Memᴰ
use mathlib.Core.List.{Memᴰ}
use mathlib.Core.Option.{Option, none, some}
use borrow.Author.Tests.{lt-leb, not-false}
use Rattle.file_blocks.specs.declared.refusal.Counts.{Counts}
use Rattle.file_records.specs.Trailer.{block_count, instr_count, block_start, within_limits}
use Rattle.file_records.specs.Trailer.{trailer_right}
use Rattle.file_records.specs.BlockRecord.{count_at, count_sum}
use Rattle.file_blocks.specs.declared.rule.Rule.{Rule}
use Rattle.file_blocks.specs.Refusal.{broken, first_broken, block_rules, instr_rules}
use Rattle.file_blocks.specs.Parse.{instrs_from, block_at, blocks_from, blocks_of}
use Rattle.file_blocks.specs.Parse.{instr_total}
use Rattle.file_blocks.specs.Checked.{passed, counts_of, answered, checked}
use Rattle.std.specs.Prelude.{Result, Ok, Err}
use Rattle.std.specs.Result.{result_and}

-- one rule more in front of the first list
one_more : (f : List ℕ) (b : Bool) (r : Rule) (o later : Option Rule) (other : Result Counts Rule)
    → result_and (passed o) other ≡ answered f later
    → result_and (passed (cond b (some r) o)) other ≡ answered f (cond b (some r) later)
one_more f true r o later other e = refl
one_more f false r o later other e = e

-- what two names of rules say together
passes : (f : List ℕ) (xs ys : List Rule)
    → result_and (passed (first_broken f xs)) (answered f (first_broken f ys))
    ≡ answered f (first_broken f (xs ++ ys))
passes f [] ys = refl
passes f (r ∷ xs) ys =
    one_more f (broken f r) r (first_broken f xs) (first_broken f (xs ++ ys)) _ (passes f xs ys)

pub length_instrs : (f : List ℕ) (n k addr : ℕ) (thumb : Bool)
    → length (instrs_from f n k addr thumb) ≡ n
length_instrs f zero k addr thumb = refl
length_instrs f (suc n) k addr thumb = ap suc (length_instrs f n (suc k) _ thumb)

pub length_blocks : (f : List ℕ) (n i k : ℕ) → length (blocks_from f n i k) ≡ n
unfolding blocks_from
length_blocks f zero i k = refl
length_blocks f (suc n) i k = ap suc (length_blocks f n (suc i) _)

-- the instructions of n blocks from block i on, with the counts before them
pub total_blocks : (f : List ℕ) (n i k : ℕ)
    → count_sum f i + instr_total (blocks_from f n i k) ≡ count_sum f (i + n)
unfolding blocks_from instr_total count_sum block_at
total_blocks f zero i k = rw (add-zero (count_sum f i), add-zero)
total_blocks f (suc n) i k =
    let rest = total_blocks f n (suc i) (k + count_at f (block_start f i)) in
    let shift : i + suc n ≡ suc i + n = omega arith in
    rw (shift, ← rest, length_instrs) (sym (add_assoc _ _ _))

none_first : (b : Bool) (r : Rule) (o : Option Rule) → cond b (some r) o ≡ none → b ≡ false
none_first true r o e = absurd (let z : ◌≡◌ {A = ℕ} 0 1 = cc in omega arith)
none_first false r o e = refl

none_rest : (b : Bool) (r : Rule) (o : Option Rule) → cond b (some r) o ≡ none → o ≡ none
none_rest true r o e = absurd (let z : ◌≡◌ {A = ℕ} 0 1 = cc in omega arith)
none_rest false r o e = e

-- where no rule is broken, each is kept
pub each_kept : (f : List ℕ) (xs : List Rule) (r : Rule) → first_broken f xs ≡ none → Memᴰ r xs
    → broken f r ≡ false
each_kept f [] r e m = absurd (Memᴰ.not-nil m)
each_kept f (x ∷ xs) r e m =
    go (each_kept f xs r (none_rest (broken f x) x (first_broken f xs) e)) (Memᴰ.cases_cons m)
  where
    go : (Memᴰ r xs → broken f r ≡ false) → (r ≡ x) ⊎ Memᴰ r xs → broken f r ≡ false
    go rest (inl same) = ap (broken f) same ∙ none_first (broken f x) x (first_broken f xs) e
    go rest (inr m') = rest m'

-- each block and each instruction has its rules
pub block_rules_lem : (n i j : ℕ) → j < n
    → Memᴰ (Rule.Block (i + j)) (block_rules n i)
    × Memᴰ (Rule.Order (i + j)) (block_rules n i)
block_rules_lem zero i j h = absurd (not-suc-le-zero h)
block_rules_lem (suc n) i zero h = (
  Memᴰ.head (ap Rule.Block (add-zero i)),
  Memᴰ.tail
      (Memᴰ.head (ap Rule.Order (add-zero i))),
)
block_rules_lem (suc n) i (suc j) h =
    let m = block_rules_lem n (suc i) j (le_of_suc-le-suc h) in
    let same : i + suc j ≡ suc i + j = omega arith in (
      Memᴰ.tail (Memᴰ.tail (Memᴰ.cast (ap Rule.Block same) m.0)),
      Memᴰ.tail
          (Memᴰ.tail (Memᴰ.cast (ap Rule.Order same) m.1)),
    )

pub instr_rules_lem : (n i j : ℕ) → j < n → Memᴰ (Rule.Instr (i + j)) (instr_rules n i)
instr_rules_lem zero i j h = absurd (not-suc-le-zero h)
instr_rules_lem (suc n) i zero h = Memᴰ.head (ap Rule.Instr (add-zero i))
instr_rules_lem (suc n) i (suc j) h =
    let same : i + suc j ≡ suc i + j = omega arith in
    Memᴰ.tail (Memᴰ.cast (ap Rule.Instr same) (instr_rules_lem n (suc i) j (le_of_suc-le-suc h)))

sum_last : (xs : List Rule) → Memᴰ Rule.Sum (xs ++ (Rule.Sum ∷ []))
sum_last [] = Memᴰ.head refl
sum_last (x ∷ xs) = Memᴰ.tail (sum_last xs)

passed_none : (o : Option Rule) → Ok tt ≡ passed o → o ≡ none
passed_none none e = refl
passed_none (some r) e = cc

passed_some : (o : Option Rule) (r : Rule) → Err r ≡ passed o → o ≡ some r
passed_some none r e = cc
passed_some (some s) r e = cc

module _ (f : List ℕ) where
  -- the rules of the first pass, and those of the second
  abbrev block_pass : Option Rule
  block_pass = first_broken f (block_rules (block_count f) 0 ++ (Rule.Sum ∷ []))

  abbrev instr_pass : Option Rule
  instr_pass = first_broken f (instr_rules (instr_count f) 0)

  pub too_short : length f < 32 → Err Rule.Short ≡ checked f
  unfolding checked
  too_short h = simp (lt-leb _ _ h)

  module _ (long : 32 ≤ length f) where
    pub over_limits : within_limits f ≡ false → Err Rule.Limits ≡ checked f
    unfolding checked
    over_limits e = simp (le-leb _ _ long, e)

    pub wrong_trailer : within_limits f ≡ true → trailer_right f ≡ false
        → Err Rule.Trailer ≡ checked f
    unfolding checked
    wrong_trailer e h = simp (le-leb _ _ long, e, h)

    -- with a right trailer, the pass over the blocks decides, and then the one over the
    -- instructions
    in_passes : within_limits f ≡ true → trailer_right f ≡ true
        → result_and (passed block_pass) (answered f instr_pass) ≡ checked f
    unfolding checked
    in_passes e h =
        passes f (block_rules (block_count f) 0 ++ (Rule.Sum ∷ [])) (instr_rules (instr_count f) 0)
        ∙ ap (λ (l : List Rule). answered f (first_broken f l))
        (append_assoc (block_rules (block_count f) 0) (Rule.Sum ∷ []) (instr_rules (instr_count f) 0))
        ∙ sym (simp (le-leb _ _ long, e, h))

  -- a file whose blocks pass has the counts of its trailer
  counts : Ok tt ≡ passed block_pass
      → record { blocks = block_count f; instructions = instr_count f } ≡ counts_of (blocks_of f)
  unfolding count_sum
  counts clean =
      let sums : count_sum f (block_count f)
      ≡ instr_count f =
      eqb-true _ _
      (not-false _
      (each_kept f (block_rules (block_count f) 0 ++ (Rule.Sum ∷ [])) Rule.Sum (passed_none _ clean)
      (sum_last (block_rules (block_count f) 0)))) in
      let total : instr_total (blocks_from f (block_count f) 0 0)
      ≡ count_sum f (block_count f) = sym (zero-add _) ∙ total_blocks f (block_count f) 0 0
      ∙ ap (count_sum f) (zero-add (block_count f)) in
      ap₂ (λ (b i : ℕ). record { blocks = b; instructions = i })
      (sym (length_blocks f (block_count f) 0 0)) (sym (total ∙ sums))

  -- what the answers of the two passes say of the whole
  module _ (long : 32 ≤ length f) (few : within_limits f ≡ true) (right : trailer_right f ≡ true)
    where
      pub blocks_refused : (r : Rule) → Err r ≡ passed block_pass → Err r ≡ checked f
      blocks_refused r e = rw (← e) at (in_passes long few right)

      module _ (clean : Ok tt ≡ passed block_pass) where
        pub instrs_refused : (r : Rule) → Err r ≡ passed instr_pass → Err r ≡ checked f
        instrs_refused r e =
            sym (ap (answered f) (passed_some _ r e)) ∙ (rw (← clean) at (in_passes long few right))

        pub all_kept : Ok tt ≡ passed instr_pass
            → Ok (record { blocks = block_count f; instructions = instr_count f }) ≡ checked f
        all_kept e =
            ap Ok (counts clean) ∙ sym (ap (answered f) (passed_none _ e))
            ∙ (rw (← clean) at (in_passes long few right))
