-- The passes over the records: what one more record says of the first broken rule.
-- Assumes nothing.
use Rattle.std.proofs.Common.{◌≡◌, ℕ, zero, suc, ◌+◌, ◌-◌, ◌*◌, ◌<◌, ◌≤◌, true, false, leb, List, [], ◌∷◌, ◌++◌, length, sym, refl, ap, ◌∙◌, true≢false, zero-le, add-one, arith, eq-eqb, ne_eqb, le-leb}
use mathlib.Core.Option.{none, some}
use lib.Dec.{leb-zero}
use borrow.Author.Tests.{lt-leb}
use native.Mathlib.Nat.{sub-zero}
use Rattle.file_records.proofs.Rules.{large_count}
use Rattle.file_records.specs.Trailer.{blocks_back, block_count, instrs_back, instr_count, block_start}
use Rattle.file_records.specs.BlockRecord.{key_at, count_at, block_right, key_rises, count_sum}
use Rattle.file_instrs.specs.InstrRecord.{instr_right}
use Rattle.file_blocks.specs.declared.rule.Rule.{Rule}
use Rattle.file_blocks.specs.Refusal.{block_rules, instr_rules, first_broken}

-- the least key that is above that of the block before block i
pub least_key : List ℕ → ℕ → ℕ
least_key f zero = 0
least_key f (suc i) = key_at f (block_start f i) + 1

rises : (f : List ℕ) (i : ℕ) → key_rises f i ≡ leb (least_key f i) (key_at f (block_start f i))
unfolding key_rises least_key
rises f zero = sym (leb-zero (key_at f (block_start f 0)))
rises f (suc i) =
    ap (λ (n : ℕ). leb n (key_at f (block_start f (suc i))))
    (sym (add-one (key_at f (block_start f i))))

-- the rules of the blocks from block i on, where there is one
next_rules : (n i : ℕ) → i < n
    → block_rules (n - i) i ≡ Rule.Block i ∷ Rule.Order i ∷ block_rules (n - (i + 1)) (i + 1)
next_rules n i h =
    let one : n - i ≡ suc (n - (i + 1)) = omega arith in
    rw (one, add-one)

next_instrs : (n i : ℕ) → i < n
    → instr_rules (n - i) i ≡ Rule.Instr i ∷ instr_rules (n - (i + 1)) (i + 1)
next_instrs n i h =
    let one : n - i ≡ suc (n - (i + 1)) = omega arith in
    rw (one, add-one)

module _ (f : List ℕ) (rest : List Rule) (start n i : ℕ) (starts : start ≡ length f - blocks_back f)
    (inside : i < n) where
  -- block i breaks a rule of its record
  pub block_broken : block_right f (start + 16 * i) ≡ false
      → first_broken f (block_rules (n - i) i ++ rest) ≡ some (Rule.Block i)
  block_broken e = rw (next_rules n i inside, ← starts, e)

  -- block i keeps those, and its key is not above the last
  pub order_broken : block_right f (start + 16 * i) ≡ true → key_at f (start + 16 * i) < least_key f i
      → first_broken f (block_rules (n - i) i ++ rest) ≡ some (Rule.Order i)
  order_broken e h = rw (next_rules n i inside, ← starts, e, rises f i, ← starts, lt-leb _ _ h)

  -- block i breaks no rule
  pub block_kept : block_right f (start + 16 * i) ≡ true → least_key f i ≤ key_at f (start + 16 * i)
      → first_broken f (block_rules (n - i) i ++ rest)
      ≡ first_broken f (block_rules (n - (i + 1)) (i + 1) ++ rest)
  block_kept e h = rw (next_rules n i inside, ← starts, e, rises f i, ← starts, le-leb _ _ h)

module _ (f : List ℕ) (start i : ℕ) (starts : start ≡ length f - blocks_back f) where
  pub least_next : key_at f (start + 16 * i) + 1 ≡ least_key f (i + 1)
  unfolding least_key
  least_next = rw (starts, add-one i)

  pub sum_next : count_sum f i + count_at f (start + 16 * i) ≡ count_sum f (i + 1)
  unfolding count_sum
  sum_next = rw (starts, add-one i)

pub count_small : (f : List ℕ) (at : ℕ) → block_right f at ≡ true → count_at f at ≤ 65535
count_small f at e =
    let no : 65535 < count_at f at → ⊥ = λ h. true≢false (sym e ∙ sym (large_count f at h)) in
    omega arith

-- what a pass over the blocks keeps
pub record Blocks (f : List ℕ) (blocks least total i : ℕ) : Type 0 where
  pub inside : i ≤ blocks
  pub key : least ≡ least_key f i
  pub counts : total ≡ count_sum f i
  pub small : total ≤ 65535 * i
  pub kept : first_broken f (block_rules (block_count f) 0 ++ (Rule.Sum ∷ []))
      ≡ first_broken f (block_rules (blocks - i) i ++ (Rule.Sum ∷ []))

module _ (f : List ℕ) (n : ℕ) (all : n ≡ block_count f) where
  pub blocks_none : Blocks f n 0 0 0
  unfolding least_key count_sum
  blocks_none =
      record {
        inside = zero-le;
        key = refl;
        counts = refl;
        small = zero-le;
        kept = rw (sub-zero, all);
      }

  module _ (i : ℕ) (done : i ≡ n) where
    none_left : n - i ≡ 0
    none_left = omega arith

    -- after the last block, the counts sum to I
    pub sum_right : count_sum f i ≡ instr_count f
        → first_broken f (block_rules (n - i) i ++ (Rule.Sum ∷ [])) ≡ none
    sum_right e = rw (none_left, ← (done ∙ all), eq-eqb _ _ e)

    -- or they do not
    pub sum_wrong : (count_sum f i ≡ instr_count f → ⊥)
        → first_broken f (block_rules (n - i) i ++ (Rule.Sum ∷ [])) ≡ some Rule.Sum
    sum_wrong e = rw (none_left, ← (done ∙ all), ne_eqb _ _ e)

module _ (f : List ℕ) (start n i : ℕ) (starts : start ≡ length f - instrs_back f) (inside : i < n)
  where
    -- instruction i breaks a rule of its record
    pub instr-broken : instr_right f (start + 16 * i) ≡ false
        → first_broken f (instr_rules (n - i) i) ≡ some (Rule.Instr i)
    instr-broken e = rw (next_instrs n i inside, ← starts, e)

    -- instruction i breaks none
    pub instr-kept : instr_right f (start + 16 * i) ≡ true
        → first_broken f (instr_rules (n - i) i) ≡ first_broken f (instr_rules (n - (i + 1)) (i + 1))
    instr-kept e = rw (next_instrs n i inside, ← starts, e)

module _ (f : List ℕ) (n : ℕ) (all : n ≡ instr_count f) where
  pub instrs_none : first_broken f (instr_rules (instr_count f) 0)
      ≡ first_broken f (instr_rules (n - 0) 0)
  instrs_none = rw (sub-zero, all)

  pub instrs_all : (i : ℕ) → i ≡ n → first_broken f (instr_rules (n - i) i) ≡ none
  instrs_all i done =
      let none_left : n - i ≡ 0 = omega arith in
      rw none_left
