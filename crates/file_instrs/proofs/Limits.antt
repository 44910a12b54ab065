-- The rules of an instruction record: which limits a kind and a form select, how they are compared
-- byte by byte, and what must be even. Assumes nothing.
use mathlib.Core.Path.{◌≡◌, refl, ap, ap₂, sym, ◌∙◌}
use mathlib.Core.Bool.{Bool, true, false, not, cond, ◌&&◌, ◌||◌, and-true, and_assoc}
use mathlib.Core.Bool.{and-eq-true_iff, not-not}
use mathlib.Core.List.{List, [], ◌∷◌, ◌++◌, append_assoc}
use Prim.Native.Nat.{ℕ, zero, suc, ◌+◌, ◌*◌, ◌/◌, ◌%◌, ◌≤◌, ◌<◌}
use native.Mathlib.Nat.{add-zero, le_of_suc-le-suc, not-suc-le-zero}
use native.Mathlib.Omega.{arith}
use native.Mathlib.Numerals.{add-one}
use borrow.Author.Tests.{eqb-true}
use lib.Seq.{take_all, paste, take-paste, length-paste, length-take-le, get_or-take, get_or-drop}
use lib.Dec.{leb, eqb}
use lib.ListN.{length, get_or, take, drop, length-drop, get_or-eq_default}
use Rattle.file_records.specs.Bytes.{byte_at}
use Rattle.file_instrs.specs.InstrRecord.{by_kind, max_byte, fields, free, largest}
use Rattle.file_instrs.specs.Limits.{limits_to}
use Rattle.file_instrs.specs.InstrRecord.{within, even, even_fields, instr_right}
use Rattle.file_instrs.proofs.Match.{below, alike, alike→eq}

-- one number more is ruled out
pub next : {n k : ℕ} → n ≤ k → (k ≡ n → ⊥) → suc n ≤ k
next h e = omega arith

-- a kind from 10 on has the limits of kind 3
pub free_kind : (kind form : ℕ) → 10 ≤ kind → fields 3 form ≡ fields kind form
free_kind kind form h = sym (get_or-eq_default (by_kind form) free h)

-- a form from 3 on has the limits of form 0
pub no_form : (kind form : ℕ) → 3 ≤ form → fields kind 0 ≡ fields kind form
no_form kind zero h = absurd (not-suc-le-zero h)
no_form kind (suc zero) h = absurd (not-suc-le-zero (le_of_suc-le-suc h))
no_form kind (suc (suc zero)) h = absurd (not-suc-le-zero (le_of_suc-le-suc (le_of_suc-le-suc h)))
no_form kind (suc (suc (suc n))) h = refl

-- the digits of a number
digits : (kind form : ℕ) → kind < 10
    → fields ((10 * form + kind) % 10) ((10 * form + kind) / 10) ≡ fields kind form
digits kind form h =
    let ones : (10 * form + kind) % 10 ≡ kind = omega arith in
    let tens : (10 * form + kind) / 10 ≡ form = omega arith in
    ap (λ (n : ℕ). fields n ((10 * form + kind) / 10)) ones ∙ ap (fields kind) tens

-- the number that the code computes has the limits of the kind and the form
pub numbered : (kind form k m : ℕ) → k < 10 → ((x : ℕ) → fields k x ≡ fields kind x)
    → ((x : ℕ) → fields x m ≡ fields x form)
    → largest ((10 * m + k) % 10) ((10 * m + k) / 10) ≡ largest kind form
unfolding largest
numbered kind form k m h e g =
    ap (λ (r : List ℕ). 14 ∷ 15 ∷ max_byte ∷ max_byte ∷ r) (digits k m h ∙ e m ∙ g kind)

-- those of one number, among others, are 16 values
pub limits_long : (all : List ℕ) (from : ℕ) → from + 16 ≤ length all
    → length (take 16 (drop from all)) ≡ 16
limits_long all from l = length-take-le 16 (drop from all) (rw length-drop (omega arith))

-- one more byte
within_more : (f : List ℕ) (limits : List ℕ) (at k : ℕ) → k < length limits
    → within f at (take (suc k) limits)
    ≡ (within f at (take k limits) && leb (byte_at f (at + k)) (get_or limits k 0))
unfolding within
within_more f [] at k h = absurd (not-suc-le-zero h)
within_more f (m ∷ limits) at zero h = rw add-zero (and-true _)
within_more f (m ∷ limits) at (suc k) h =
    let shift : at + 1 + k ≡ at + suc k = omega arith in
    ap (λ (b : Bool). leb (byte_at f at) m && b)
    (within_more f limits (at + 1) k (le_of_suc-le-suc h))
    ∙ sym (and_assoc (leb (byte_at f at) m) (within f (at + 1) (take k limits))
    (leb (byte_at f (at + 1 + k)) (get_or limits k 0)))
    ∙ ap (λ (n : ℕ). (leb (byte_at f at) m && within f (at + 1) (take k limits))
    && leb (byte_at f n) (get_or limits k 0)) shift

-- one more byte of those among others
pub within_next : (f all : List ℕ) (at from k : ℕ) → k < 16 → from + 16 ≤ length all
    → (within f at (take k (take 16 (drop from all)))
    && leb (byte_at f (at + k)) (get_or all (from + k) 0))
    ≡ within f at (take (k + 1) (take 16 (drop from all)))
within_next f all at from k h l =
    let limits = take 16 (drop from all) in
    let long : length limits ≡ 16 = limits_long all from l in
    sym (rw (
      add-one,
      within_more f limits at k (omega (arith, long)),
      get_or-take 16 (drop from all) k
          0 h,
      get_or-drop from all k 0,
    ))

-- all bytes
pub within_all : (f limits : List ℕ) (at k : ℕ) → length limits ≤ k
    → within f at (take k limits) ≡ within f at limits
within_all f limits at k h = ap (within f at) (take_all k limits h)

-- the limits of a number stand among all of them where it says
stands : ℕ → Bool
stands n = alike (take 16 (drop (16 * n) (limits_to 30))) (largest (n % 10) (n / 10))

limits_there : (n : ℕ) → n < 30 → take 16 (drop (16 * n) (limits_to 30)) ≡ largest (n % 10) (n / 10)
unfolding stands limits_to largest
limits_there n h = alike→eq _ _ (below stands 30 tt h)

-- those of one number more, put in two parts after those before it
pub limits_next : (all limits : List ℕ) (n : ℕ) → length limits ≡ 12 → length all ≡ 480 → n < 30
    → take (16 * n) all ≡ limits_to n → limits ≡ fields (n % 10) (n / 10)
    → take (16 * (n + 1))
    (paste (paste all (16 * n) (14 ∷ 15 ∷ max_byte ∷ max_byte ∷ []) 4) (16 * n + 4) limits
    (length limits)) ≡ limits_to (n + 1)
unfolding limits_to largest
limits_next all limits n r l h e g =
    let head : List ℕ = 14 ∷ 15 ∷ max_byte ∷ max_byte ∷ [] in
    let first = paste all (16 * n) head 4 in
    let long : length first ≡ 480 =
    length-paste all (16 * n) head 4 (omega arith) (omega arith) ∙ l in
    let more : 16 * (n + 1) ≡ 16 * n + 4 + 12 = omega arith in
    rw (r, more) (take-paste first (16 * n + 4) limits 12 (omega (arith, long)) (omega arith))
    ∙ ap₂ (λ (xs ys : List ℕ). xs ++ ys)
    (take-paste all (16 * n) head 4 (omega arith) (omega arith)
    ∙ ap (λ (xs : List ℕ). xs ++ head) e)
    (take_all 12 limits (omega arith) ∙ g)
    ∙ append_assoc (limits_to n) head (fields (n % 10) (n / 10))
    ∙ ap limits_to (sym (add-one n))

pub all_long : length (limits_to 30) ≡ 480
unfolding limits_to largest
all_long = refl

-- those of a kind and a form, by a number that has them
pub limits_of : (all : List ℕ) (n kind form : ℕ) → all ≡ limits_to 30 → n < 30
    → largest (n % 10) (n / 10) ≡ largest kind form
    → take 16 (drop (16 * n) all) ≡ largest kind form
limits_of all n kind form e h g =
    ap (λ (r : List ℕ). take 16 (drop (16 * n) r)) e ∙ limits_there n h ∙ g

-- two tests that do not both hold, and what is asked where one does
ask_one : (p q a b : Bool) → (p ≡ true → q ≡ false)
    → not (p && not a || q && not b) ≡ cond p a (cond q b true)
ask_one true q true b h = rw (h refl)
ask_one true q false b h = refl
ask_one false true a b h = not-not b
ask_one false false a b h = refl

-- a kind is not both Alu and Branch
one_kind : (kind : ℕ) (b : Bool) → (eqb kind 0 && b) ≡ true → eqb kind 5 ≡ false
one_kind kind b t = rw (eqb-true kind 0 ((and-eq-true_iff (eqb kind 0) b).0 t).0)

-- what must be even, as one test of both fields
pub no_odd : (f : List ℕ) (at : ℕ)
    → not (eqb (byte_at f at) 0 && eqb (byte_at f (at + 8)) 0 && not (even (byte_at f (at + 9)))
    || eqb (byte_at f at) 5 && not (even (byte_at f (at + 12))))
    ≡ even_fields f at
unfolding even_fields
no_odd f at = ask_one _ _ _ _ (one_kind (byte_at f at) (eqb (byte_at f (at + 8)) 0))

-- what decides the rule of a record
module _ (f : List ℕ) (at : ℕ) where
  pub out_of_range : within f at (largest (byte_at f at) (byte_at f (at + 8))) ≡ false
      → false ≡ instr_right f at
  unfolding instr_right
  out_of_range h = simp h

  pub in_range : within f at (largest (byte_at f at) (byte_at f (at + 8))) ≡ true
      → even_fields f at ≡ instr_right f at
  unfolding instr_right
  in_range h = simp h
