-- The registers of a register list: whether one is named, how many are, and which is the lowest.
use Rattle.std.proofs.Common.{◌≡◌, ℕ, zero, suc, ◌+◌, ◌-◌, ◌*◌, ◌<◌, true, false, List, [], ◌∷◌, ◌++◌, length, get_or, sym, refl, ap, ◌∙◌, add-one, arith, length-append}
use Rattle.lower_forms.specs.InlineBody.{list_if, listed}
use Rattle.armv4t.specs.RegisterList.{is_listed}

-- one register more
pub listed_suc : (rlist n : ℕ)
    → listed rlist (n + 1) ≡ listed rlist n ++ list_if (is_listed rlist n) n
unfolding listed
listed_suc rlist n = rw (add-one) refl

-- a register that is not listed
pub listed_not : (rlist n : ℕ) → is_listed rlist n ≡ false → listed rlist n ≡ []
    → listed rlist (n + 1) ≡ []
listed_not rlist n out none = rw (listed_suc rlist n, none, out) refl

-- the first register listed stays the lowest
pub lowest_first : (rlist r : ℕ) → is_listed rlist r ≡ true → listed rlist r ≡ [] → (m k : ℕ)
    → k ≡ r + 1 + m
    → (rest : List ℕ) × (listed rlist k ≡ r ∷ rest)
lowest_first rlist r named none zero k e =
    let next : k ≡ r + 1 = omega (arith, e) in
    ([], ap (listed rlist) next ∙ rw (listed_suc rlist r, none, named) refl)
lowest_first rlist r named none (suc m) k e =
    let before : ℕ = r + 1 + m in
    let IH = lowest_first rlist r named none m before refl in
    let next : k ≡ before + 1 = omega (arith, e) in (
      IH.0 ++ list_if (is_listed rlist before) before,
      ap (listed rlist) next ∙ listed_suc rlist before
          ∙ ap (λ (xs : List ℕ). xs ++ list_if (is_listed rlist before) before) IH.1,
    )

-- the bytes of one register more
pub bytes_more : (rlist r n : ℕ) → is_listed rlist r ≡ true → n ≡ length (listed rlist r) * 4
    → n + 4 ≡ length (listed rlist (r + 1)) * 4
bytes_more rlist r n named so =
    rw (listed_suc rlist r, named) (omega (arith, so, length-append (listed rlist r) (r ∷ [])))

pub bytes_same : (rlist r n : ℕ) → is_listed rlist r ≡ false → n ≡ length (listed rlist r) * 4
    → n ≡ length (listed rlist (r + 1)) * 4
bytes_same rlist r n out so =
    rw (listed_suc rlist r, out) (omega (arith, so, length-append (listed rlist r) []))

-- the lowest register, and 16 where none is listed
pub lowest_is : (rlist r : ℕ) → r < 16 → is_listed rlist r ≡ true → listed rlist r ≡ []
    → r ≡ get_or (listed rlist 16) 0 16
lowest_is rlist r below named none =
    let all = lowest_first rlist r named none (15 - r) 16 (omega arith) in
    sym (ap (λ (xs : List ℕ). get_or xs 0 16) all.1)

pub lowest_none : (rlist r : ℕ) → r ≡ 16 → listed rlist r ≡ [] → 16 ≡ get_or (listed rlist 16) 0 16
lowest_none rlist r e none =
    sym (ap (λ (k : ℕ). get_or (listed rlist k) 0 16) (sym e)
    ∙ ap (λ (xs : List ℕ). get_or xs 0 16) none)
