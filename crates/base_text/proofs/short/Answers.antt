-- `text::short` meets its contract: ten is subtracted as often as the number has tens.
use mathlib.Core.Path.{◌≡◌, refl, ◌∙◌}
use Prim.Native.Nat.{ℕ, ◌-◌, ◌+◌, ◌*◌, ◌/◌, ◌^◌, ◌≤◌, ◌<◌}
use native.Mathlib.Nat.{zero-add}
use native.Mathlib.Omega.{arith}
use mathlib.Core.List.{List}
use lib.Dec.{lit<}
use lib.ListN.{length, set}
use Rattle.base_text.specs.Digits.{glyph}
use Rattle.base_text.specs.Doc.{dec, decimal}
use Rattle.base_text.specs.Wrote.{Printed}
use Rattle.base_text.proofs.Lengths.{numeral_short}
use Rattle.base_text.proofs.FirstDigits.{numeral_holds, quotient, place_more, place_last}
use Rattle.base_text.proofs.Printers.{last_stored}
use Rattle.base_text.proofs.short.Goals as goal

-- tens stored at the front and ones at the last index of one or two
stored_two : (n d r : ℕ) (o : List ℕ) {o₁ o₂ : List ℕ} {k : ℕ} → n < 20 → k ≡ length (decimal n)
    → 0 < k → d * 10 + r ≡ n → r < 10 → o₁ ≡ set o 0 (glyph d) → o₂ ≡ set o₁ (k - 1) (glyph r)
    → Printed o (dec n) o₂ k
unfolding decimal
stored_two n d r o {o₁} {o₂} {k} h e hk s l p q =
    let t : n < 10 ^ 20 = omega arith in
    let m : k ≤ 2 = rw e (numeral_short 10 20 1 n (lit< tt) (omega arith)) in
    let z : k - 2 ≡ 0 = omega arith in
    let v = quotient n 10 d r s l in
    let f : o₁ ≡ set o (k - 2) (glyph (n / 10)) = rw (z, ← v.0) p in
    let w =
    place_more 10 k 2 n o (lit< tt) hk (lit< tt) (f, (v.1, omega arith))
    (refl, (omega arith, rw e (numeral_holds 10 20 n (lit< tt) t))) in
    last_stored n 1 (omega arith) e (q ∙ place_last 10 k r _ hk l w)

pub returns : goal.returns
returns c =
    stored_two c.args.n c.subtract-d.result.digit c.subtract-d.result.rest _ c.requires
    c.length_below_hundred-k.ensures.count c.length_below_hundred-k.ensures.one (c.subtract-d.ensures.same ∙ zero-add _) (omega (arith, c.subtract-d.ensures.left))
    c.store_digit.ensures
    c.store_digit-2.ensures
