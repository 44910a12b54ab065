-- The laws of `Printed`, by which the proof of a printer goes, and the one by which a printer that
-- is lent a part writes to the whole.
use mathlib.Core.Path.{◌≡◌, refl, sym, ap, ◌∙◌}
use Prim.Native.Nat.{ℕ, suc, ◌+◌, ◌-◌, ◌^◌, ◌≤◌, ◌<◌, min}
use native.Mathlib.Nat.{zero-add}
use native.Mathlib.Omega.{arith}
use native.Mathlib.Numerals.{add-one}
use mathlib.Core.List.{List, ◌++◌, append-nil}
use lib.ListN.{length, take, drop, set, get_or, length-drop, drop_of_length-le}
use lib.Dec.{lit<}
use lib.Seq.{take_all}
use Rattle.base_text.specs.Digits.{numeral, last_digits}
use Rattle.base_text.specs.Doc.{Doc, raw, dec, decimal, print}
use Rattle.base_text.specs.Wrote.{max_usize, overlay, Printed, Wrote}
use Rattle.base_text.proofs.Overlay.{overlay_past, overlay_part, overlay_stop, overlay_more}
use Rattle.base_text.proofs.Numerals.{length_fixed, numeral_fixed}
use Rattle.base_text.proofs.Lengths.{numeral_short}

-- a turn of a loop that copies
pub copy_more : (o d s : List ℕ) (i : ℕ) → i < length s → d ≡ overlay o 0 (take i s)
    → set d i (get_or s i 0) ≡ overlay o 0 (take (i + 1) s)
copy_more o d s i h e = rw (e, add-one) (rw zero-add at (overlay_more o 0 s i h))

-- s was copied
pub copied : {o o' s : List ℕ} → o' ≡ overlay o 0 s → Printed o (raw s) o' (length s)
unfolding print
copied e = record { bytes = e; size = refl }

-- a piece for an empty part is measured
pub measured : {o : List ℕ} {d : Doc} {n : ℕ} → length o ≡ 0 → n ≡ length (print d)
    → Printed o d o n
measured {o} {d} {n} h e =
    record { bytes = sym (overlay_past o 0 (print d) (omega arith)); size = e }

-- the last k digits of a number were stored
pub spelt : (b k n : ℕ) {o o' : List ℕ} {d : Doc} → print d ≡ last_digits b k n
    → o' ≡ overlay o 0 (last_digits b k n) → Printed o d o' k
spelt b k n {o} {o'} {d} p q =
    record {
      bytes = q ∙ ap (overlay o 0) (sym p);
      size = sym (length_fixed b k n)
          ∙ ap length (sym p);
    }

-- all digits of a number were stored
pub stored : (b most n : ℕ) {k : ℕ} {o o' : List ℕ} {d : Doc} → print d ≡ numeral b most n
    → k ≡ length (print d)
    → o' ≡ overlay o 0 (last_digits b k n) → Printed o d o' k
stored b most n {k} {o} {o'} {d} p e q =
    spelt b k n
    (p ∙ numeral_fixed b most n ∙ ap (λ (j : ℕ). last_digits b j n) (sym (e ∙ ap length p))) q

-- the last j + 1 digits were stored, and there are no more
pub last_stored : (n j : ℕ) {k : ℕ} {o o' : List ℕ} → n < 10 ^ suc j → k ≡ length (decimal n)
    → o' ≡ overlay o (k - suc j) (last_digits 10 (min (suc j) k) n) → Printed o (dec n) o' k
unfolding print decimal
last_stored n j {k} {o} {o'} h e q =
    let l : k ≤ suc j = rw e (numeral_short 10 20 j n (lit< tt) h) in
    let s : k - suc j ≡ 0 = omega arith in
    let m : min (suc j) k ≡ k = omega arith in
    stored 10 20 n refl e (rw (s, m) at q)

-- the part of o from index `at` on, or an empty one where `at` is past the end, was lent to a
-- printer and came back
pub lent : {o part' : List ℕ} {at from n r : ℕ} {d : Doc} → length o ≤ max_usize
    → from ≡ min at (length o)
    → Printed (take (length o - from) (drop from o)) d part' n → r ≡ min (at + n) max_usize
    → Wrote o at d (take from o ++ (part' ++ drop (length o - from) (drop from o))) r
lent {o} {part'} {at} {from} {n} {r} {d} h e w q =
    let l : length (drop from o) ≤ length o - from = omega (arith, length-drop from o) in
    record {
      bytes =
          rw (drop_of_length-le (drop from o) l, append-nil)
          (ap (λ (s : List ℕ). take from o ++ s)
          (w.bytes
          ∙ ap (λ (s : List ℕ). overlay s 0 (print d))
          (take_all (length o - from) (drop from o) l))
          ∙ sym (overlay_part o from (print d))
          ∙ ap (λ (k : ℕ). overlay o k (print d)) e
          ∙ overlay_stop o at (length o) (print d) (omega arith));
      next = q ∙ ap (λ (k : ℕ). min (at + k) max_usize) w.size;
      small = h;
    }
