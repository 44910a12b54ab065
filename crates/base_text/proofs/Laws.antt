-- The laws of `Wrote`, by which the proof of every emitter goes.
use mathlib.Core.Path.{◌≡◌, refl, sym, ap, ◌∙◌}
use Prim.Native.Nat.{ℕ, ◌+◌, ◌≤◌, ◌<◌, min}
use native.Mathlib.Omega.{arith}
use native.Mathlib.Numerals.{add-one}
use mathlib.Core.List.{List, [], ◌∷◌, ◌++◌, append-nil, append_assoc}
use lib.ListN.{length, take, drop, get_or, length-append}
use lib.Seq.{take-suc, take_all}
use Rattle.base_text.specs.Doc.{Doc, nothing, raw, text, dec, hex, hex8, hex16, ◌▸◌, print}
use Rattle.base_text.specs.Doc.{each}
use Rattle.base_text.specs.Flat.{flat}
use Rattle.base_text.specs.Wrote.{max_usize, overlay, Wrote}
use Rattle.base_text.proofs.Overlay.{overlay_none, length_overlay, overlay_append}
use Rattle.base_text.proofs.Overlay.{overlay_front, overlay_stop}

-- nothing was written
pub none : {o : List ℕ} {at : ℕ} → length o ≤ max_usize → at ≤ max_usize → Wrote o at nothing o at
unfolding print
none {o} {at} h k = record { bytes = sym (overlay_none o at); next = omega arith; small = h }

-- one doc and then another
pub seq : {o o₁ o₂ : List ℕ} {at r₁ r₂ : ℕ} {a b : Doc} → Wrote o at a o₁ r₁ → Wrote o₁ r₁ b o₂ r₂
    → Wrote o at (a ▸ b) o₂ r₂
unfolding print
seq {o} {o₁} {o₂} {at} {r₁} {r₂} {a} {b} v w =
    record {
      bytes =
          w.bytes ∙ ap (λ (d : List ℕ). overlay d r₁ (print b)) v.bytes
          ∙ ap (λ (k : ℕ). overlay (overlay o at (print a)) k (print b)) v.next
          ∙ overlay_stop (overlay o at (print a)) (at + length (print a)) max_usize (print b)
          (omega (arith, length_overlay o at (print a), v.small))
          ∙ overlay_append o at (print a) (print b);
      next = omega (arith, v.next, w.next, length-append (print a) (print b));
      small = v.small;
    }

-- the buffer keeps its length
pub kept : {o o' : List ℕ} {at r : ℕ} {d : Doc} → Wrote o at d o' r → length o' ≡ length o
kept {o} {at = at} {d = d} w = ap length w.bytes ∙ length_overlay o at (print d)

-- `flat` is `print`
pub flat_print : (d : Doc) (k : List ℕ) → flat d k ≡ print d ++ k
unfolding print
flat_print nothing k = refl
flat_print (raw s) k = refl
flat_print (text s) k = refl
flat_print (dec n) k = refl
flat_print (hex n) k = refl
flat_print (hex8 n) k = refl
flat_print (hex16 n) k = refl
flat_print (a ▸ b) k = ap (flat a) (flat_print b k) ∙ flat_print a (print b ++ k)
    ∙ sym (append_assoc (print a) (print b) k)

-- docs of the same bytes
pub same_bytes : (d e : Doc) → flat d [] ≡ flat e [] → print d ≡ print e
same_bytes d e p =
    sym (append-nil (print d)) ∙ sym (flat_print d []) ∙ p ∙ flat_print e [] ∙ append-nil (print e)

-- the same bytes, put together otherwise: `wrote_as w refl`
pub wrote_as : {o o' : List ℕ} {at r : ℕ} {d e : Doc} → Wrote o at d o' r → flat d [] ≡ flat e []
    → Wrote o at e o' r
wrote_as {o} {o'} {at} {r} {d} {e} w p =
    let q : print d ≡ print e = same_bytes d e p in
    record {
      bytes = w.bytes ∙ ap (overlay o at) q;
      next = w.next ∙ ap (λ (s : List ℕ). min (at + length s) max_usize) q;
      small = w.small;
    }

-- the docs of two lists, one after the other
pub each_append : {A : Type 0} (f : A → Doc) (xs ys : List A) (k : List ℕ)
    → flat (each f xs ▸ each f ys) k ≡ flat (each f (xs ++ ys)) k
each_append f [] ys k = refl
each_append f (x ∷ xs) ys k = ap (flat (f x)) (each_append f xs ys k)

-- a loop that writes f of each element of xs: a turn, and the end; before the first turn it is
-- `none`
pub each_more : {A : Type 0} (f : A → Doc) (xs : List A) (x : A) (i : ℕ) {o o₁ o₂ : List ℕ}
    {at r₁ r₂ : ℕ} → i < length xs
    → Wrote o at (each f (take i xs)) o₁ r₁ → Wrote o₁ r₁ (f (get_or xs i x)) o₂ r₂
    → Wrote o at (each f (take (i + 1) xs)) o₂ r₂
each_more f xs x i h v w =
    rw (add-one, take-suc xs i x h)
    (wrote_as (seq v w) (each_append f (take i xs) (get_or xs i x ∷ []) []))

pub each_all : {A : Type 0} (f : A → Doc) (xs : List A) (i : ℕ) {o o' : List ℕ} {at r : ℕ}
    → length xs ≤ i
    → Wrote o at (each f (take i xs)) o' r → Wrote o at (each f xs) o' r
each_all f xs i h w = rw (take_all i xs h) at w

-- What a caller of a whole text reads off. The answer is the length of the text, or the largest
-- `usize` where that is less: so it is for an empty buffer, which is measured.
pub counted : {o o' : List ℕ} {r : ℕ} {d : Doc} → Wrote o 0 d o' r
    → r ≡ min (length (print d)) max_usize
counted w = omega (arith, w.next)

-- an answer below the largest `usize` is the length of the text
pub exact : {o o' : List ℕ} {r : ℕ} {d : Doc} → Wrote o 0 d o' r → r < max_usize
    → r ≡ length (print d)
exact w h = omega (arith, w.next)

-- a text that fits stands at the front of the buffer, and the answer is its length
pub whole : {o o' : List ℕ} {r : ℕ} {d : Doc} → Wrote o 0 d o' r → length (print d) ≤ length o
    → (o' ≡ print d ++ drop (length (print d)) o) × (r ≡ length (print d))
whole {o} {o'} {r} {d} w h =
    (w.bytes ∙ overlay_front o (print d) h, omega (arith, w.next, w.small))
