-- An arm of a `match` on an enum that several variants share: what is to be shown there is shown at
-- each of them. Assumes nothing.
use Rattle.std.proofs.Common.{◌≡◌, ℕ, zero, suc, cond, List, [], ◌∷◌, inl, inr}
use mathlib.Core.Path.{subst⁻¹}
use mir.Val.{has_key}
use denote.Enum.Declared.{Record, declared, tag_of}
use borrow.Enum.Known.{ValuesAt, at, lives_at}
use types.Run.{OneOf}

-- the numbers below n that are not among ks, and then rest
abbrev before : ℕ → List ℕ → List ℕ → List ℕ
before zero ks rest = rest
before (suc n) ks rest = before n ks (cond (has_key ks n) rest (n ∷ rest))

-- what `_` takes of an enum of n variants where the arms above it take ks
abbrev pub others : ℕ → List ℕ → List ℕ
others n ks = before n ks []

module _ (N : Record) (P : N.D → Type 0) where
  -- P holds at the variants with these numbers, whatever their fields are
  abbrev pub Each : List ℕ → Type 0
  Each [] = Unit {0}
  Each (k ∷ ks) = ((v : ValuesAt N.parts k) → P (at N k v)) × Each ks

  one : (k : ℕ) (x : N.D) → tag_of (declared N) x ≡ k → ((v : ValuesAt N.parts k) → P (at N k v))
      → P x
  one k x e h = subst⁻¹ P (lives_at N x k e).1 (h (lives_at N x k e).0)

  -- so P holds of a value whose variant is one of them
  pub arm : (ks : List ℕ) (x : N.D) → OneOf ks (tag_of (declared N) x) → Each ks → P x
  arm [] x o h = absurd o
  arm (k ∷ []) x o h = one k x o h.0
  arm (k ∷ k' ∷ ks) x (inl e) h = one k x e h.0
  arm (k ∷ k' ∷ ks) x (inr o) h = arm (k' ∷ ks) x o h.1
