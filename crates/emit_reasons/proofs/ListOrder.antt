-- The order of the reasons of a BlockMem: each counts where none before it holds. Assumes nothing.
use Rattle.std.proofs.Common.{◌≡◌, ℕ, Bool, true, false, cond, refl}
use borrow.Author.Tests.{eq-eqb, ne_eqb}
use lib.Dec.{eqb}
use mathlib.Core.Option.{Option, some}
use Rattle.lower_reasons.specs.declared.types.Reason.{Reason}
use Rattle.lower_reasons.specs.declared.types.Reason.TheVariants.{UserRegisters, EmptyList, PcBase}

-- the user registers first
pub users_first : (s : Bool) (x : Option Reason) → s ≡ true
    → some UserRegisters ≡ cond s (some UserRegisters) x
users_first s x e = rw e refl

-- then an empty list
pub empty_next : (s : Bool) (l : ℕ) (x : Option Reason) → s ≡ false → l ≡ 0
    → some EmptyList ≡ cond s (some UserRegisters) (cond (eqb l 0) (some EmptyList) x)
empty_next s l x e h = rw (e, eq-eqb _ _ h) refl

-- then PC as base
pub base_next : (s : Bool) (l n : ℕ) (x : Option Reason) → s ≡ false → (l ≡ 0 → ⊥) → n ≡ 15
    → some PcBase ≡ cond s (some UserRegisters)
    (cond (eqb l 0) (some EmptyList) (cond (eqb n 15) (some PcBase) x))
base_next s l n x e h b = rw (e, ne_eqb _ _ h, eq-eqb _ _ b) refl

-- the three
pub ruleset in_order = (users_first, empty_next, base_next)
