-- The kinds that have no native form whatever their fields are.
-- Assumes nothing.
use Prim.Native.Nat.{ℕ}
use mathlib.Core.List.{List, [], ◌∷◌}
use mathlib.Core.Option.{some}
use mathlib.Core.Path.{◌≡◌}
use denote.Enum.Declared.{tag_of}
use types.Run.{OneOf}
use Rattle.armv4t.proofs.Arms.{arm, others}
use Rattle.armv4t.specs.contracts.Op.{enum, the_type}
use Rattle.armv4t.specs.declared.Cond.{Cond}
use Rattle.armv4t.specs.declared.Op.{Op}
use Rattle.lower_reasons.specs.declared.types.Reason.TheVariants.{NoNativeForm}
use Rattle.lower_reasons.specs.Reasons.{reason_by}

-- all but Alu, Mul, MulLong, Bx, Branch, the halves, Mem and BlockMem
abbrev pub left : List ℕ
left = others 15 (0 ∷ 1 ∷ 2 ∷ 4 ∷ 5 ∷ 6 ∷ 7 ∷ 8 ∷ 9 ∷ [])

pub formless_reason : (region : ℕ) (c : Cond) (op : Op) → OneOf left (tag_of the_type op)
    → reason_by region c op ≡ some NoNativeForm
unfolding reason_by
formless_reason region c op o =
    arm enum (λ (x : Op). reason_by region c x ≡ some NoNativeForm) left op o (search depth 16)
