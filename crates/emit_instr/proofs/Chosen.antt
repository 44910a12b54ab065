-- Which of two stands where a test chose it.
use Rattle.std.proofs.Common.{◌≡◌, Bool, true, false, cond, sym, refl, true≢false}
use mathlib.Core.Option.{Option, none, some}
use Rattle.base_lists.specs.Lists.{is_some}

-- one of two
pub chosen : {A : Type 0} (t : Bool) (x y : A) → t ≡ true → x ≡ cond t x y
chosen true x y e = refl
chosen false x y e = absurd (true≢false (sym e))

pub refused : {A : Type 0} (t : Bool) (x y : A) → t ≡ false → y ≡ cond t x y
refused true x y e = absurd (true≢false e)
refused false x y e = refl

-- something that is there or not
pub there : {A : Type 0} (m : Option A) → is_some m ≡ true → (x : A) × (m ≡ some x)
there none e = absurd (true≢false (sym e))
there (some x) e = (x, refl)

pub missing : {A : Type 0} (m : Option A) → is_some m ≡ false → none ≡ m
missing none e = refl
missing (some x) e = absurd (true≢false e)
