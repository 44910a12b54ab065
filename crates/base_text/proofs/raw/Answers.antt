-- `text::line` meets its contract, whether all of s fits, some or nothing.
use mathlib.Core.Path.{refl}
use native.Mathlib.Omega.{arith}
use Rattle.base_text.specs.Doc.{print}
use Rattle.base_text.proofs.Printers.{copied, measured}
use Rattle.base_text.proofs.raw.Goals as goal

pub returns-then-s-part : goal.returns-then-s-part
returns-then-s-part c = copied c.copy.ensures

pub returns-then-part-ne0 : goal.returns-then-part-ne0
returns-then-part-ne0 c = copied c.clip.ensures

pub returns-else-part-ne0 : goal.returns-else-part-ne0
unfolding print
returns-else-part-ne0 c = measured (omega arith) refl
