-- `row_group` reads quarter 2.
-- Assumes nothing.
use mathlib.Core.Path.{refl}
use Rattle.plan_members.proofs.Places.{row_number}
use Rattle.plan_members.proofs.rows.row_group.Goals as goal

pub returns : goal.returns
returns c = record { number = refl; planned = λ f limit g k ready is h. row_number ready _ g k is h }
