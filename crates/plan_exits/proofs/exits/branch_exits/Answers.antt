-- `plan_exits::exits::branch_exits` meets its contract: `_` answers for each condition but Al,
-- number 14. Assumes nothing.
use Rattle.std.proofs.Common.{◌≡◌, false, [], ◌∷◌, refl}
use types.Run.{OneOf}
use denote.Enum.Declared.{tag_of}
use Rattle.armv4t.proofs.Arms.{arm, others}
use Rattle.armv4t.specs.declared.Cond.{Cond}
use Rattle.armv4t.specs.contracts.Cond.{enum, the_type}
use Rattle.armv4t.specs.Cond.{is_al}
use Rattle.plan_exits.proofs.exits.branch_exits.Goals as goal

-- the search does not reach through all fifteen, so three stand here
other : (k : Cond) → OneOf (others 16 (14 ∷ [])) (tag_of the_type k) → is_al k ≡ false
other k o =
    arm enum (λ k'. is_al k' ≡ false) (others 16 (14 ∷ [])) k o
    (λ _. refl, (λ _. refl, (λ _. refl, search depth 16)))

pub returns-in-Al : goal.returns-in-Al
returns-in-Al c = rw c.in-Al.is
