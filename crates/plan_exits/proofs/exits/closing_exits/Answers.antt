-- `plan_exits::exits::closing_exits` meets its contract: each arm is told what the two
-- instructions make. Assumes nothing.
use Rattle.std.proofs.Common.{ℕ, [], ◌∷◌, ap}
use Rattle.plan_exits.proofs.exits.closing_exits.Goals as goal

pub returns-in-Some : goal.returns-in-Some
returns-in-Some c =
    rw (
      ← c.fuse_thumb_bl.ensures,
      c.in-Some.is,
    ) (ap (λ (k : ℕ). k ∷ []) c.set_bit0.ensures)

pub returns-in-None : goal.returns-in-None
returns-in-None c =
    rw (← c.fuse_thumb_bl.ensures, c.in-None.is)
    c.last_exits.ensures
