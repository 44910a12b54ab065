-- `plan_exits::exits::last_exits` meets its contract. An arm of one operation is given its fields;
-- the two arms that several share answer for each. Assumes nothing.
use Rattle.std.proofs.Common.{◌≡◌, ℕ, Bool, List, [], ◌∷◌}
use types.Run.{OneOf}
use denote.Enum.Declared.{tag_of}
use Rattle.armv4t.specs.declared.Cond.{Cond}
use Rattle.armv4t.specs.declared.Op.{Op}
use Rattle.armv4t.proofs.Arms.{arm, others}
use Rattle.armv4t.specs.contracts.Op.{enum, the_type}
use Rattle.plan_exits.specs.Exits.{op_exits}
use Rattle.plan_exits.proofs.exits.last_exits.Goals as goal

-- Bx, Swi, Undefined and ThumbBlLow
abbrev leaving : List ℕ
leaving = 4 ∷ 13 ∷ 14 ∷ 7 ∷ []

-- what is left to `_`
abbrev falling : List ℕ
falling = others 15 (0 ∷ 4 ∷ 5 ∷ 7 ∷ 8 ∷ 9 ∷ 13 ∷ 14 ∷ [])

module _ (op : Op) (k : Cond) (thumb : Bool) (fall : ℕ) where
  leaves : OneOf leaving (tag_of the_type op) → [] ≡ op_exits op k thumb fall
  leaves o = arm enum (λ x. [] ≡ op_exits x k thumb fall) leaving op o (search depth 16)

  falls : OneOf falling (tag_of the_type op) → fall ∷ [] ≡ op_exits op k thumb fall
  falls o = arm enum (λ x. fall ∷ [] ≡ op_exits x k thumb fall) falling op o (search depth 16)

pub returns-in-Branch : goal.returns-in-Branch
returns-in-Branch c =
    rw (
      c.in-Branch.is,
      c.branch_exits.ensures,
      c.key_of.ensures,
      c.fall_through-fall.ensures,
    )

pub returns-in-Alu : goal.returns-in-Alu
returns-in-Alu c =
    rw (
      c.in-Alu.is,
      c.falls_unless.ensures,
      c.fall_through-fall.ensures,
    )

pub returns-in_default : goal.returns-in_default
returns-in_default c =
    rw c.fall_through-fall.ensures
    (falls c.args.last.op _ _ _ c.in_default.in_default-own.keys6)
