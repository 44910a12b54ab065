use Prim.Native.Nat.{◌+◌, ◌-◌, ◌/◌}
use mathlib.Core.Path.{◌≡◌, subst}
use native.Mathlib.Omega.{arith}
use Rattle.plan_members.specs.Members.{group_keys}
use Rattle.plan_members.specs.Lookup.{KeyBetween}
use Rattle.plan_members.proofs.Among.{keys_sorted, between_all, between_after}
use Rattle.plan_members.proofs.Among.{between_before}
use Rattle.plan_members.proofs.RowKeys.{group_size, keys_size, key_inside, row_of}
use Rattle.plan_members.proofs.lookup.first_from.Goals as goal

pub loop-low-init : goal.loop-low-init
loop-low-init c = (
  omega arith,
  omega arith,
  λ limit g is. between_all _ (omega (arith, keys_size is, group_size is)),
)

pub loop-low-preserved-then-row_key-key : goal.loop-low-preserved-then-row_key-key
loop-low-preserved-then-row_key-key c =
    let turn = c.loop-low in
    let inv = turn.invariant in (
      omega arith,
      inv.1,
      λ limit g is.
          let mid = turn.low + (turn.high - turn.low) / 2 in
          let row = row_of is mid (omega (arith, group_size is)) in
          between_after (keys_sorted limit _ g) (inv.2 limit g is) mid
          (key_inside is mid (omega arith))
          (omega (arith, c.row_key.ensures _ limit g mid row, c.if-row_key-key.true)),
    )

pub loop-low-preserved : goal.loop-low-preserved
loop-low-preserved c =
    let turn = c.loop-low in
    let inv = turn.invariant in (
      omega arith,
      omega arith,
      λ limit g is.
          let mid = turn.low + (turn.high - turn.low) / 2 in
          let row = row_of is mid (omega (arith, group_size is)) in
          between_before (keys_sorted limit _ g) (inv.2 limit g is) mid
          (key_inside is mid (omega arith))
          (omega (arith, c.row_key.ensures _ limit g mid row, c.if-row_key-key.false)),
    )

pub returns : goal.returns
returns c = λ limit g is.
    let turn = c.loop-low in
    let done : turn.high ≡ turn.low = omega (arith, turn.invariant.0, c.loop-low-test.false) in
    subst (KeyBetween (group_keys limit _ g) _ turn.low) done (turn.invariant.2 limit g is)
