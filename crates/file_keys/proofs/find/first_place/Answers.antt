use Prim.Native.Nat.{ℕ, ◌+◌, ◌-◌, ◌/◌, ◌<◌, ◌≤◌}
use mathlib.Core.Path.{◌≡◌, subst}
use native.Mathlib.Omega.{arith}
use Rattle.file_keys.specs.Order.{block_keys}
use Rattle.file_keys.specs.Answers.{Between}
use Rattle.file_keys.proofs.Ordered.{is_order}
use Rattle.file_keys.proofs.Finding as laws
use Rattle.file_keys.proofs.find.first_place.Goals as goal

pub loop-low-init : goal.loop-low-init
loop-low-init c = c.near-range.ensures

pub loop-low-preserved-then-key_of-key : goal.loop-low-preserved-then-key_of-key
loop-low-preserved-then-key_of-key c =
    laws.between_after _ _ (is_order _ _ c.requires.has_records.1) _ _ _
    (c.loop-low.low + (c.loop-low.high - c.loop-low.low) / 2) c.loop-low.invariant (omega arith)
    (omega arith)
    (subst (λ (k : ℕ). k < c.args.key) c.key_of.ensures
    c.if-key_of-key.true)

pub loop-low-preserved : goal.loop-low-preserved
loop-low-preserved c =
    laws.between_before _ _ (is_order _ _ c.requires.has_records.1) _ _ _
    (c.loop-low.low + (c.loop-low.high - c.loop-low.low) / 2) c.loop-low.invariant (omega arith)
    (omega arith)
    (subst (λ (k : ℕ). c.args.key ≤ k) c.key_of.ensures
    c.if-key_of-key.false)

pub returns : goal.returns
returns c =
    let at = c.loop-low in
    let done : at.high ≡ at.low = omega arith in
    subst (λ (h : ℕ). Between (block_keys c.args.file.now)
    c.args.order.now
    c.args.key at.low h) done at.invariant
