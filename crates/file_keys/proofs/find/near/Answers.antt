-- `near` narrows the search by one or two places.
-- Assumes nothing.
use Prim.Native.Nat.{ℕ, zero-le, ◌<◌, ◌≤◌}
use mathlib.Core.Path.{refl, subst}
use native.Mathlib.Omega.{arith}
use Rattle.file_keys.proofs.Ordered.{is_order}
use Rattle.file_keys.proofs.Finding as laws
use Rattle.file_keys.proofs.find.near.Goals as goal

pub returns-then-n-far : goal.returns-then-n-far
returns-then-n-far c =
    let o = is_order _ _ c.requires.has_records.1 in
    laws.between_right _ _ o _ _ _ refl c.requires.p_in_bounds
    (subst (λ (k : ℕ). k < c.args.key) c.key_of.ensures c.if-key_of-key.true)

pub returns-then-key_of-key-2 : goal.returns-then-key_of-key-2
returns-then-key_of-key-2 c =
    let o = is_order _ _ c.requires.has_records.1 in
    laws.between_right _ _ o _ _ _ refl (omega arith)
    (subst (λ (k : ℕ). k < c.args.key) c.key_of-then-key_of-key.ensures c.if-key_of-key-2.true)

pub returns-then-key_of-key : goal.returns-then-key_of-key
returns-then-key_of-key c =
    let o = is_order _ _ c.requires.has_records.1 in
    laws.between_before _ _ o _ _ _ _
    (laws.between_right _ _ o _ _ _ refl c.requires.p_in_bounds
    (subst (λ (k : ℕ). k < c.args.key) c.key_of.ensures c.if-key_of-key.true))
    (omega arith) (omega arith)
    (subst (λ (k : ℕ). c.args.key ≤ k) c.key_of-then-key_of-key.ensures c.if-key_of-key-2.false)

pub returns-then-p-lt16 : goal.returns-then-p-lt16
returns-then-p-lt16 c =
    let o = is_order _ _ c.requires.has_records.1 in
    laws.between_left _ _ o _ _ c.requires.p_in_bounds
    (subst (λ (k : ℕ). c.args.key ≤ k) c.key_of.ensures c.if-key_of-key.false)

pub returns-then-key_of-key-3 : goal.returns-then-key_of-key-3
returns-then-key_of-key-3 c =
    let o = is_order _ _ c.requires.has_records.1 in
    laws.between_after _ _ o _ _ _ _
    (laws.between_left _ _ o _ _ c.requires.p_in_bounds
    (subst (λ (k : ℕ). c.args.key ≤ k) c.key_of.ensures c.if-key_of-key.false))
    zero-le (omega arith)
    (subst (λ (k : ℕ). k < c.args.key) c.key_of-2.ensures c.if-key_of-key-3.true)

pub returns : goal.returns
returns c =
    let o = is_order _ _ c.requires.has_records.1 in
    laws.between_left _ _ o _ _ (omega arith)
    (subst (λ (k : ℕ). c.args.key ≤ k) c.key_of-2.ensures c.if-key_of-key-3.false)
