use Prim.Native.Nat.{ℕ, ◌+◌, ◌*◌, ◌≤◌, ◌<◌}
use lib.ListN.{get_or}
use mathlib.Core.List.{List}
use mathlib.Core.Path.{◌≡◌, sym, ap, ◌∙◌}
use native.Mathlib.Decide.{ℕ_discrete}
use native.Mathlib.Omega.{arith}
use Rattle.plan_members.proofs.Places.{end_next}
use Rattle.plan_members.proofs.rows.group_end.Goals as goal

-- one row more with the same number
same_more : (work : List ℕ) (n p end : ℕ)
    → ((q : ℕ) → p ≤ q → q < end → get_or work (2 * n + q) 0 ≡ get_or work (2 * n + p) 0)
    → get_or work (2 * n + end) 0 ≡ get_or work (2 * n + p) 0
    → (q : ℕ) → p ≤ q → q < end + 1 → get_or work (2 * n + q) 0 ≡ get_or work (2 * n + p) 0
same_more work n p end same e q l h =
    elim (ℕ_discrete q end) [
      | yes at ↦ ap (λ (m : ℕ). get_or work (2 * n + m) 0) at ∙ e
      | no d ↦ same q l (omega arith)
    ]

pub loop-end-init : goal.loop-end-init
loop-end-init c = (
  omega arith,
  omega arith,
  c.requires.0,
  λ q l h. ap
      (λ (m : ℕ). get_or c.args.work.now (2 * c.args.n + m) 0) (omega arith),
)

pub returns-then-work-n : goal.returns-then-work-n
returns-then-work-n c = let inv = c.loop-end.invariant in record {
  inside = (inv.0, inv.1);
  planned = λ f limit g ready is. end_next ready _ g _ is inv.0 inv.1 inv.3
      (λ h. c.if-work-n.true);
}

pub loop-end-preserved : goal.loop-end-preserved
loop-end-preserved c =
    let inv = c.loop-end.invariant in (
      omega arith,
      omega arith,
      inv.2,
      same_more
          c.args.work.now
          c.args.n
          c.args.p _ inv.3 c.if-work-n.false,
    )

pub returns : goal.returns
returns c =
    let inv = c.loop-end.invariant in
    let done : c.loop-end.end ≡ c.args.n = omega arith in record {
      inside = (omega arith, omega arith);
      planned = λ f limit g ready is. sym done ∙ end_next ready _ g _ is inv.0 inv.1 inv.3
          (λ h. absurd (omega arith));
    }
