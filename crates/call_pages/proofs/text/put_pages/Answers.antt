use Prim.Native.Nat.{◌≤◌}
use borrow.Author.Rules.{rules}
use lib.ListN.{length as size}
use mathlib.Core.Path.{refl, ◌∙◌}
use native.Mathlib.Omega.{arith}
use Rattle.call_pages.proofs.Fitted.{putting_none, putting-end, putting_over}
use Rattle.call_pages.proofs.Fitted.{putting_more}
use Rattle.call_pages.proofs.text.put_pages.Goals as goal

pub loop-row-init : goal.loop-row-init
loop-row-init c =
    let small : size c.args.text.now ≤ 18446744073709551615 = search rules in (
      refl,
      omega arith,
      omega arith,
      λ limit ready. putting_none ready _ _ _ c.requires.1 small,
    )

pub overflow_sub-text : goal.overflow_sub-text
overflow_sub-text c = omega (arith, c.loop-row.invariant.0, c.loop-row.invariant.1)

pub returns-then-text-length : goal.returns-then-text-length
returns-then-text-length c =
    let inv = c.loop-row.invariant in
    λ limit ready.
    putting_over ready (inv.3 limit ready) (omega arith)
    (omega (arith, inv.0, c.page_length-size.ensures))

-- the numbers of pages are small
pub overflow_add-k : goal.overflow_add-k
overflow_add-k c =
    omega (arith, c.loop-row.invariant.2, c.requires.0.1, c.requires.1.here)

pub put_page-requires : goal.put_page-requires
put_page-requires c =
    (c.requires.0, omega arith)

pub overflow_add-count : goal.overflow_add-count
overflow_add-count c =
    omega (arith, c.loop-row.invariant.2, c.requires.0.1)

pub overflow_add-length : goal.overflow_add-length
overflow_add-length c =
    let inv = c.loop-row.invariant in
    let small : size c.args.text.now ≤ 18446744073709551615 = search rules in
    omega (arith, inv.0, inv.1)

pub overflow_add-row : goal.overflow_add-row
overflow_add-row c =
    omega (arith, c.requires.0.1)

pub loop-row-preserved : goal.loop-row-preserved
loop-row-preserved c =
    let put = c.put_page in
    let loop = c.loop-row in
    let inv = loop.invariant in (
      put.auto.out ∙ inv.0,
      omega (arith, inv.0, inv.1),
      omega (arith, inv.2),
      λ limit ready.
          putting_more ready (inv.3 limit ready) (omega arith) _ c.page_length-size.ensures
          (omega (arith, inv.0)) (put.ensures limit ready),
    )

pub shape_of-text : goal.shape_of-text
shape_of-text c = c.loop-row.invariant.0

pub returns : goal.returns
returns c =
    λ limit ready. putting-end ready (c.loop-row.invariant.3 limit ready) (omega arith)
