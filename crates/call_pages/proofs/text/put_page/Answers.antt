use Prim.Native.Nat.{◌-◌, ◌<◌, min}
use mathlib.Core.List.{[]}
use mathlib.Core.Path.{refl, sym, ap, ◌∙◌}
use native.Mathlib.Omega.{arith}
use Rattle.base_text.specs.Flat.{flat}
use Rattle.base_text.proofs.Laws.{none, seq, kept, wrote_as, each_more, each_all}
use Rattle.file_blocks.specs.Parse.{blocks_of}
use Rattle.call_pages.specs.Page.{Row, row_line, page_text}
use Rattle.call_pages.proofs.Paging.{page_row, page_rows}
use Rattle.call_pages.proofs.text.put_page.Invariants.{rows_on}
use Rattle.call_pages.proofs.text.put_page.Goals as goal

pub loop-i-init : goal.loop-i-init
loop-i-init c = (
  omega arith,
  refl,
  λ limit ready. none (omega (arith, kept c.put_head-next.ensures, c.put_head-next.ensures.small)) (omega (arith, c.put_head-next.ensures.next)),
)

pub overflow_add-p : goal.overflow_add-p
overflow_add-p c =
    omega (arith, c.rows_on-rows.ensures, c.requires.0.1, c.requires.1)

pub put_row-next-requires : goal.put_row-next-requires
put_row-next-requires c =
    (c.requires.0, omega (arith, c.rows_on-rows.ensures, c.requires.1))

pub loop-i-preserved : goal.loop-i-preserved
loop-i-preserved c =
    let put = c.put_row-next in
    let loop = c.loop-i in
    let a = c.args in
    let few : loop.i < min 60 (a.n - a.p) = omega (arith, c.rows_on-rows.ensures) in (
      omega arith,
      put.auto.out ∙ loop.invariant.1,
      λ limit ready. each_more (row_line (blocks_of a.file.now))
          (rows_on a.file.now limit a.k a.p) _ loop.i
          (omega (arith, page_rows ready a.k a.p)) (loop.invariant.2 limit ready)
          (wrote_as (put.ensures limit ready)
          (ap (λ (r : Row). flat (row_line (blocks_of a.file.now) r) [])
          (sym (page_row limit (blocks_of a.file.now) a.k a.p loop.i (omega arith))))),
    )

pub shape_of-out : goal.shape_of-out
shape_of-out c = c.loop-i.invariant.1 ∙ c.put_head-next.auto.out

pub returns : goal.returns
unfolding page_text
returns c =
    let a = c.args in
    λ limit ready.
    wrote_as (seq c.put_head-next.ensures
    (each_all (row_line (blocks_of a.file.now)) (rows_on a.file.now limit a.k a.p)
    c.loop-i.i (omega (arith, page_rows ready a.k a.p, c.rows_on-rows.ensures))
    (c.loop-i.invariant.2 limit ready))) refl
