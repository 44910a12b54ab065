-- `repeated_on_stack` finds the first repeated key in the order that it made on the stack.
-- Assumes nothing.
use mathlib.Core.Path.{sym, ◌∙◌}
use native.Mathlib.Omega.{arith}
use Rattle.file_keys.proofs.Ordered.{is_order}
use Rattle.file_keys.proofs.Whole.{order_as}
use Rattle.file_keys.proofs.Reading.{length_keys}
use Rattle.file_keys.proofs.find.repeated_on_stack.Goals as goal

pub order_blocks-requires : goal.order_blocks-requires
order_blocks-requires c =
    (c.requires.0, omega (arith, c.requires.0.few))

pub slice_bounds-work-end : goal.slice_bounds-work-end
slice_bounds-work-end c =
    omega (
      arith,
      c.requires.0.few,
      c.requires.1,
      c.order_blocks.ensures.same,
    )

pub slice_bounds-first_repeated-end : goal.slice_bounds-first_repeated-end
slice_bounds-first_repeated-end c =
    let order = (order_as (sym c.requires.1) c.order_blocks.ensures).order in
    c.requires.1 ∙ sym ((is_order _ _ order).long ∙ length_keys c.args.file.now)

pub first_repeated-requires : goal.first_repeated-requires
first_repeated-requires c = (
  c.requires.0,
  (order_as (sym c.requires.1) c.order_blocks.ensures
      ).order,
)
