-- `put_result` meets its contract: what its calls write, one after another. Assumes nothing.
use Rattle.std.proofs.Common.{refl, sym, ◌∙◌}
use Rattle.base_text.proofs.Laws.{wrote_as}
use Rattle.emit_alu.proofs.logical.put_result.Goals as goal

pub returns-then-is_compare : goal.returns-then-is_compare
returns-then-is_compare c =
    rw (sym c.is_compare.ensures ∙ c.if-is_compare.true) (wrote_as c.put.ensures refl)
