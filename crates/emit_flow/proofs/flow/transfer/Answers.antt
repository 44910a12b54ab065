-- `emit_flow::flow::transfer` meets its contract: what its calls write, one after another. Assumes
-- nothing.
use mathlib.Core.Path.{sym, ap, ◌∙◌}
use Prim.Native.Nat.{ℕ}
use native.Mathlib.Omega.{arith}
use lib.Dec.{leb}
use borrow.Author.Tests.{not-true, not-false, le-leb, lt-leb}
use Rattle.emit_flow.proofs.Pieces.{returned, gated, ungated}
use Rattle.emit_flow.specs.Pieces.{indent}
use Rattle.base_text.proofs.Laws.{seq, wrote_as}
use Rattle.emit_flow.proofs.flow.transfer.Goals as goal

pub returns-then-not-e : goal.returns-then-not-e
returns-then-not-e c =
    λ ks o h. wrote_as c.put_return.ensures
    (returned ks _ o _ _ (h ∙ not-true _ c.if-not-e.true))

pub returns-then-to-e : goal.returns-then-to-e
returns-then-to-e c =
    let v = c.args in
    λ ks o h. wrote_as (seq c.put_gate-p.ensures c.put_goto.ensures)
    (gated ks v.e.src o (indent v.deep) v.e.key (h ∙ not-false _ c.if-not-e.false)
    (ap (λ (n : ℕ). leb n v.e.src) (sym c.clear_bit0-to.ensures)
    ∙ le-leb c.clear_bit0-to.result v.e.src (omega (arith, c.if-to-e.true))))

pub returns-else-to-e : goal.returns-else-to-e
returns-else-to-e c =
    let v = c.args in
    λ ks o h. wrote_as c.put_goto-else-to-e.ensures
    (ungated ks v.e.src o (indent v.deep) v.e.key (h ∙ not-false _ c.if-not-e.false)
    (ap (λ (n : ℕ). leb n v.e.src) (sym c.clear_bit0-to.ensures)
    ∙ lt-leb c.clear_bit0-to.result v.e.src (omega (arith, c.if-to-e.false))))
