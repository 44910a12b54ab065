-- `emit_flow::exits::emit_pair` meets its contract: what its calls write, one after another.
-- Assumes nothing.
use mathlib.Core.Path.{ap, ◌∙◌}
use Prim.Native.Nat.{ℕ}
use Rattle.emit_flow.proofs.Pieces.{paired}
use Rattle.base_lists.specs.Lists.{among}
use Rattle.base_text.proofs.Laws.{seq, wrote_as}
use Rattle.emit_flow.proofs.exits.emit_pair.Goals as goal

pub returns : goal.returns
returns c =
    let v = c.args in
    λ ks o d h. wrote_as
    (seq c.flush_ticks-p.ensures
    (seq c.set_lr-q.ensures
    (seq c.set_pc-s.ensures
    (c.transfer.ensures ks o (ap (λ (n : ℕ). among n ks) c.set_bit0.ensures ∙ h)))))
    (paired ks v.src o v.cycles v.target v.ret d _ _ c.clear_bit0.ensures
    c.set_bit0.ensures)
