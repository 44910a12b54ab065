-- `put_stores` writes the stores of the registers listed. The loop's invariant: those below r are
-- written. Assumes nothing.
use Rattle.emit_mem.specs.BlockMem.{stored_of}
use Rattle.std.proofs.Common.{◌-◌, ◌≤◌}
use Rattle.lower_forms.specs.InlineBody.{listed, stores}
use Rattle.lower_units.specs.Lines.{lines_text}
use Rattle.base_text.specs.Wrote.{Wrote}
use Rattle.emit_mem.proofs.transfers.put_stores.Given as goal

abbrev pub invariant-loop-r : goal.invariant-loop-r
invariant-loop-r l =
    Wrote l.initial.out l.at (lines_text 8 (stores (stored_of l.s) (listed l.rlist l.r))) l.out l.p
