-- Steps: what a writer is after a flush.
use denote.Ref.{at_last}
use Rattle.base_text.specs.Doc.{print}
use Rattle.base_text.specs.Wrote.{overlay, index_after}
use Rattle.emit_writer.specs.Ticks.{ticks}
use Rattle.emit_writer.specs.declared.writer.Writer.{Writer}

-- the writer after a flush: the same borrow with the ticks laid over its bytes at the place
-- reached, the place after them as `Wrote` has it, and no cycles pending. `at_last x l` is the
-- reference x at the list l
abbrev pub flushed : Writer → Writer
flushed w =
    record {
      text = at_last w.text (overlay w.text.now w.at (print (ticks w.cycles)));
      at = index_after w.at (ticks w.cycles);
      cycles = 0;
    }
