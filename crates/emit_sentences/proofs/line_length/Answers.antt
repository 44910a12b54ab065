-- `line_length` writes the line where there is no room, and so counts it.
-- Assumes nothing.
use native.Mathlib.Omega.{arith}
use Rattle.emit_sentences.specs.Steps.{said_by}
use Rattle.emit_sentences.proofs.Short.{line_short}
use Rattle.emit_sentences.proofs.line_length.Goals as goal

pub returns : goal.returns
returns c =
    omega (
      arith,
      c.put_line.ensures.next,
      line_short (said_by c.args.said),
    )
