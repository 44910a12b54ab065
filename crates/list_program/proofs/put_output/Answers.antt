-- A file that is too long has one line; the answer to any other is put by `put_answer`.
-- Assumes nothing.
use Rattle.list_program.proofs.Room.{long_shown}
use Rattle.base_text.proofs.Laws.{wrote_as}
use mathlib.Core.Path.{refl}
use native.Mathlib.Omega.{arith}
use Rattle.list_program.proofs.put_output.Goals as goal

pub returns-then-file-gt-LONGEST : goal.returns-then-file-gt-LONGEST
returns-then-file-gt-LONGEST c =
    long_shown _ c.requires
    (omega arith) (wrote_as c.put.ensures refl)

pub returns : goal.returns
returns c = c.put_answer.ensures
