-- `put_load_back` leaves a base that is listed. Assumes nothing.
use mathlib.Core.Bool.{and-false}
use Rattle.std.proofs.Common.{rules}
use Rattle.base_text.proofs.Laws.{none}
use Rattle.emit_mem.proofs.block_mem.put_load_back.Goals as goal

pub returns-then-in_list : goal.returns-then-in_list
returns-then-in_list c =
    rw (c.if-in_list.true, and-false c.args.m.writeback) (none (search rules) (search rules))
