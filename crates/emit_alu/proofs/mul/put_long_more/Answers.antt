-- `emit_alu::mul::put_long_more` meets its contract: what its calls write, one after another.
-- Assumes nothing.
use Rattle.emit_alu.proofs.Texts.{more_text}
use mathlib.Core.List.{[]}
use borrow.Author.Rules.{rules}
use Rattle.base_text.proofs.Laws.{none, seq, wrote_as}
use Rattle.emit_alu.proofs.mul.put_long_more.Goals as goal

pub returns-then-acc : goal.returns-then-acc
returns-then-acc c =
    let a = c.args in
    rw c.if-acc.true
    (wrote_as (seq c.put_then_dec-p.ensures
    (seq c.put_then_dec-q.ensures c.put.ensures)) (more_text a.hi a.lo []))

pub returns : goal.returns
returns c =
    rw c.if-acc.false (none (search rules) (search rules))
