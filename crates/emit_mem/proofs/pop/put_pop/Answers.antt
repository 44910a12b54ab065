-- `pop::put_pop` meets its contract: what its calls write, one after another.
-- Assumes nothing.
use Rattle.std.proofs.Common.{true, false}
use Rattle.emit_mem.proofs.PopText.{pop_text}
use Rattle.lower_forms.specs.InlineBody.{listed}
use Rattle.base_text.proofs.Laws.{seq, wrote_as}
use Rattle.emit_mem.proofs.pop.put_pop.Goals as goal

pub returns-then-thumb : goal.returns-then-thumb
returns-then-thumb c =
    let a = c.args in
    rw c.if-thumb.true
    (wrote_as (seq c.put_pop_loads-p.ensures
    (seq c.put_pop_base-q.ensures c.put.ensures))
    (pop_text true a.rn (listed a.rlist 15)))

pub returns-else-thumb : goal.returns-else-thumb
returns-else-thumb c =
    let a = c.args in
    rw c.if-thumb.false
    (wrote_as (seq c.put_pop_loads-p.ensures
    (seq c.put_pop_base-q.ensures c.put-else-thumb.ensures))
    (pop_text false a.rn (listed a.rlist 15)))
