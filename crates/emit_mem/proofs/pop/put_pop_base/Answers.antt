-- `pop::put_pop_base` meets its contract: what its calls write, one after another.
-- Assumes nothing.
use Rattle.std.proofs.Common.{◌≡◌, ◌+◌, ◌*◌, length, refl, arith}
use Rattle.lower_forms.specs.InlineBody.{listed}
use Rattle.base_text.proofs.Laws.{seq, wrote_as}
use Rattle.emit_mem.proofs.pop.put_pop_base.Goals as goal

pub overflow_add-total : goal.overflow_add-total
overflow_add-total c = omega (arith, c.bytes_listed-total.ensures.small)

pub returns : goal.returns
returns c =
    let e : (length (listed c.args.rlist 15) + 1) * 4
    ≡ c.bytes_listed-total.result + 4 = omega (arith, c.bytes_listed-total.ensures.bytes) in
    rw (e) (wrote_as
    (seq c.put_then_dec-p.ensures
    (seq c.put_then_dec-q.ensures (seq c.put_then_dec-s.ensures c.put.ensures)))
    refl)
