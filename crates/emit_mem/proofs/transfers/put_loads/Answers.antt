use Rattle.std.proofs.Common.{◌≡◌, sym, arith, rules}
use Rattle.emit_mem.proofs.Lines.{loads_more}
use Rattle.lower_forms.specs.InlineBody.{listed}
use Rattle.base_text.proofs.Laws.{none, seq, wrote_as}
use Rattle.emit_mem.proofs.transfers.put_loads.Goals as goal

pub loop-r-init : goal.loop-r-init
unfolding listed
loop-r-init c = none (search rules) (search rules)

pub loop-r-preserved : goal.loop-r-preserved
loop-r-preserved c =
    wrote_as (seq c.loop-r.invariant c.put_listed_load-p.ensures) (loads_more _ _ _)

pub returns : goal.returns
returns c = let e : c.loop-r.r ≡ c.args.limit = omega arith in
    rw (sym e) c.loop-r.invariant
