use Rattle.std.proofs.Common.{◌≡◌, sym, arith, rules}
use Rattle.emit_mem.proofs.Lines.{stores_more}
use Rattle.lower_forms.specs.InlineBody.{listed}
use Rattle.base_text.proofs.Laws.{none, seq, wrote_as}
use Rattle.emit_mem.proofs.transfers.put_stores.Goals as goal

pub loop-r-init : goal.loop-r-init
unfolding listed
loop-r-init c = none (search rules) (search rules)

pub loop-r-preserved : goal.loop-r-preserved
loop-r-preserved c =
    wrote_as (seq c.loop-r.invariant c.put_listed_store-p.ensures) (stores_more _ _ _ _)

pub returns : goal.returns
returns c = let e : c.loop-r.r ≡ 16 = omega arith in rw (sym e) c.loop-r.invariant
