use Rattle.std.proofs.Common.{◌≡◌, sym, refl, ◌∙◌, arith}
use Rattle.emit_mem.proofs.Listed.{bytes_more, bytes_same}
use Rattle.lower_forms.specs.InlineBody.{listed}
use Rattle.emit_mem.proofs.registers.bytes_listed.Goals as goal
use Rattle.emit_mem.proofs.registers.bytes_listed.Goals.{then-is_listed, else-is_listed}

pub loop-r-init : goal.loop-r-init
unfolding listed
loop-r-init c = (omega arith, refl)

pub returns : goal.returns
returns c =
    let e : c.loop-r.r ≡ c.args.limit = omega arith in
    rw (sym e) record { bytes = c.loop-r.invariant.1; small = c.loop-r.invariant.0 }

pub loop-r-preserved : goal.loop-r-preserved
loop-r-preserved c =
    let inv = c.loop-r.invariant in
    elim c.if-is_listed.branch [
      | then-is_listed w ↦ (
        omega (arith, w.n-is),
        w.n-is ∙ bytes_more _ _ _ (sym c.is_listed.ensures ∙ w.if-is_listed.true) inv.1,
      )
      | else-is_listed w ↦ (
        omega (arith, w.n-is),
        w.n-is ∙ bytes_same _ _ _ (sym c.is_listed.ensures ∙ w.if-is_listed.false) inv.1,
      )
    ]
