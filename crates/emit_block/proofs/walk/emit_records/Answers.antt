use Rattle.std.proofs.Common.{◌≡◌, refl, arith, rules}
use Rattle.emit_block.proofs.Walking.{walked_none, walked_more, walked-done, walked-cycles}
use Rattle.emit_block.proofs.Walking.{walked_end}
use Rattle.emit_block.proofs.walk.emit_records.Goals as goal

pub loop-j-init : goal.loop-j-init
loop-j-init c =
    λ ks b here. walked_none here.body (search rules) (search rules)

pub emit_record-step-requires : goal.emit_record-step-requires
emit_record-step-requires c =
    (c.requires, c.loop-j-test.true)

pub returns-then-step : goal.returns-then-step
returns-then-step c =
    λ ks b here.
    let walked = c.loop-j.invariant ks b here in
    walked-done walked (c.emit_record-step.ensures ks b here walked.few) c.if-step.true

pub loop-j-preserved : goal.loop-j-preserved
loop-j-preserved c =
    λ ks b here.
    let walked = c.loop-j.invariant ks b here in
    walked_more walked (c.emit_record-step.ensures ks b here walked.few) c.if-step.false

pub emit_end-requires : goal.emit_end-requires
emit_end-requires c =
    c.requires

pub returns : goal.returns
returns c =
    let v = c.args in
    λ ks b here.
    let walked = c.loop-j.invariant ks b here in
    let all : c.loop-j.j ≡ v.m.block.count =
    omega (arith, c.loop-j-test.false) in
    walked_end walked all (c.emit_end.ensures ks b _ here (walked-cycles walked all))
