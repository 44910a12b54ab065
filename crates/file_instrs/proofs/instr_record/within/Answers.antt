use mathlib.Core.Path.{refl, ap, ◌∙◌}
use mathlib.Core.Bool.{Bool, ◌&&◌}
use Prim.Native.Nat.{◌+◌}
use native.Mathlib.Omega.{arith}
use lib.ListN.{get_or, take, drop}
use lib.Dec.{leb}
use borrow.Author.Rules.{rules}
use Rattle.file_records.specs.Bytes.{byte_at}
use Rattle.file_instrs.specs.InstrRecord.{within as limits-within}
use Rattle.file_instrs.proofs.Limits.{limits_long, within_next, within_all}
use Rattle.file_instrs.proofs.instr_record.within.Goals as goal

pub loop-k-init : goal.loop-k-init
unfolding limits-within
loop-k-init c = (omega arith, search rules, search rules, refl)

pub loop-k-preserved : goal.loop-k-preserved
loop-k-preserved c =
    let args = c.args in
    let at = c.loop-k in
    let less =
    leb (byte_at args.file.now (args.at + at.k))
    (get_or args.limits.now (args.from + at.k) 0) in (
      omega arith,
      at.invariant.1,
      at.invariant.2,
      ap (λ (b : Bool). b && less) at.invariant.3
          ∙ within_next args.file.now args.limits.now args.at args.from at.k
          (omega arith) at.invariant.2,
    )

pub returns : goal.returns
returns c =
    let args = c.args in
    let at = c.loop-k in
    at.invariant.3
    ∙ within_all args.file.now (take 16 (drop args.from args.limits.now)) args.at
    at.k
    (omega (arith, limits_long args.limits.now args.from at.invariant.2))
