use mathlib.Core.Path.{◌≡◌, refl, sym, ap, ◌∙◌}
use Prim.Native.Nat.{ℕ, ◌+◌, ◌*◌, ◌%◌}
use native.Mathlib.Omega.{arith}
use mathlib.Core.List.{List}
use lib.ListN.{length, take}
use lib.Seq.{paste, take_all}
use borrow.Author.Rules.{rules}
use Rattle.file_instrs.specs.Limits.{limits_to}
use Rattle.file_instrs.proofs.Limits.{limits_next}
use Rattle.file_instrs.proofs.instr_record.all_limits.Goals as goal

pub loop-number-init : goal.loop-number-init
unfolding limits_to
loop-number-init c = (omega arith, search rules, refl)

pub loop-number-preserved : goal.loop-number-preserved
loop-number-preserved c =
    let at = c.loop-number in
    let limits = c.limits-fields in
    let first = c.put in (
      omega arith,
      search rules,
      ap (take (16 * (at.number + 1)))
          (c.put-in-loop-number.ensures
          ∙ ap (λ (l : List ℕ). paste l (16 * at.number + 4) limits.result
          (length limits.result)) first.ensures)
          ∙ limits_next at.all limits.result at.number (search rules) at.invariant.1
          (omega arith) at.invariant.2
          (limits.ensures (at.number % 10) c.from.ensures),
    )

pub returns : goal.returns
returns c =
    let at = c.loop-number in
    let end : at.number ≡ 30 = omega arith in
    sym (take_all (16 * at.number) at.all (omega (arith, at.invariant.1))) ∙ at.invariant.2
    ∙ ap limits_to end
