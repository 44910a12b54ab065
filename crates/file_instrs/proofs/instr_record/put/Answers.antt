use mathlib.Core.Path.{◌≡◌, refl, ap, ◌∙◌}
use mathlib.Core.List.{List}
use Prim.Native.Nat.{ℕ, ◌+◌}
use native.Mathlib.Numerals.{add-one}
use native.Mathlib.Omega.{arith}
use lib.ListN.{length, set, get_or, length-set}
use lib.Seq.{paste, paste-zero, paste-suc}
use Rattle.file_instrs.proofs.instr_record.put.Goals as goal

pub loop-k-init : goal.loop-k-init
loop-k-init c = (
  omega arith,
  c.requires,
  refl,
  paste-zero c.args.all.now c.args.from
      c.args.part.now,
)

pub loop-k-preserved : goal.loop-k-preserved
loop-k-preserved c =
    let args = c.args in
    let at = c.loop-k in (
      omega arith,
      at.invariant.1,
      length-set at.all (args.from + at.k) _ ∙ at.invariant.2,
      rw add-one
          (ap (λ (l : List ℕ). set l (args.from + at.k) (get_or args.part.now at.k 0))
          at.invariant.3
          ∙ paste-suc args.all.now args.from args.part.now at.k 0 (omega arith)
          (omega arith)),
    )

pub returns : goal.returns
returns c =
    let args = c.args in
    let end : c.loop-k.k ≡ length args.part.now = omega arith in
    c.loop-k.invariant.3 ∙ ap (paste args.all.now args.from args.part.now) end
