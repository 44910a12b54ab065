-- `answer` meets its contract: three stores and two puts are what the call leaves.
use mathlib.Core.List.{List}
use mathlib.Core.Path.{◌≡◌, ap, ◌∙◌}
use native.Mathlib.Omega.{arith}
use Prim.Native.Nat.{ℕ, ◌+◌}
use lib.ListN.{length, get_or}
use lib.Seq.{paste}
use Rattle.file_blocks.specs.Parse.{parse}
use Rattle.plan_groups.specs.Limit.{part_limit}
use Rattle.call_plan.specs.Calls.{plan_call}
use Rattle.case_plan.proofs.Gathered.{gathered, three_and_lent, with_lent}
use Rattle.case_plan.proofs.answer.Goals as goal

pub returns : goal.returns
returns c =
    let call = c.numbers in
    let args = c.args in
    let got = args.got.now in
    let work = call.new.work in
    let result = call.new.res in
    let long : length got ≡ 3 + (length work + length result) = omega arith in
    c.put-2.ensures
    ∙ ap (λ (l : List ℕ). paste l (3 + length work) result (length result)) c.put.ensures
    ∙ gathered (get_or call.result 0 0) (get_or call.result 1 0) (get_or call.result 2 0) got
    work result long
    ∙ ap three_and_lent call.ensures
    ∙ with_lent (plan_call part_limit (parse args.file.now) args.work.now args.res.now)
