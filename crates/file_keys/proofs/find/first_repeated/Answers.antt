use Prim.Native.Nat.{ℕ, ◌+◌}
use mathlib.Core.Option.{some}
use mathlib.Core.Path.{◌≡◌, sym, ap, ◌∙◌}
use native.Mathlib.Omega.{arith}
use lib.ListN.{length, get_or, drop}
use Rattle.file_keys.specs.Order.{block_keys}
use Rattle.file_keys.specs.Answers.{least_repeat}
use Rattle.file_keys.proofs.Reading.{length_keys}
use Rattle.file_keys.proofs.Ordered.{is_order}
use Rattle.file_keys.proofs.Finding as laws
use Rattle.file_keys.proofs.find.first_repeated.Goals as goal

-- there are at most 65,536 blocks
pub overflow_cast-best : goal.overflow_cast-best
overflow_cast-best c =
    let f = c.args.file.now in
    let long = (is_order (block_keys f) c.args.order.now c.requires.1).long in
    omega (arith, c.requires.0.few, long, length_keys f)

pub returns-then-n-eq0 : goal.returns-then-n-eq0
returns-then-n-eq0 c =
    let keys = block_keys c.args.file.now in
    laws.scan_none keys c.args.order.now (is_order keys _ c.requires.1)
    (laws.scan_end keys c.args.order.now (length keys) _ 1 (omega arith))

pub loop-p-init : goal.loop-p-init
loop-p-init c =
    let keys = block_keys c.args.file.now in
    let order = c.args.order.now in (
      omega arith,
      ap (λ (m : ℕ). least_repeat keys m (get_or order 0 0) (drop 1 order))
          (is_order keys order c.requires.1).long,
    )

pub loop-p-preserved : goal.loop-p-preserved
loop-p-preserved c =
    let keys = block_keys c.args.file.now in
    let order = c.args.order.now in (
      omega arith,
      ap (λ (m : ℕ). least_repeat keys m (get_or order c.loop-p.p 0) (drop (c.loop-p.p + 1) order))
          c.least-best.ensures
          ∙ sym (laws.scan_more keys order c.loop-p.best c.loop-p.last c.loop-p.p
          (omega arith))
          ∙ c.loop-p.invariant.1,
    )

pub overflow_cast-n : goal.overflow_cast-n
overflow_cast-n c =
    let f = c.args.file.now in
    let long = (is_order (block_keys f) c.args.order.now c.requires.1).long in
    omega (arith, c.requires.0.few, long, length_keys f)

pub returns-then-best-n : goal.returns-then-best-n
returns-then-best-n c =
    let keys = block_keys c.args.file.now in
    let order = c.args.order.now in
    let o = is_order keys order c.requires.1 in
    laws.scan_none keys order o (sym c.loop-p.invariant.1 ∙ laws.scan_end keys order c.loop-p.best
    c.loop-p.last c.loop-p.p (omega arith) ∙ c.if-best-n.true ∙ o.long)

pub returns-else-best-n : goal.returns-else-best-n
returns-else-best-n c =
    let keys = block_keys c.args.file.now in
    let order = c.args.order.now in
    let o = is_order keys order c.requires.1 in
    let is : c.loop-p.best ≡ laws.scanned keys order = sym (laws.scan_end keys order
    c.loop-p.best c.loop-p.last c.loop-p.p (omega arith)) ∙ c.loop-p.invariant.1 in
    ap some is ∙ laws.scan_some keys order o (λ e. c.if-best-n.false (is ∙ e ∙ sym o.long))
