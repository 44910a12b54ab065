-- `first_repeated` is one pass. The loop's invariant: what the pass finds from place p on is what
-- it finds in all.
-- Assumes nothing.
use Prim.Native.Nat.{◌-◌, ◌≤◌}
use mathlib.Core.Path.{◌≡◌}
use lib.ListN.{drop}
use Rattle.file_keys.specs.Order.{block_keys}
use Rattle.file_keys.specs.Answers.{least_repeat}
use Rattle.file_keys.proofs.Finding as laws
use Rattle.file_keys.proofs.find.first_repeated.Given as goal

abbrev pub invariant-loop-p : goal.invariant-loop-p
invariant-loop-p l = (l.p ≤ l.n)
    × (least_repeat (block_keys l.file) l.best l.last (drop l.p l.order) ≡ laws.scanned (block_keys l.file) l.order)
