-- `rises` is one pass. The loop's invariant: keys rise if they do from the last one on.
-- Assumes nothing.
use Prim.Native.Nat.{◌-◌}
use mathlib.Core.Path.{◌≡◌}
use lib.ListN.{drop}
use Rattle.file_keys.specs.Order.{block_keys}
use Rattle.file_keys.specs.First.{rising, rises_from}
use Rattle.file_keys.proofs.keys.rises.Given as goal

abbrev pub invariant-loop-i : goal.invariant-loop-i
invariant-loop-i l = rising (block_keys l.file) ≡ rises_from l.last
    (drop l.i (block_keys l.file))
