-- `within_limits` tells whether B and I are within their limits: too many blocks decide it alone,
-- otherwise the instructions do.
use lib.Dec.{leb}
use Prim.Native.Nat.{ℕ}
use mathlib.Core.Path.{ap, ◌∙◌}
use Rattle.file_records.proofs.Rules as rules
use native.Mathlib.Omega.{arith}
use Rattle.file_records.proofs.trailer.within_limits.Goals as goal

pub returns-then-trailer_word-gt65536 : goal.returns-then-trailer_word-gt65536
returns-then-trailer_word-gt65536 c = rules.many_blocks _ (omega arith)

pub returns : goal.returns
returns c =
    ap (λ (n : ℕ). leb n 1048576) c.trailer_word-2.ensures ∙ rules.few_blocks _ (omega arith)
