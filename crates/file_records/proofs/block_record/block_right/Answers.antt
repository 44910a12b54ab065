-- `block_right` tells whether a block record keeps its rules: each early return breaks one of them,
-- and where all before hold the code bytes decide.
use mathlib.Core.Path.{◌∙◌, sym}
use Rattle.file_records.proofs.Rules as rules
use native.Mathlib.Omega.{arith}
use Rattle.file_records.proofs.block_record.block_right.Goals as goal

pub returns-then-flags-ge4 : goal.returns-then-flags-ge4
returns-then-flags-ge4 c = rules.wrong_flags _ _ (omega arith)

pub returns-then-n-lt1 : goal.returns-then-n-lt1
returns-then-n-lt1 c = rules.no_count _ _ (omega arith)

pub returns-then-n-gt65535 : goal.returns-then-n-gt65535
returns-then-n-gt65535 c = rules.large_count _ _ (omega arith)

pub returns-then-not-aligned : goal.returns-then-not-aligned
returns-then-not-aligned c = rules.not_aligned _ _ (sym c.aligned.ensures ∙ c.if-not-aligned.true)

pub returns-then-addr-byte_length-gt4294967296 : goal.returns-then-addr-byte_length-gt4294967296
returns-then-addr-byte_length-gt4294967296 c = rules.end_past _ _ (omega arith)

pub returns : goal.returns
returns c =
    c.code_right.ensures
    ∙ rules.right_but_code _ _ (omega arith) (omega arith) (omega arith)
    (sym c.aligned.ensures
    ∙ c.if-not-aligned.false) (omega arith)
