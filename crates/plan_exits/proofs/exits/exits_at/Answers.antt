-- `plan_exits::exits::exits_at` meets its contract. Of a block of an accepted file each
-- instruction is found, so the answers with nothing are for other files. Assumes nothing.
use Rattle.std.proofs.Common.{◌∙◌, arith}
use Rattle.file_blocks.proofs.ReadInstrs.{not_missing}
use Rattle.file_blocks.proofs.IsBlock.{some_instr}
use Rattle.plan_exits.proofs.Closing.{exits_alone, exits_paired, exits_unpaired}
use Rattle.plan_exits.proofs.exits.exits_at.Goals as goal

pub returns-then-count-eq0 : goal.returns-then-count-eq0
returns-then-count-eq0 c i is = absurd (omega (arith, some_instr is))

pub returns-in_default : goal.returns-in_default
returns-in_default c i is =
    absurd
    (not_missing is _ _ (omega (arith, some_instr is)) c.instr_of.ensures
    c.in_default.is)

pub returns-then-count-eq1 : goal.returns-then-count-eq1
returns-then-count-eq1 c i is =
    c.last_exits.ensures
    ∙ exits_alone is _ _ c.if-count-eq1.true c.instr_of.ensures
    c.in-Some.is

pub returns-then-not-ends_bl : goal.returns-then-not-ends_bl
returns-then-not-ends_bl c i is =
    c.last_exits-then-not-ends_bl.ensures
    ∙ exits_unpaired is _ _ c.if-count-eq1.false
    (c.ends_bl.ensures (c.if-not-ends_bl.true))
    c.instr_of.ensures
    c.in-Some.is

pub returns-in_default-instr_of : goal.returns-in_default-instr_of
returns-in_default-instr_of c i is =
    absurd
    (not_missing is _ _ (omega (arith, some_instr is)) c.instr_of-2.ensures
    c.in_default-instr_of.is)

pub returns : goal.returns
returns c i is =
    c.closing_exits.ensures
    ∙ exits_paired is _ _ _ _ c.if-count-eq1.false
    c.instr_of-2.ensures
    c.in-Some-instr_of.is
    c.instr_of.ensures
    c.in-Some.is
