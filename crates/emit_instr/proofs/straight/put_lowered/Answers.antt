-- `straight::put_lowered` meets its contract: its call writes the text, by the condition. Assumes
-- nothing.
use Rattle.std.proofs.Common.{sym, ◌∙◌}
use Rattle.emit_instr.proofs.straight.put_lowered.Goals as goal

pub returns-then-is_al : goal.returns-then-is_al
returns-then-is_al c =
    λ body e. rw (sym c.is_al.ensures ∙ c.if-is_al.true)
    (c.put_straight.ensures body e)

pub returns-else-is_al : goal.returns-else-is_al
returns-else-is_al c =
    λ body e. rw (sym c.is_al.ensures ∙ c.if-is_al.false)
    (c.put_straight_if.ensures body e)
