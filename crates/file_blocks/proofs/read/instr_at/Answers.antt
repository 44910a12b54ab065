-- `instr_at` reads a record where it stands, if it does.
use Rattle.std.proofs.Common.{ℕ, Some, sym, ap, ◌∙◌, option_map}
use Rattle.file_instrs.specs.Decode.{timed_at}
use Rattle.file_blocks.proofs.Reading.{instr_read}
use Rattle.file_blocks.proofs.read.instr_at.Goals as goal

pub returns-in_err-at : goal.returns-in_err-at
returns-in_err-at c =
    c.from_residual.ensures
    ∙ ap (option_map (λ (at : ℕ). timed_at c.args.file.now at c.args.address c.args.is_thumb))
    (sym c.in_err-at.was ∙ c.record_offset.ensures.found)
    ∙ instr_read _ _ _ _

pub returns : goal.returns
returns c =
    ap Some c.timed_instr.ensures
    ∙ ap (option_map (λ (at : ℕ). timed_at c.args.file.now at c.args.address c.args.is_thumb))
    (sym c.in_ok-at.was ∙ c.record_offset.ensures.found)
    ∙ instr_read _ _ _ _
