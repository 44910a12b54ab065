-- `file_instrs::instr_record::limits_number` meets its contract: kind and form are the digits of
-- the number. Assumes nothing.
use borrow.Author.Rules.{rules}
use Rattle.file_instrs.proofs.Limits.{numbered}
use Rattle.file_instrs.proofs.instr_record.limits_number.Goals as goal

pub returns : goal.returns
returns c = record {
  small = search rules;
  same = numbered _ _ c.limits_kind.result c.limits_form.result
      c.limits_kind.ensures.small
      c.limits_kind.ensures.same c.limits_form.ensures.same;
}
