use Rattle.std.proofs.Common.{rules, ap, ◌∙◌}
use Rattle.call_frame.specs.Frame.{cleared}
use Rattle.case_lent.proofs.Lent.new.Goals as goal

pub returns-clause-work : goal.returns-clause-work
returns-clause-work g c = (
  c.from_fn-work.result,
  record {
    long = c.from_fn-work.ensures.items.long;
    each = λ i h. let k = c.from_fn-work.ensures.items.at i 0 h in search rules;
  },
  c.zero.ensures ∙ ap (λ n. cleared n c.from_fn-work.result) c.min.ensures,
)

pub returns-clause-text : goal.returns-clause-text
returns-clause-text g c =
    record {
      long = c.from_fn-text.ensures.items.long;
      each = λ i h. let k = c.from_fn-text.ensures.items.at i 0 h in search rules;
    }

pub returns-clause-lengths : goal.returns-clause-lengths
returns-clause-lengths g c =
    record {
      long = c.from_fn-lengths.ensures.items.long;
      each = λ i h. let k = c.from_fn-lengths.ensures.items.at i 0 h in search rules;
    }
