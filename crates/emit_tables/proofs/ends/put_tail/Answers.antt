-- `put_tail` writes what its calls write, one after another.
-- Assumes nothing.
use mathlib.Core.List.{[]}
use mathlib.Core.Path.{sym, ◌∙◌}
use Rattle.base_text.proofs.Laws.{seq, wrote_as}
use Rattle.file_keys.proofs.Reading.{length_keys}
use Rattle.emit_tables.proofs.Around.{end_keys}
use Rattle.emit_tables.proofs.ends.put_tail.Goals as goal

pub returns : goal.returns
returns c = λ bs keys.
    wrote_as
    (seq c.put_externs-p.ensures
    (seq c.put_table_head-q.ensures
    (seq c.put_rows-s.ensures (seq c.put_table_end-t.ensures c.put_count.ensures))))
    (end_keys bs _ _ [] keys (c.requires.0 ∙ sym (length_keys _)))
