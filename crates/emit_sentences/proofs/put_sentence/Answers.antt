-- `put_sentence` writes a sentence.
-- Assumes nothing.
use mathlib.Core.Path.{refl}
use Rattle.base_text.proofs.Laws.{seq, wrote_as}
use Rattle.emit_sentences.proofs.put_sentence.Goals as goal

pub returns : goal.returns
returns c =
    wrote_as (seq c.put_hex8-p.ensures (seq c.put_kind-q.ensures
    c.put_reason.ensures)) refl
