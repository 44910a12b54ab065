-- `text::put_then_dec` meets its contract: what its calls write, one after another.
use mathlib.Core.Path.{refl}
use Rattle.base_text.proofs.Laws.{seq, wrote_as}
use Rattle.base_text.proofs.put_then_dec.Goals as goal

pub returns-then-n-lt20 : goal.returns-then-n-lt20
returns-then-n-lt20 c =
    wrote_as (seq c.put-p.ensures c.put_short.ensures) refl

pub returns : goal.returns
returns c =
    wrote_as (seq c.put-p.ensures c.put_long.ensures) refl
