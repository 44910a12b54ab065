-- `text::put_then_hex8` meets its contract: what its calls write, one after another.
use mathlib.Core.Path.{refl}
use Rattle.base_text.proofs.Laws.{seq, wrote_as}
use Rattle.base_text.proofs.put_then_hex8.Goals as goal

pub returns : goal.returns
returns c =
    wrote_as (seq c.put-p.ensures c.put_hex8.ensures) refl
