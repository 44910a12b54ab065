-- Steps: the text of a tick.
use Rattle.std.specs.Prelude.{ℕ}
use Rattle.base_text.specs.Doc.{Doc}
use Rattle.lower_forms.specs.Block.{flush_ticks}
use Rattle.lower_units.specs.Lines.{lines_text}

-- the line for cycles pending; nothing for 0
abbrev pub ticks : ℕ → Doc
ticks cycles = lines_text 4 (flush_ticks cycles)
