-- Steps: what is said of an instruction, as the code has it, and its line.
use Rattle.std.specs.Prelude.{Option, None, Some}
use Rattle.std.proofs.Math.Option.{Option as Option·math, none, some}
use Rattle.base_text.specs.Doc.{Doc, nothing, text, ◌▸◌}
use Rattle.lower_reasons.specs.Said.{Said}
use Rattle.lower_reasons.specs.Sentence.{sentence}
use Rattle.emit_sentences.specs.declared.Sentence.{Sentence}

-- what a sentence of the code stands for
abbrev pub said_of : Sentence → Said
said_of s = record { addr = s.addr; kind = s.kind; reason = s.reason }

-- the same of one that may be missing
abbrev pub said_by : Option Sentence → Option·math Said
said_by None = none
said_by (Some s) = some (said_of s)

-- the line of what is said, or no text where nothing is
abbrev pub line_if : Option·math Said → Doc
line_if none = nothing
line_if (some s) = sentence s ▸ text "\n"
