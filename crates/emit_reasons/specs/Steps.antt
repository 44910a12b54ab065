-- Steps: what the code tells of an instruction, and of the lines that it writes.
use Rattle.std.specs.Prelude.{ℕ, zero, suc, ◌≤◌, ◌≡◌, Bool, true, not, cond, ◌&&◌, ◌||◌, List, [], ◌∷◌, ◌++◌, length}
use Rattle.std.specs.Prelude.{Option, None, Some}
use Rattle.std.proofs.Math.Option.{Option as Option·math, none, some}
use Rattle.base_fitting.specs.Fitting.{fitting}
use Rattle.base_fitting.specs.Steps.{FitSoFar}
use Rattle.base_text.specs.Doc.{print, each}
use Rattle.base_text.specs.Wrote.{Wrote}
use Rattle.file_instrs.specs.declared.decode.TimedInstr.{TimedInstr}
use Rattle.file_blocks.specs.declared.read.BlockRecord.{BlockRecord}
use Rattle.file_blocks.specs.Address.{region, outside_rom_bios}
use Rattle.file_blocks.specs.Read.{IsBlock, instrs_of}
use Rattle.lower_reasons.specs.declared.types.Reason.{Reason}
use Rattle.lower_reasons.specs.Lines.{Line, line_text, line_length, number_or}
use Rattle.lower_reasons.specs.Said.{Said, pairs, drops_rest, said_of, nothing_of, said_each}
use Rattle.emit_reasons.specs.declared.lines.Progress.{Progress}

-- the reason, if there is one
abbrev pub why_of : Option Reason → Option·math Reason
why_of (Some r) = some r
why_of None = none

-- a record is that of a block of an accepted file, whose first instruction has this number
abbrev pub HasBlock : List ℕ → BlockRecord → ℕ → Type 0
HasBlock f b first = (i : ℕ) × IsBlock f i b first

-- whether a walk over instructions comes to the one with an index
unfoldable pub reached : ℕ → List TimedInstr → ℕ → Bool
reached area xs zero = true
reached area [] (suc n) = true
reached area (x ∷ xs) (suc n) =
    not (pairs x.instr xs || drops_rest area x.instr) && reached area xs n

-- what is said of the first of some instructions, to which a walk has come
unfoldable pub said_first : ℕ → List TimedInstr → Option·math Said
said_first area [] = none
said_first area (x ∷ xs) = cond (pairs x.instr xs) none (said_of area x.instr)

-- what is said of the instructions of a block, by its record
unfoldable pub said_in_record : List ℕ → BlockRecord → ℕ → List (Option·math Said)
said_in_record f r first =
    cond (not (outside_rom_bios r.addr) || r.present)
    (said_each (region r.addr) (instrs_of f r first))
    (nothing_of (instrs_of f r first))

-- of all lines those made are written in the front of a text, and which follow is decided over the
-- rest
pub record Putting (text₀ : List ℕ) (all rest : List Line) (text' : List ℕ) (at : ℕ) : Type 0 where
  pub made : List Line
  pub parts : all ≡ made ++ rest
  pub so : FitSoFar line_length (length text₀) (length all) all made rest
  pub wrote : Wrote text₀ 0 (each line_text made) text' at
  pub bytes : at ≡ length (print (each line_text made))
  pub within : at ≤ length text₀

-- of all lines those that fit are written in the front of a text; total: the number after the last
-- instruction
pub record Put (text₀ : List ℕ) (all : List Line) (total : ℕ) (text' : List ℕ) (r : Progress)
    : Type 0 where
  pub made : List Line
  pub rest : List Line
  pub parts : all ≡ made ++ rest
  pub fits : fitting line_length (length text₀) (length all) all ≡ made
  pub wrote : Wrote text₀ 0 (each line_text made) text' r.length
  pub bytes : r.length ≡ length (print (each line_text made))
  pub within : r.length ≤ length text₀
  pub next : r.next ≡ number_or total rest

-- the lines of some instructions are written, after which instruction `end` comes: what follows is
-- decided over those after, or the next does not fit
pub record Progressed (text₀ : List ℕ) (all after : List Line) (end : ℕ) (text' : List ℕ)
    (r : Progress) : Type 0 where
  pub on : r.next ≡ end → Putting text₀ all after text' r.length
  pub over : (r.next ≡ end → ⊥) → (total : ℕ) → Put text₀ all total text' r
