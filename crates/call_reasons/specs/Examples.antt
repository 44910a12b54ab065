-- Examples: the calls on three blocks, of which the second has no sentence, and on none, computed.
use Rattle.std.specs.Prelude.{ℕ, ◌≡◌, refl, false, List, [], ◌∷◌, ◌++◌, replicate}
use Rattle.std.proofs.Math.Option.{none}
use Rattle.base_fitting.specs.Fitting.{fitting}
use Rattle.base_text.specs.Digits.{last_digits}
use Rattle.base_text.specs.Doc.{text, print, hexadecimal8}
use Rattle.armv4t.specs.declared.Cond.TheVariants.{Al}
use Rattle.armv4t.specs.declared.Op.{Op}
use Rattle.armv4t.specs.declared.Op.TheVariants.{Swi, Bx}
use Rattle.armv4t.specs.Fused.{fuse}
use Rattle.file_blocks.specs.Address.{outside_rom_bios}
use Rattle.file_blocks.specs.Parse.{Block, Parsed, instr_total}
use Rattle.lower_reasons.specs.Lines.{lines_of}
use Rattle.lower_reasons.specs.Reasons.{reason_by}
use Rattle.lower_reasons.specs.Said.{drops_rest_by, said_each, said_in, said_in_all}
use Rattle.call_frame.specs.Frame.{call_on_blocks, call_frame}
use Rattle.call_reasons.specs.Calls.{reason_call, reasons_call, reason_numbers, reasons_numbers}

-- a block in BIOS or ROM with one instruction
abbrev block : ℕ → Op → Block
block a op =
    record {
      addr = a;
      thumb = false;
      code = none;
      instrs =
          record { instr = record { addr = a; cond = Al; op = op; thumb = false }; cost = 0 } ∷ [];
    }

-- a Bx in BIOS, one in ROM, which is native, and a Swi in ROM
abbrev three : Parsed
three =
    Parsed.accepted
    (block 0 (Bx 0) ∷ block 0x0800_0000 (Bx 0) ∷ block 0x0800_0004 (Swi 0) ∷ [])

-- a text that is lent
abbrev lent : ℕ → List ℕ
lent n = replicate n 7

-- the sentence of the first in a text that is exactly full, and in one that is a byte short
one_full : reason_numbers (reason_call 0 three (lent 21))
    ≡ record {
      numbers = 0 ∷ 0 ∷ 21 ∷ [];
      work = [];
      results = print (text "00000000 Bx BIOS exit") ∷ [];
    }
unfolding call_frame call_on_blocks print hexadecimal8 last_digits instr_total said_in_all said_in said_each
    reason_by drops_rest_by outside_rom_bios fuse
one_full = refl

one_short : reason_numbers (reason_call 0 three (lent 20))
    ≡ record { numbers = 10 ∷ 0 ∷ 0 ∷ []; work = []; results = lent 20 ∷ [] }
unfolding call_frame call_on_blocks print hexadecimal8 last_digits instr_total said_in_all said_in said_each
    reason_by drops_rest_by outside_rom_bios fuse
one_short = refl

-- no sentence needs no text; there is no fourth instruction; a refused file
one_none : reason_numbers (reason_call 1 three [])
    ≡ record { numbers = 0 ∷ 0 ∷ 0 ∷ []; work = []; results = [] ∷ [] }
unfolding call_frame call_on_blocks print instr_total said_in_all said_in said_each reason_by drops_rest_by
    outside_rom_bios fuse
one_none = refl

one_missing : reason_numbers (reason_call 3 three [])
    ≡ record { numbers = 9 ∷ 0 ∷ 0 ∷ []; work = []; results = [] ∷ [] }
unfolding call_frame call_on_blocks instr_total
one_missing = refl

one_refused : reason_numbers (reason_call 0 (Parsed.refused 7 2) (lent 9))
    ≡ record { numbers = 7 ∷ 2 ∷ 0 ∷ []; work = []; results = lent 9 ∷ [] }
unfolding call_frame
one_refused = refl

-- all lines, and a byte after them
many_all : reasons_numbers (reasons_call 0 three (lent 51))
    ≡ record {
      numbers = 0 ∷ 0 ∷ 3 ∷ 50 ∷ [];
      work = [];
      results =
          (print (text "00000000 Bx BIOS exit\n08000004 Swi no native form\n") ++ (7 ∷ [])) ∷ [];
    }
unfolding call_frame call_on_blocks print hexadecimal8 last_digits instr_total said_in_all said_in said_each
    reason_by drops_rest_by outside_rom_bios fuse lines_of fitting
many_all = refl

-- a byte short for the last, whose number is the next; the bytes after the first are kept
many_short : reasons_numbers (reasons_call 0 three (lent 49))
    ≡ record {
      numbers = 0 ∷ 0 ∷ 2 ∷ 22 ∷ [];
      work = [];
      results = (print (text "00000000 Bx BIOS exit\n") ++ lent 27) ∷ [];
    }
unfolding call_frame call_on_blocks print hexadecimal8 last_digits instr_total said_in_all said_in said_each
    reason_by drops_rest_by outside_rom_bios fuse lines_of fitting
many_short = refl

-- room for the first sentence, but not for its newline
many_10 : reasons_numbers (reasons_call 0 three (lent 21))
    ≡ record { numbers = 10 ∷ 0 ∷ 0 ∷ 0 ∷ []; work = []; results = lent 21 ∷ [] }
unfolding call_frame call_on_blocks print hexadecimal8 last_digits instr_total said_in_all said_in said_each
    reason_by drops_rest_by outside_rom_bios fuse lines_of fitting
many_10 = refl

-- from the second instruction on; no line is left after the native one where it is the last
many_later : reasons_numbers (reasons_call 1 three (lent 28))
    ≡ record {
      numbers = 0 ∷ 0 ∷ 3 ∷ 28 ∷ [];
      work = [];
      results = print (text "08000004 Swi no native form\n") ∷ [];
    }
unfolding call_frame call_on_blocks print hexadecimal8 last_digits instr_total said_in_all said_in said_each
    reason_by drops_rest_by outside_rom_bios fuse lines_of fitting
many_later = refl

many_none : reasons_numbers (reasons_call 0 (Parsed.accepted (block 0x0800_0000 (Bx 0) ∷ [])) [])
    ≡ record { numbers = 0 ∷ 0 ∷ 1 ∷ 0 ∷ []; work = []; results = [] ∷ [] }
unfolding call_frame call_on_blocks print instr_total said_in_all said_in said_each reason_by drops_rest_by
    outside_rom_bios fuse lines_of fitting
many_none = refl

-- no blocks, no instruction
many_missing : reasons_numbers (reasons_call 0 (Parsed.accepted []) (lent 9))
    ≡ record { numbers = 9 ∷ 0 ∷ 0 ∷ 0 ∷ []; work = []; results = lent 9 ∷ [] }
unfolding call_frame call_on_blocks instr_total
many_missing = refl
