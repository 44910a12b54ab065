-- To be believed: the public calls for the sentence of one instruction and for all sentences from
-- an instruction on. Each is lent a text, and no work numbers.
use Rattle.std.specs.Prelude.{ℕ, cond, List, [], ◌∷◌, ltb, length, get_or, drop}
use Rattle.std.proofs.Math.Option.{Option, none}
use Rattle.base_fitting.specs.Fitting.{fitting, or_first}
use Rattle.base_text.specs.Doc.{print, each}
use Rattle.file_blocks.specs.Parse.{Block, Parsed, instr_total}
use Rattle.lower_reasons.specs.Lines.{Line, line_text, line_length, lines_from}
use Rattle.lower_reasons.specs.Lines.{number_or}
use Rattle.lower_reasons.specs.Said.{Said, said_in_all}
use Rattle.lower_reasons.specs.Sentence.{sentence_text}
use Rattle.call_frame.specs.Frame.{Decision, Call, Outcome, refuses, makes, numbered}
use Rattle.call_frame.specs.Frame.{call_frame}
use Rattle.call_frame.specs.Numbers.{Handed, handed}
use Rattle.call_reasons.specs.declared.reasons.ReasonsValues.{ReasonsValues}

-- what is made of what is said of an instruction: its sentence, or no bytes
abbrev pub made_sentence : Option Said → Decision ℕ
made_sentence o = makes (length (print (sentence_text o))) (print (sentence_text o) ∷ [])

-- as many of some lines as fit the text or, where not even the first does, that one alone, for
-- which the text is then too short
abbrev pub fitting_lines : ℕ → List Line → List Line
fitting_lines room [] = []
fitting_lines room (l ∷ ls) = or_first l (fitting line_length room (length (l ∷ ls)) (l ∷ ls))

-- what is made of `made`, a front of the lines ls, in a file of n instructions
abbrev pub made_lines : ℕ → List Line → List Line → Decision ReasonsValues
made_lines n ls made =
    makes
    (record {
      next = number_or n (drop (length made) ls);
      length = length (print (each line_text made));
    })
    (print (each line_text made) ∷ [])

-- 9 where some blocks have no instruction k, else what is decided
abbrev pub if_there : {A : Type 0} → ℕ → List Block → Decision A → Decision A
if_there k bs decision = cond (ltb k (instr_total bs)) decision (refuses (numbered 9))

-- what the call for one sentence makes: that of instruction k, or no bytes where it has none; 9
-- where there is no such instruction
abbrev pub asks_reason : ℕ → Call ℕ
asks_reason k =
    record {
      early = none;
      per_block = 0;
      own = λ (bs : List Block) (rooms : List ℕ).
          if_there k bs (made_sentence (get_or (said_in_all bs) k none));
    }

-- what the call for sentences makes: of the lines from instruction k on as many as fit the text
-- (the first alone where not even that does, for which the text is then too short); 9 where there
-- is no such instruction
abbrev pub asks_reasons : ℕ → Call ReasonsValues
asks_reasons k =
    record {
      early = none;
      per_block = 0;
      own = λ (bs : List Block) (rooms : List ℕ).
          if_there k bs
          (made_lines (instr_total bs) (lines_from k bs)
          (fitting_lines (get_or rooms 0 0) (lines_from k bs)));
    }

-- the call for the sentence of instruction k of a file, by the text that is lent
abbrev pub reason_call : ℕ → Parsed → List ℕ → Outcome ℕ
reason_call k p text = call_frame (asks_reason k) p [] (text ∷ [])

-- the call for the sentences of a file from instruction k on
abbrev pub reasons_call : ℕ → Parsed → List ℕ → Outcome ReasonsValues
reasons_call k p text = call_frame (asks_reasons k) p [] (text ∷ [])

-- what the call for one sentence hands over: after the numbers of every answer the length
abbrev pub reason_numbers : Outcome ℕ → Handed
reason_numbers = handed 1 (λ (n : ℕ). n ∷ [])

-- what the call for sentences hands over: after the numbers of every answer the next instruction,
-- and the bytes of the lines
abbrev pub reasons_numbers : Outcome ReasonsValues → Handed
reasons_numbers = handed 2 (λ (v : ReasonsValues). v.next ∷ v.length ∷ [])
