-- A sentence is short, and so is a line.
-- Assumes nothing.
use Prim.Native.Nat.{◌≤◌}
use mathlib.Core.Option.{Option, none, some}
use native.Mathlib.Omega.{arith}
use lib.ListN.{length}
use Rattle.base_text.specs.Doc.{text, ◌▸◌, chars, print}
use Rattle.base_text.proofs.Lengths.{length_most}
use Rattle.lower_reasons.specs.declared.types.Kind.{Kind}
use Rattle.lower_reasons.specs.declared.types.Reason.{Reason}
use Rattle.lower_reasons.specs.Said.{Said}
use Rattle.lower_reasons.specs.Sentence.{kind_name, reason_words, sentence, sentence_text}
use Rattle.emit_sentences.specs.Steps.{line_if}

kind_short : (k : Kind) → length (chars (kind_name k)) ≤ 11
kind_short Kind.Alu = omega arith
kind_short Kind.Mul = omega arith
kind_short Kind.MulLong = omega arith
kind_short Kind.Swap = omega arith
kind_short Kind.Bx = omega arith
kind_short Kind.Branch = omega arith
kind_short Kind.ThumbBlHigh = omega arith
kind_short Kind.ThumbBlLow = omega arith
kind_short Kind.Mem = omega arith
kind_short Kind.BlockMem = omega arith
kind_short Kind.Mrs = omega arith
kind_short Kind.MsrReg = omega arith
kind_short Kind.MsrImm = omega arith
kind_short Kind.Swi = omega arith
kind_short Kind.Undefined = omega arith

reason_short : (r : Reason) → length (chars (reason_words r)) ≤ 31
reason_short Reason.UnpairedHalf = omega arith
reason_short Reason.ConditionalExit = omega arith
reason_short Reason.BiosExit = omega arith
reason_short Reason.PcResult = omega arith
reason_short Reason.RegisterShift = omega arith
reason_short Reason.ExtendOffset = omega arith
reason_short Reason.UserRegisters = omega arith
reason_short Reason.EmptyList = omega arith
reason_short Reason.PcBase = omega arith
reason_short Reason.PcLoaded = omega arith
reason_short Reason.NoNativeForm = omega arith

pub said_short : (o : Option Said) → length (print (sentence_text o)) ≤ 52
unfolding print
said_short none = omega arith
said_short (some s) =
    omega (arith, length_most (sentence s), kind_short s.kind, reason_short s.reason)

pub line_short : (o : Option Said) → length (print (line_if o)) ≤ 53
unfolding print
line_short none = omega arith
line_short (some s) =
    omega (
      arith,
      length_most (sentence s ▸ text "\n"),
      kind_short s.kind,
      reason_short s.reason,
    )
