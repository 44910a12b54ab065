-- To be believed: the sentence of an instruction that went to a shell.
use Prim.Native.String.{String}
use Rattle.std.proofs.Math.Option.{Option, none, some}
use Rattle.base_text.specs.Doc.{Doc, nothing, text, hex8, ◌▸◌}
use Rattle.lower_reasons.specs.declared.types.Kind.{Kind}
use Rattle.lower_reasons.specs.declared.types.Reason.{Reason}
use Rattle.lower_reasons.specs.declared.types.Reason.TheVariants.{UnpairedHalf}
use Rattle.lower_reasons.specs.declared.types.Reason.TheVariants.{ConditionalExit, BiosExit}
use Rattle.lower_reasons.specs.declared.types.Reason.TheVariants.{PcResult, RegisterShift}
use Rattle.lower_reasons.specs.declared.types.Reason.TheVariants.{ExtendOffset}
use Rattle.lower_reasons.specs.declared.types.Reason.TheVariants.{UserRegisters, EmptyList}
use Rattle.lower_reasons.specs.declared.types.Reason.TheVariants.{PcBase, PcLoaded}
use Rattle.lower_reasons.specs.declared.types.Reason.TheVariants.{NoNativeForm}
use Rattle.lower_reasons.specs.Said.{Said}

-- the name of a kind as in Op
abbrev pub kind_name : Kind → String
kind_name Kind.Alu = "Alu"
kind_name Kind.Mul = "Mul"
kind_name Kind.MulLong = "MulLong"
kind_name Kind.Swap = "Swap"
kind_name Kind.Bx = "Bx"
kind_name Kind.Branch = "Branch"
kind_name Kind.ThumbBlHigh = "ThumbBlHigh"
kind_name Kind.ThumbBlLow = "ThumbBlLow"
kind_name Kind.Mem = "Mem"
kind_name Kind.BlockMem = "BlockMem"
kind_name Kind.Mrs = "Mrs"
kind_name Kind.MsrReg = "MsrReg"
kind_name Kind.MsrImm = "MsrImm"
kind_name Kind.Swi = "Swi"
kind_name Kind.Undefined = "Undefined"

-- the words of a reason
abbrev pub reason_words : Reason → String
reason_words UnpairedHalf = "unpaired half"
reason_words ConditionalExit = "conditional exit"
reason_words BiosExit = "BIOS exit"
reason_words PcResult = "PC as result or stored register"
reason_words RegisterShift = "register-given shift"
reason_words ExtendOffset = "rotate with extend in an offset"
reason_words UserRegisters = "user registers"
reason_words EmptyList = "empty list"
reason_words PcBase = "PC as base"
reason_words PcLoaded = "PC in a loaded list"
reason_words NoNativeForm = "no native form"

-- a sentence: address, kind and reason, with one space between
abbrev pub sentence : Said → Doc
sentence s =
    hex8 s.addr ▸ text " " ▸ text (kind_name s.kind) ▸ text " "
    ▸ text (reason_words s.reason)

-- the sentence of what is said, or no text where nothing is
abbrev pub sentence_text : Option Said → Doc
sentence_text none = nothing
sentence_text (some s) = sentence s
