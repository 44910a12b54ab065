-- Steps: the kinds of instruction record, by number.
use Rattle.std.specs.Prelude.{ℕ, List, [], ◌∷◌, slice_index_or}
use Rattle.file_instrs.specs.declared.kind.Kind.{Kind}
use Rattle.file_instrs.specs.declared.kind.Kind.TheVariants.{Alu, Mul, MulLong, Swap, Bx, Branch}
use Rattle.file_instrs.specs.declared.kind.Kind.TheVariants.{ThumbBlHigh, ThumbBlLow, Mem, BlockMem}
use Rattle.file_instrs.specs.declared.kind.Kind.TheVariants.{Mrs, MsrReg, MsrImm, Swi, Undefined}

-- the kinds with the numbers 0 to 13
abbrev pub kinds : List Kind
kinds =
    Alu ∷ Mul ∷ MulLong ∷ Swap ∷ Bx ∷ Branch ∷ ThumbBlHigh ∷ ThumbBlLow ∷ Mem ∷ BlockMem ∷ Mrs
    ∷ MsrReg ∷ MsrImm ∷ Swi ∷ []

-- the kind with a number, from 14 on Undefined; the check refuses the numbers past 14
abbrev pub kind_of : ℕ → Kind
kind_of n = slice_index_or kinds n Undefined
