-- To be believed: where the text of an operation is not what the manual says.
use Rattle.std.specs.Prelude.{◌%◌, Bool, false, not, ◌&&◌, eqb}
use Rattle.armv4t.specs.declared.Op.{Op}
use Rattle.armv4t.specs.declared.Op.TheVariants.{Alu, Mul, MulLong, Swap, Bx, Branch, ThumbBlHigh}
use Rattle.armv4t.specs.declared.Op.TheVariants.{ThumbBlLow, Mem, BlockMem, Mrs, MsrReg, MsrImm}
use Rattle.armv4t.specs.declared.Op.TheVariants.{Swi, Undefined}
use Rattle.armv4t.specs.declared.Instr.{Instr}
use Rattle.armv4t.specs.Instr.{pc_value}
use Rattle.armv4t_manual.specs.Execute.{adds_to_pc}

-- difference 1 of docs/DIFFERENCES.md, by the operation: ADD of PC and a value in Thumb, where PC
-- has bit 1 and the decoder has not taken it off the value
abbrev pub differs_in : Instr → Op → Bool
differs_in i (Alu op s rd rn op2) = adds_to_pc i.thumb op rn op2 && not (eqb (pc_value i % 4) 0)
differs_in i (Mul acc s rd rn rs rm) = false
differs_in i (MulLong signed acc s hi lo rs rm) = false
differs_in i (Swap b rd rm rn) = false
differs_in i (Bx rm) = false
differs_in i (Branch link target) = false
differs_in i (ThumbBlHigh lr) = false
differs_in i (ThumbBlLow off) = false
differs_in i (Mem ld width signed rd rn offset pre up writeback) = false
differs_in i (BlockMem ld rn rlist pre up s_bit writeback) = false
differs_in i (Mrs spsr rd) = false
differs_in i (MsrReg spsr fields rm) = false
differs_in i (MsrImm spsr fields value) = false
differs_in i (Swi imm) = false
differs_in i (Undefined raw) = false
