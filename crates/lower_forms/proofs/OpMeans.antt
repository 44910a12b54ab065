-- Every operation that is lowered to plain statements means what the manual says, named differences
-- and what is left out aside.
use Rattle.armv4t.specs.declared.Op.{Op}
use Rattle.armv4t.specs.declared.Op.TheVariants.{Alu, Mul, MulLong, Swap, Bx, Branch, ThumbBlHigh}
use Rattle.armv4t.specs.declared.Op.TheVariants.{ThumbBlLow, Mem, BlockMem, Mrs, MsrReg, MsrImm}
use Rattle.armv4t.specs.declared.Op.TheVariants.{Swi, Undefined}
use Rattle.armv4t.specs.declared.Instr.{Instr}
use Rattle.armv4t.specs.InRange.{InRange}
use Rattle.lower_forms.specs.Means.{OpMeans}
use Rattle.lower_forms.proofs.Body.{not_none, alu_means, mul_means, mul_long_means}
use Rattle.lower_forms.proofs.Body.{mem_means}
use Rattle.lower_forms.proofs.BodyMultiple.{block_mem_means}

-- each operation; what is not lowered to lines is none of these
pub op_means : (i : Instr) (op : Op) → InRange op → OpMeans i op
op_means i (Alu op s rd rn op2) r = alu_means i op s rd rn op2 r
op_means i (Mul acc s rd rn rs rm) r = mul_means i acc s rd rn rs rm r
op_means i (MulLong signed acc s hi lo rs rm) r = mul_long_means i signed acc s hi lo rs rm r
op_means i (Swap b rd rm rn) r = λ ls q z m s a bad d next o. absurd (not_none q)
op_means i (Bx rm) r = λ ls q z m s a bad d next o. absurd (not_none q)
op_means i (Branch link target) r = λ ls q z m s a bad d next o. absurd (not_none q)
op_means i (ThumbBlHigh lr) r = λ ls q z m s a bad d next o. absurd (not_none q)
op_means i (ThumbBlLow off) r = λ ls q z m s a bad d next o. absurd (not_none q)
op_means i (Mem ld width signed rd rn offset pre up writeback) r =
    mem_means i ld width signed rd rn offset pre up writeback r
op_means i (BlockMem ld rn rlist pre up s_bit writeback) r =
    block_mem_means i ld rn rlist pre up s_bit writeback r
op_means i (Mrs spsr rd) r = λ ls q z m s a bad d next o. absurd (not_none q)
op_means i (MsrReg spsr fields rm) r = λ ls q z m s a bad d next o. absurd (not_none q)
op_means i (MsrImm spsr fields value) r = λ ls q z m s a bad d next o. absurd (not_none q)
op_means i (Swi imm) r = λ ls q z m s a bad d next o. absurd (not_none q)
op_means i (Undefined raw) r = λ ls q z m s a bad d next o. absurd (not_none q)
