-- `put_kind` writes the name of a kind between spaces.
-- Assumes nothing.
use mathlib.Core.Path.{refl}
use Rattle.base_text.proofs.Laws.{wrote_as}
use Rattle.emit_sentences.proofs.put_kind.Goals as goal

pub returns-in-Alu : goal.returns-in-Alu
returns-in-Alu c = rw c.in-Alu.is (wrote_as
    c.put.ensures refl)

pub returns-in-Mul : goal.returns-in-Mul
returns-in-Mul c = rw c.in-Mul.is (wrote_as
    c.put-in-Mul.ensures refl)

pub returns-in-MulLong : goal.returns-in-MulLong
returns-in-MulLong c = rw c.in-MulLong.is (wrote_as
    c.put-in-MulLong.ensures refl)

pub returns-in-Swap : goal.returns-in-Swap
returns-in-Swap c = rw c.in-Swap.is (wrote_as
    c.put-in-Swap.ensures refl)

pub returns-in-Bx : goal.returns-in-Bx
returns-in-Bx c = rw c.in-Bx.is (wrote_as
    c.put-in-Bx.ensures refl)

pub returns-in-Branch : goal.returns-in-Branch
returns-in-Branch c = rw c.in-Branch.is (wrote_as
    c.put-in-Branch.ensures refl)

pub returns-in-ThumbBlHigh : goal.returns-in-ThumbBlHigh
returns-in-ThumbBlHigh c = rw c.in-ThumbBlHigh.is (wrote_as
    c.put-in-ThumbBlHigh.ensures refl)

pub returns-in-ThumbBlLow : goal.returns-in-ThumbBlLow
returns-in-ThumbBlLow c = rw c.in-ThumbBlLow.is (wrote_as
    c.put-in-ThumbBlLow.ensures refl)

pub returns-in-Mem : goal.returns-in-Mem
returns-in-Mem c = rw c.in-Mem.is (wrote_as
    c.put-in-Mem.ensures refl)

pub returns-in-BlockMem : goal.returns-in-BlockMem
returns-in-BlockMem c = rw c.in-BlockMem.is (wrote_as
    c.put-in-BlockMem.ensures refl)

pub returns-in-Mrs : goal.returns-in-Mrs
returns-in-Mrs c = rw c.in-Mrs.is (wrote_as
    c.put-in-Mrs.ensures refl)

pub returns-in-MsrReg : goal.returns-in-MsrReg
returns-in-MsrReg c = rw c.in-MsrReg.is (wrote_as
    c.put-in-MsrReg.ensures refl)

pub returns-in-MsrImm : goal.returns-in-MsrImm
returns-in-MsrImm c = rw c.in-MsrImm.is (wrote_as
    c.put-in-MsrImm.ensures refl)

pub returns-in-Swi : goal.returns-in-Swi
returns-in-Swi c = rw c.in-Swi.is (wrote_as
    c.put-in-Swi.ensures refl)

pub returns-in-Undefined : goal.returns-in-Undefined
returns-in-Undefined c = rw c.in-Undefined.is (wrote_as
    c.put-in-Undefined.ensures refl)
