-- `kind_of` names the kind of each operation.
-- Assumes nothing.
use mathlib.Core.Path.{refl}
use Rattle.emit_reasons.proofs.said.kind_of.Goals as goal

pub returns-in-Alu : goal.returns-in-Alu
returns-in-Alu c = rw c.in-Alu.is refl

pub returns-in-Mul : goal.returns-in-Mul
returns-in-Mul c = rw c.in-Mul.is refl

pub returns-in-MulLong : goal.returns-in-MulLong
returns-in-MulLong c = rw c.in-MulLong.is refl

pub returns-in-Swap : goal.returns-in-Swap
returns-in-Swap c = rw c.in-Swap.is refl

pub returns-in-Bx : goal.returns-in-Bx
returns-in-Bx c = rw c.in-Bx.is refl

pub returns-in-Branch : goal.returns-in-Branch
returns-in-Branch c = rw c.in-Branch.is refl

pub returns-in-ThumbBlHigh : goal.returns-in-ThumbBlHigh
returns-in-ThumbBlHigh c = rw c.in-ThumbBlHigh.is refl

pub returns-in-ThumbBlLow : goal.returns-in-ThumbBlLow
returns-in-ThumbBlLow c = rw c.in-ThumbBlLow.is refl

pub returns-in-Mem : goal.returns-in-Mem
returns-in-Mem c = rw c.in-Mem.is refl

pub returns-in-BlockMem : goal.returns-in-BlockMem
returns-in-BlockMem c = rw c.in-BlockMem.is refl

pub returns-in-Mrs : goal.returns-in-Mrs
returns-in-Mrs c = rw c.in-Mrs.is refl

pub returns-in-MsrReg : goal.returns-in-MsrReg
returns-in-MsrReg c = rw c.in-MsrReg.is refl

pub returns-in-MsrImm : goal.returns-in-MsrImm
returns-in-MsrImm c = rw c.in-MsrImm.is refl

pub returns-in-Swi : goal.returns-in-Swi
returns-in-Swi c = rw c.in-Swi.is refl

pub returns-in-Undefined : goal.returns-in-Undefined
returns-in-Undefined c = rw c.in-Undefined.is refl
