-- `op` reads the operation of a record by its kind, as the definition does by number.
use Rattle.std.proofs.Common.{sym, ◌∙◌}
use Rattle.file_instrs.proofs.ByKind.{op_told}
use Rattle.file_instrs.proofs.record.Record.op.Goals as goal

pub returns-in-Alu : goal.returns-in-Alu
returns-in-Alu c = c.alu.ensures ∙ op_told _ _ (sym c.in-Alu.is ∙ c.kind.ensures)

pub returns-in-Mul : goal.returns-in-Mul
returns-in-Mul c = c.mul.ensures ∙ op_told _ _ (sym c.in-Mul.is ∙ c.kind.ensures)

pub returns-in-MulLong : goal.returns-in-MulLong
returns-in-MulLong c = c.mul_long.ensures ∙ op_told _ _ (sym c.in-MulLong.is ∙ c.kind.ensures)

pub returns-in-Swap : goal.returns-in-Swap
returns-in-Swap c = op_told _ _ (sym c.in-Swap.is ∙ c.kind.ensures)

pub returns-in-Bx : goal.returns-in-Bx
returns-in-Bx c =
    cc (op_told c.args.self.file.now c.args.self.at (sym c.in-Bx.is ∙ c.kind.ensures))

pub returns-in-Branch : goal.returns-in-Branch
returns-in-Branch c =
    cc (op_told c.args.self.file.now c.args.self.at (sym c.in-Branch.is ∙ c.kind.ensures))

pub returns-in-ThumbBlHigh : goal.returns-in-ThumbBlHigh
returns-in-ThumbBlHigh c =
    cc (op_told c.args.self.file.now c.args.self.at (sym c.in-ThumbBlHigh.is ∙ c.kind.ensures))

pub returns-in-ThumbBlLow : goal.returns-in-ThumbBlLow
returns-in-ThumbBlLow c =
    cc (op_told c.args.self.file.now c.args.self.at (sym c.in-ThumbBlLow.is ∙ c.kind.ensures))

pub returns-in-Mem : goal.returns-in-Mem
returns-in-Mem c = c.mem.ensures ∙ op_told _ _ (sym c.in-Mem.is ∙ c.kind.ensures)

pub returns-in-BlockMem : goal.returns-in-BlockMem
returns-in-BlockMem c = c.block_mem.ensures ∙ op_told _ _ (sym c.in-BlockMem.is ∙ c.kind.ensures)

pub returns-in-Mrs : goal.returns-in-Mrs
returns-in-Mrs c = op_told _ _ (sym c.in-Mrs.is ∙ c.kind.ensures)

pub returns-in-MsrReg : goal.returns-in-MsrReg
returns-in-MsrReg c = op_told _ _ (sym c.in-MsrReg.is ∙ c.kind.ensures)

pub returns-in-MsrImm : goal.returns-in-MsrImm
returns-in-MsrImm c = op_told _ _ (sym c.in-MsrImm.is ∙ c.kind.ensures)

pub returns-in-Swi : goal.returns-in-Swi
returns-in-Swi c = op_told _ _ (sym c.in-Swi.is ∙ c.kind.ensures)

pub returns-in-Undefined : goal.returns-in-Undefined
returns-in-Undefined c = op_told _ _ (sym c.in-Undefined.is ∙ c.kind.ensures)
