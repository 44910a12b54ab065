-- Steps: the lines of a Mem by its fields, its offset with no case left out.
use Rattle.std.specs.Prelude.{ℕ, Bool, not, ◌||◌, List}
use Rattle.std.proofs.Math.Option.{Option}
use Rattle.armv4t.specs.declared.Instr.{Instr}
use Rattle.armv4t.specs.Instr.{pc_value}
use Rattle.armv4t.specs.declared.Operand2.{Operand2}
use Rattle.armv4t.specs.declared.MemOffset.{MemOffset}
use Rattle.c_tree.specs.Expr.{uhex, Expr, lit}
use Rattle.c_tree.specs.Stmt.{Plain}
use Rattle.lower_forms.specs.Forms.{Lines}
use Rattle.lower_forms.specs.Operands.{operand_of}
use Rattle.lower_forms.specs.InlineBody.{base_expr, offset_expr, access, mem_body, mem_lines}
use Rattle.emit_mem.specs.declared.mem.Transfer.{Transfer}

-- offset_expr of an instruction that reads pc as PC; where that is none (RRX, or a shift by a
-- register), what operand_of makes of the register and its shift
abbrev pub offset_of : ℕ → MemOffset → Expr
offset_of pc (MemOffset.Imm value) = lit uhex value
offset_of pc (MemOffset.Reg rm shift) = (operand_of pc (Operand2.Reg rm shift)).0

-- the access and the write-back, of a load or of a store; wb: the base is written back
abbrev pub access_of : Bool → Transfer → Bool → List Plain
access_of load m wb = access load m.width m.signed m.rd m.rn wb

-- the same by the fields alone
abbrev pub whole_access : Transfer → List Plain
whole_access m = access_of m.load m (not m.pre || m.writeback)

-- the lines before the access, and rest after them
abbrev pub transfer_lines : Bool → Instr → Transfer → List Plain → Lines
transfer_lines thumb i m rest =
    mem_lines (base_expr thumb i m.rn) m.up m.pre rest (offset_of (pc_value i) m.offset)

-- all lines, if it is inlined
abbrev pub transfer_body : Bool → Instr → Transfer → Option Lines
transfer_body thumb i m =
    mem_body (base_expr thumb i m.rn) m.up m.pre (whole_access m) (offset_expr i m.offset)
