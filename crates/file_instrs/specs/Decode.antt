-- To be believed: an instruction record as an instruction and its cost, by the fields of document
-- 01, kind by kind.
use Rattle.std.specs.Prelude.{ℕ, ◌+◌, ◌/◌, ◌%◌, ◌^◌, Bool, false, not, cond, List, [], ◌∷◌, get_or, eqb}
use Rattle.armv4t.specs.declared.Shift.{Shift}
use Rattle.armv4t.specs.declared.Operand2.{Operand2}
use Rattle.armv4t.specs.declared.MemWidth.{MemWidth}
use Rattle.armv4t.specs.declared.MemOffset.{MemOffset}
use Rattle.armv4t.specs.declared.Op.{Op}
use Rattle.armv4t.specs.Cond.{cond_of}
use Rattle.armv4t.specs.AluOp.{alu_op_of}
use Rattle.armv4t.specs.Shift.{shift_kind_of}
use Rattle.file_instrs.specs.declared.decode.TimedInstr.{TimedInstr}
use Rattle.file_records.specs.Bytes.{byte_at, half_at, word_at}

-- a flag byte
abbrev pub flag_at : List ℕ → ℕ → Bool
flag_at f at = not (eqb (byte_at f at) 0)

-- bit k of a byte
abbrev pub bit_at : List ℕ → ℕ → ℕ → Bool
bit_at f at k = eqb (byte_at f at / 2 ^ k % 2) 1

-- the shift of a register operand: by an amount in form 1, by a register in form 2
abbrev pub shift_at : List ℕ → ℕ → Shift
shift_at f at =
    cond (eqb (byte_at f (at + 8)) 1)
    (Shift.Imm (shift_kind_of (byte_at f (at + 10) % 4)) (byte_at f (at + 11)))
    (Shift.Reg (shift_kind_of (byte_at f (at + 10) % 4)) (byte_at f (at + 11)))

-- the second operand of an Alu record: a value in form 0
abbrev pub operand_at : List ℕ → ℕ → Operand2
operand_at f at =
    cond (eqb (byte_at f (at + 8)) 0) (Operand2.Imm (word_at f (at + 12)) (byte_at f (at + 9)))
    (Operand2.Reg (byte_at f (at + 9)) (shift_at f at))

-- the offset of a Mem record: a value in form 0
abbrev pub mem_offset_at : List ℕ → ℕ → MemOffset
mem_offset_at f at =
    cond (eqb (byte_at f (at + 8)) 0) (MemOffset.Imm (half_at f (at + 12)))
    (MemOffset.Reg (byte_at f (at + 9)) (shift_at f at))

-- the width that a number encodes; the check refuses numbers from 3 on
abbrev pub width_of : ℕ → MemWidth
width_of n = get_or (MemWidth.Byte ∷ MemWidth.Half ∷ MemWidth.Word ∷ []) n MemWidth.Word

-- an Alu record: operation, s, rd, rn, second operand
unfoldable pub alu_at : List ℕ → ℕ → Op
alu_at f at =
    Op.Alu (alu_op_of (byte_at f (at + 4) % 16)) (flag_at f (at + 5)) (byte_at f (at + 6))
    (byte_at f (at + 7)) (operand_at f at)

-- a Mul record: acc, s, rd, rn, rs, rm
unfoldable pub mul_at : List ℕ → ℕ → Op
mul_at f at =
    Op.Mul (flag_at f (at + 4)) (flag_at f (at + 5)) (byte_at f (at + 6)) (byte_at f (at + 7))
    (byte_at f (at + 8))
    (byte_at f (at + 9))

-- a MulLong record: signed, acc, s, rd_hi, rd_lo, rs, rm
unfoldable pub mul_long_at : List ℕ → ℕ → Op
mul_long_at f at =
    Op.MulLong (flag_at f (at + 4)) (flag_at f (at + 5)) (flag_at f (at + 6)) (byte_at f (at + 7))
    (byte_at f (at + 8))
    (byte_at f (at + 9)) (byte_at f (at + 10))

-- a Mem record: load, width, signed, rd, rn, offset, pre, up, writeback
unfoldable pub mem_at : List ℕ → ℕ → Op
mem_at f at =
    Op.Mem (bit_at f (at + 4) 0) (width_of (byte_at f (at + 5))) (bit_at f (at + 4) 1)
    (byte_at f (at + 6)) (byte_at f (at + 7))
    (mem_offset_at f at) (bit_at f (at + 4) 2) (bit_at f (at + 4) 3) (bit_at f (at + 4) 4)

-- a BlockMem record: load, rn, rlist, pre, up, s_bit, writeback
unfoldable pub block_mem_at : List ℕ → ℕ → Op
block_mem_at f at =
    Op.BlockMem (bit_at f (at + 4) 0) (byte_at f (at + 6)) (half_at f (at + 12)) (bit_at f (at + 4) 1)
    (bit_at f (at + 4) 2)
    (bit_at f (at + 4) 3) (bit_at f (at + 4) 4)

-- the operation of a kind that leaves its bytes free, with the value 0 in every field
unfoldable pub free_op : ℕ → Op
free_op kind =
    cond (eqb kind 3) (Op.Swap false 0 0 0)
    (cond (eqb kind 10) (Op.Mrs false 0)
    (cond (eqb kind 11) (Op.MsrReg false 0 0)
    (cond (eqb kind 12) (Op.MsrImm false 0 0) (cond (eqb kind 13) (Op.Swi 0) (Op.Undefined 0)))))

-- the operations that the record at an offset would have, by kinds 0 to 9
abbrev pub ops_at : List ℕ → ℕ → List Op
ops_at f at =
    alu_at f at
    ∷ mul_at f at
    ∷ mul_long_at f at
    ∷ free_op 3
    ∷ Op.Bx (byte_at f (at + 4))
    ∷ Op.Branch (flag_at f (at + 4)) (word_at f (at + 12))
    ∷ Op.ThumbBlHigh (word_at f (at + 12))
    ∷ Op.ThumbBlLow (half_at f (at + 12))
    ∷ mem_at f at
    ∷ block_mem_at f at
    ∷ []

-- the operation of the record at an offset, by its kind
unfoldable pub op_at : List ℕ → ℕ → Op
op_at f at = get_or (ops_at f at) (byte_at f at) (free_op (byte_at f at))

-- the record at an offset, as the instruction at an address of a block
unfoldable pub timed_at : List ℕ → ℕ → ℕ → Bool → TimedInstr
timed_at f at addr thumb =
    record {
      instr =
          record {
            addr = addr;
            cond = cond_of (byte_at f (at + 1) % 16);
            op = op_at f at;
            thumb = thumb;
          };
      cost = half_at f (at + 2);
    }
