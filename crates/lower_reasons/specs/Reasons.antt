-- To be believed: the reasons for a shell (document 02, request 4). Each is a test of its own on an
-- operation under a condition, in a block of a region; the first that holds counts.
use Rattle.std.specs.Prelude.{ℕ, Bool, true, false, not, ◌&&◌, ◌||◌, List, [], ◌∷◌, map, eqb}
use Rattle.std.proofs.Math.Option.{Option, none, some}
use Rattle.base_lists.specs.Lists.{among, first_of}
use Rattle.armv4t.specs.declared.Cond.{Cond}
use Rattle.armv4t.specs.declared.Op.{Op}
use Rattle.armv4t.specs.declared.Op.TheVariants.{Alu, Mul, MulLong, Swap, Bx, Branch, ThumbBlHigh}
use Rattle.armv4t.specs.declared.Op.TheVariants.{ThumbBlLow, Mem, BlockMem, Mrs, MsrReg, MsrImm}
use Rattle.armv4t.specs.declared.Op.TheVariants.{Swi, Undefined}
use Rattle.armv4t.specs.declared.ShiftKind.TheVariants.{Lsl, Lsr, Asr, Ror}
use Rattle.armv4t.specs.declared.Shift.{Shift}
use Rattle.armv4t.specs.declared.Operand2.{Operand2}
use Rattle.armv4t.specs.declared.MemOffset.{MemOffset}
use Rattle.armv4t.specs.declared.Instr.{Instr}
use Rattle.armv4t.specs.Cond.{is_al}
use Rattle.armv4t.specs.RegisterList.{is_listed}
use Rattle.lower_reasons.specs.declared.types.Kind.{Kind}
use Rattle.lower_reasons.specs.declared.types.Reason.{Reason}
use Rattle.lower_reasons.specs.declared.types.Reason.TheVariants.{UnpairedHalf}
use Rattle.lower_reasons.specs.declared.types.Reason.TheVariants.{ConditionalExit, BiosExit}
use Rattle.lower_reasons.specs.declared.types.Reason.TheVariants.{PcResult, RegisterShift}
use Rattle.lower_reasons.specs.declared.types.Reason.TheVariants.{ExtendOffset}
use Rattle.lower_reasons.specs.declared.types.Reason.TheVariants.{UserRegisters, EmptyList}
use Rattle.lower_reasons.specs.declared.types.Reason.TheVariants.{PcBase, PcLoaded}
use Rattle.lower_reasons.specs.declared.types.Reason.TheVariants.{NoNativeForm}

-- the fields of a BlockMem
pub record ListFields : Type 0 where
  pub load : Bool
  pub rn : ℕ
  pub rlist : ℕ
  pub pre : Bool
  pub up : Bool
  pub s_bit : Bool
  pub writeback : Bool

-- what the tests look at: the kind; the register that an Alu, a compare too, or a Mul has for its
-- result, or that a Mem loads or stores; what the second operand of an Alu and the offset of a Mem
-- are shifted by, where they are registers; the fields of a BlockMem
pub record Fields : Type 0 where
  pub kind : Kind
  pub rd : Option ℕ
  pub operand : Option Shift
  pub offset : Option Shift
  pub registers : Option ListFields

-- nothing but the kind counts
abbrev pub only : Kind → Fields
only k = record { kind = k; rd = none; operand = none; offset = none; registers = none }

-- a register counts as a result, and what an operand or an offset is shifted by
abbrev pub result : Kind → ℕ → Option Shift → Option Shift → Fields
result k rd operand offset =
    record { kind = k; rd = some rd; operand = operand; offset = offset; registers = none }

-- what the second operand of an Alu is shifted by, if it is a register
abbrev pub operand_shift : Operand2 → Option Shift
operand_shift (Operand2.Imm value rot) = none
operand_shift (Operand2.Reg rm shift) = some shift

-- what the offset of a Mem is shifted by, if it is a register
abbrev pub offset_shift : MemOffset → Option Shift
offset_shift (MemOffset.Imm value) = none
offset_shift (MemOffset.Reg rm shift) = some shift

-- what the tests look at of an operation. Of a MulLong no register counts, since emit.rs prints it
-- native whatever they are; of a Swap and of those from Mrs on none does either, since bytes 4 to
-- 15 of their records are free
abbrev pub fields_of : Op → Fields
fields_of (Alu op s rd rn op2) = result Kind.Alu rd (operand_shift op2) none
fields_of (Mul acc s rd rn rs rm) = result Kind.Mul rd none none
fields_of (MulLong signed acc s hi lo rs rm) = only Kind.MulLong
fields_of (Swap byte rd rm rn) = only Kind.Swap
fields_of (Bx rm) = only Kind.Bx
fields_of (Branch link target) = only Kind.Branch
fields_of (ThumbBlHigh lr) = only Kind.ThumbBlHigh
fields_of (ThumbBlLow off) = only Kind.ThumbBlLow
fields_of (Mem load width signed rd rn offset pre up writeback) =
    result Kind.Mem rd none (offset_shift offset)
fields_of (BlockMem load rn rlist pre up s_bit writeback) =
    record {
      kind = Kind.BlockMem;
      rd = none;
      operand = none;
      offset = none;
      registers =
          some (record {
            load = load;
            rn = rn;
            rlist = rlist;
            pre = pre;
            up = up;
            s_bit = s_bit;
            writeback = writeback;
          });
    }
fields_of (Mrs spsr rd) = only Kind.Mrs
fields_of (MsrReg spsr fields rm) = only Kind.MsrReg
fields_of (MsrImm spsr fields value) = only Kind.MsrImm
fields_of (Swi imm) = only Kind.Swi
fields_of (Undefined raw) = only Kind.Undefined

-- the kind of an operation
abbrev pub kind_of : Op → Kind
kind_of op = (fields_of op).kind

-- the number of a kind in an instruction record (document 01)
abbrev pub kind_number : Kind → ℕ
kind_number Kind.Alu = 0
kind_number Kind.Mul = 1
kind_number Kind.MulLong = 2
kind_number Kind.Swap = 3
kind_number Kind.Bx = 4
kind_number Kind.Branch = 5
kind_number Kind.ThumbBlHigh = 6
kind_number Kind.ThumbBlLow = 7
kind_number Kind.Mem = 8
kind_number Kind.BlockMem = 9
kind_number Kind.Mrs = 10
kind_number Kind.MsrReg = 11
kind_number Kind.MsrImm = 12
kind_number Kind.Swi = 13
kind_number Kind.Undefined = 14

-- whether a kind is one of some
abbrev pub is_one_of : List Kind → Kind → Bool
is_one_of ks k = among (kind_number k) (map kind_number ks)

-- the halves of a Thumb BL
abbrev pub halves : List Kind
halves = Kind.ThumbBlHigh ∷ Kind.ThumbBlLow ∷ []

-- the kinds that have no native form whatever their fields are
abbrev pub formless : List Kind
formless =
    Kind.Swap ∷ Kind.Mrs ∷ Kind.MsrReg ∷ Kind.MsrImm ∷ Kind.Swi ∷ Kind.Undefined ∷ []

-- whether there is something that passes a test
abbrev pub passes : {A : Type 0} → (A → Bool) → Option A → Bool
passes p none = false
passes p (some x) = p x

-- PC in a loaded list
abbrev pub loads_pc : ListFields → Bool
loads_pc t = t.load && is_listed t.rlist 15

-- the pop of PC that emit_block knows, with a base other than PC
abbrev pub pops_pc : ListFields → Bool
pops_pc t =
    t.load && not t.pre && t.up && not t.s_bit && t.writeback && is_listed t.rlist 15
    && not (eqb t.rn 15)

-- the exits that two of the reasons concern: Bx, and that pop
abbrev pub is_indirect_exit : Fields → Bool
is_indirect_exit o = is_one_of (Kind.Bx ∷ []) o.kind || passes pops_pc o.registers

-- whether it is such an exit, and native: under Al, outside region 0
abbrev pub is_native_exit : ℕ → Cond → Fields → Bool
is_native_exit region c o = is_indirect_exit o && (is_al c && not (eqb region 0))

-- whether a shift is given by a register
abbrev pub by_register : Shift → Bool
by_register (Shift.Imm kind amount) = false
by_register (Shift.Reg kind rs) = true

-- whether a shift is a rotate with extend: Ror by 0
abbrev pub by_extend : Shift → Bool
by_extend (Shift.Imm Lsl amount) = false
by_extend (Shift.Imm Lsr amount) = false
by_extend (Shift.Imm Asr amount) = false
by_extend (Shift.Imm Ror amount) = eqb amount 0
by_extend (Shift.Reg kind rs) = false

-- the reasons, in the order in which they count
abbrev pub reasons : List Reason
reasons =
    UnpairedHalf ∷ ConditionalExit ∷ BiosExit ∷ PcResult ∷ RegisterShift ∷ ExtendOffset
    ∷ UserRegisters ∷ EmptyList ∷ PcBase ∷ PcLoaded ∷ NoNativeForm ∷ []

-- whether a reason holds, in a block of a region and under a condition, of what is not fused. PC in
-- a loaded list does not hold of the pop that is native
abbrev pub test : ℕ → Cond → Fields → Reason → Bool
test region c o UnpairedHalf = is_one_of halves o.kind
test region c o ConditionalExit = is_indirect_exit o && not (is_al c)
test region c o BiosExit = is_indirect_exit o && eqb region 0
test region c o PcResult = passes (λ (rd : ℕ). eqb rd 15) o.rd
test region c o RegisterShift = passes by_register o.operand || passes by_register o.offset
test region c o ExtendOffset = passes by_extend o.offset
test region c o UserRegisters = passes (λ (t : ListFields). t.s_bit) o.registers
test region c o EmptyList = passes (λ (t : ListFields). eqb t.rlist 0) o.registers
test region c o PcBase = passes (λ (t : ListFields). eqb t.rn 15) o.registers
test region c o PcLoaded = passes loads_pc o.registers && not (is_native_exit region c o)
test region c o NoNativeForm = is_one_of formless o.kind

-- the same of an operation
abbrev pub holds : ℕ → Cond → Op → Reason → Bool
holds region c op = test region c (fields_of op)

-- why an operation under a condition, not fused, in a block of a region goes to a shell: the first
-- reason that holds; none where it is native
unfoldable pub reason_by : ℕ → Cond → Op → Option Reason
reason_by region c op = first_of (holds region c op) reasons

-- the same of an instruction
abbrev pub reason_of : ℕ → Instr → Option Reason
reason_of region i = reason_by region i.cond i.op
