-- To be believed: the exit list of a block (document 01), by its last instruction, or by its last
-- two where they fuse.
use Rattle.std.specs.Prelude.{ℕ, Bool, cond, ◌&&◌, List, [], ◌∷◌, ◌==◌, Option, Some, None}
use Rattle.armv4t.specs.declared.Cond.{Cond}
use Rattle.armv4t.specs.declared.Op.{Op}
use Rattle.armv4t.specs.declared.Op.TheVariants.{Alu, Mul, MulLong, Swap, Bx, Branch, ThumbBlHigh}
use Rattle.armv4t.specs.declared.Op.TheVariants.{ThumbBlLow, Mem, BlockMem, Mrs, MsrReg, MsrImm}
use Rattle.armv4t.specs.declared.Op.TheVariants.{Swi, Undefined}
use Rattle.armv4t.specs.declared.Instr.{Instr}
use Rattle.armv4t.specs.Bit0.{set_bit0}
use Rattle.armv4t.specs.Cond.{is_al}
use Rattle.armv4t.specs.RegisterList.{is_listed}
use Rattle.armv4t.specs.Fused.{Fused, fuse}
use Rattle.file_instrs.specs.declared.decode.TimedInstr.{TimedInstr}
use Rattle.file_blocks.specs.Parse.{Block}
use Rattle.file_blocks.specs.Address.{key_of, fall_through}
use Rattle.plan_exits.specs.declared.exits.Exits.{Exits}

-- the exits of a branch to a key: a condition other than Al adds the fall-through
abbrev pub branch_exits : Cond → ℕ → ℕ → List ℕ
branch_exits c target fall = target ∷ cond (is_al c) [] (fall ∷ [])

-- the exits by a block's last operation, given its condition, the block's Thumb bit and the
-- fall-through: none for Bx, Swi, Undefined, ThumbBlLow, Alu with rd 15, a Mem load with rd 15 and
-- a BlockMem load with PC listed; those of a branch for Branch; the fall-through for the others
abbrev pub op_exits : Op → Cond → Bool → ℕ → List ℕ
op_exits (Alu op s rd rn op2) c thumb fall = cond (rd == 15) [] (fall ∷ [])
op_exits (Mul acc s rd rn rs rm) c thumb fall = fall ∷ []
op_exits (MulLong signed acc s rd-hi rd-lo rs rm) c thumb fall = fall ∷ []
op_exits (Swap byte rd rm rn) c thumb fall = fall ∷ []
op_exits (Bx rm) c thumb fall = []
op_exits (Branch link target) c thumb fall = branch_exits c (key_of target thumb) fall
op_exits (ThumbBlHigh lr) c thumb fall = fall ∷ []
op_exits (ThumbBlLow off) c thumb fall = []
op_exits (Mem load width signed rd rn offset pre up writeback) c thumb fall =
    cond (load && rd == 15) [] (fall ∷ [])
op_exits (BlockMem load rn rlist pre up s_bit writeback) c thumb fall =
    cond (load && is_listed rlist 15) [] (fall ∷ [])
op_exits (Mrs spsr rd) c thumb fall = fall ∷ []
op_exits (MsrReg spsr fields rm) c thumb fall = fall ∷ []
op_exits (MsrImm spsr fields value) c thumb fall = fall ∷ []
op_exits (Swi imm) c thumb fall = []
op_exits (Undefined raw) c thumb fall = []

-- the exits by a block's last instruction alone
abbrev pub last_exits : Bool → Instr → List ℕ
last_exits thumb i = op_exits i.op i.cond thumb (fall_through thumb i)

-- a closing fused pair goes to its target in Thumb; otherwise the last instruction decides
abbrev pub closing_exits : Fused → List ℕ → List ℕ
closing_exits (Some (target, ret)) alone = set_bit0 target ∷ []
closing_exits None alone = alone

-- the exits of consecutive instructions, by the last two
unfoldable pub instr_exits : Bool → List TimedInstr → List ℕ
instr_exits thumb [] = []
instr_exits thumb (x ∷ []) = last_exits thumb x.instr
instr_exits thumb (x ∷ y ∷ []) =
    closing_exits (fuse x.instr y.instr) (last_exits thumb y.instr)
instr_exits thumb (x ∷ y ∷ z ∷ rest) = instr_exits thumb (y ∷ z ∷ rest)

-- the exit list of a block (document 01): 0, 1 or 2 keys, the target before the fall-through
unfoldable pub exits : Block → List ℕ
exits b = instr_exits b.thumb b.instrs

-- the keys of an answer
abbrev pub keys_of : Exits → List ℕ
keys_of Exits.None = []
keys_of (Exits.One k) = k ∷ []
keys_of (Exits.Two k l) = k ∷ l ∷ []
