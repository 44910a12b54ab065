-- A block has at most two exits.
-- Assumes nothing.
use Rattle.std.proofs.Common.{ℕ, ◌≤◌, Bool, true, false, cond, ◌&&◌, eqb, List, [], ◌∷◌, length, arith, Option, Some, None}
use Rattle.armv4t.specs.declared.Cond.{Cond}
use Rattle.armv4t.specs.declared.Cond.TheVariants.{Eq, Ne, Cs, Cc, Mi, Pl, Vs, Vc, Hi, Ls, Ge, Lt}
use Rattle.armv4t.specs.declared.Cond.TheVariants.{Gt, Le, Al, Nv}
use Rattle.armv4t.specs.declared.Op.{Op}
use Rattle.armv4t.specs.declared.Op.TheVariants.{Alu, Mul, MulLong, Swap, Bx, Branch, ThumbBlHigh}
use Rattle.armv4t.specs.declared.Op.TheVariants.{ThumbBlLow, Mem, BlockMem, Mrs, MsrReg, MsrImm}
use Rattle.armv4t.specs.declared.Op.TheVariants.{Swi, Undefined}
use Rattle.armv4t.specs.Fused.{Fused, fuse}
use Rattle.file_instrs.specs.declared.decode.TimedInstr.{TimedInstr}
use Rattle.file_blocks.specs.Parse.{Block}
use Rattle.armv4t.specs.RegisterList.{is_listed}
use Rattle.plan_exits.specs.Exits.{branch_exits, op_exits, closing_exits, instr_exits}
use Rattle.file_blocks.specs.Address.{key_of}
use Rattle.plan_exits.specs.Exits.{exits}

branch_few : (c : Cond) (target fall : ℕ) → length (branch_exits c target fall) ≤ 2
branch_few Eq target fall = omega arith
branch_few Ne target fall = omega arith
branch_few Cs target fall = omega arith
branch_few Cc target fall = omega arith
branch_few Mi target fall = omega arith
branch_few Pl target fall = omega arith
branch_few Vs target fall = omega arith
branch_few Vc target fall = omega arith
branch_few Hi target fall = omega arith
branch_few Ls target fall = omega arith
branch_few Ge target fall = omega arith
branch_few Lt target fall = omega arith
branch_few Gt target fall = omega arith
branch_few Le target fall = omega arith
branch_few Al target fall = omega arith
branch_few Nv target fall = omega arith

unless_few : (b : Bool) (fall : ℕ) → length (cond b [] (fall ∷ [])) ≤ 2
unless_few true fall = omega arith
unless_few false fall = omega arith

op_few : (op : Op) (c : Cond) (thumb : Bool) (fall : ℕ) → length (op_exits op c thumb fall) ≤ 2
op_few (Alu op s rd rn op2) c thumb fall = unless_few (eqb rd 15) fall
op_few (Mul acc s rd rn rs rm) c thumb fall = omega arith
op_few (MulLong signed acc s rd-hi rd-lo rs rm) c thumb fall = omega arith
op_few (Swap byte rd rm rn) c thumb fall = omega arith
op_few (Bx rm) c thumb fall = omega arith
op_few (Branch link target) c thumb fall = branch_few c (key_of target thumb) fall
op_few (ThumbBlHigh lr) c thumb fall = omega arith
op_few (ThumbBlLow off) c thumb fall = omega arith
op_few (Mem load width signed rd rn offset pre up writeback) c thumb fall =
    unless_few (load && eqb rd 15) fall
op_few (BlockMem load rn rlist pre up s_bit writeback) c thumb fall =
    unless_few (load && is_listed rlist 15) fall
op_few (Mrs spsr rd) c thumb fall = omega arith
op_few (MsrReg spsr fields rm) c thumb fall = omega arith
op_few (MsrImm spsr fields value) c thumb fall = omega arith
op_few (Swi imm) c thumb fall = omega arith
op_few (Undefined raw) c thumb fall = omega arith

closing_few : (fused : Fused) (alone : List ℕ) → length alone ≤ 2
    → length (closing_exits fused alone) ≤ 2
closing_few (Some (target, ret)) alone h = omega arith
closing_few None alone h = h

instr_few : (thumb : Bool) (is : List TimedInstr) → length (instr_exits thumb is) ≤ 2
unfolding instr_exits
instr_few thumb [] = omega arith
instr_few thumb (x ∷ []) = op_few x.instr.op _ thumb _
instr_few thumb (x ∷ y ∷ []) =
    closing_few (fuse x.instr y.instr) _ (op_few y.instr.op _ thumb _)
instr_few thumb (x ∷ y ∷ z ∷ rest) = instr_few thumb (y ∷ z ∷ rest)

-- a block has at most two exits
pub exits_few : (b : Block) → length (exits b) ≤ 2
unfolding exits
exits_few b = instr_few b.thumb b.instrs
