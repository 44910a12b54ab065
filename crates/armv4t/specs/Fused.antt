-- To be believed: what the two halves of a Thumb BL make together: where it goes, and the return
-- address with the Thumb bit; or nothing, where they are no such pair.
use Rattle.std.specs.Prelude.{◌≡◌, ℕ, ◌+◌, ◌*◌, ◌%◌, ◌^◌, Option, Some, None, refl}
use Rattle.armv4t.specs.declared.Instr.{Instr}
use Rattle.armv4t.specs.declared.Op.{Op}
use Rattle.armv4t.specs.declared.Op.TheVariants.{Alu, Mul, MulLong, Swap, Bx, Branch}
use Rattle.armv4t.specs.declared.Op.TheVariants.{ThumbBlHigh, ThumbBlLow, Mem, BlockMem, Mrs}
use Rattle.armv4t.specs.declared.Op.TheVariants.{MsrReg, MsrImm, Swi, Undefined}
use Rattle.armv4t.specs.Bit0.{set_bit0}

-- where a pair goes and its return address, or that there is no pair
abbrev pub Fused : Type 0
Fused = Option (ℕ × ℕ)

-- what a first half with the partial address lr makes with an operation at addr
abbrev pub fuse_low : ℕ → Op → ℕ → Fused
fuse_low lr (Alu _ _ _ _ _) addr = None
fuse_low lr (Mul _ _ _ _ _ _) addr = None
fuse_low lr (MulLong _ _ _ _ _ _ _) addr = None
fuse_low lr (Swap _ _ _ _) addr = None
fuse_low lr (Bx _) addr = None
fuse_low lr (Branch _ _) addr = None
fuse_low lr (ThumbBlHigh _) addr = None
fuse_low lr (ThumbBlLow off) addr =
    Some ((lr + off * 2) % 2 ^ 32, set_bit0 ((addr + 2) % 2 ^ 32))
fuse_low lr (Mem _ _ _ _ _ _ _ _ _) addr = None
fuse_low lr (BlockMem _ _ _ _ _ _ _) addr = None
fuse_low lr (Mrs _ _) addr = None
fuse_low lr (MsrReg _ _ _) addr = None
fuse_low lr (MsrImm _ _ _) addr = None
fuse_low lr (Swi _) addr = None
fuse_low lr (Undefined _) addr = None

-- what two operations make, the second at addr
abbrev pub fuse_ops : Op → Op → ℕ → Fused
fuse_ops (Alu _ _ _ _ _) low addr = None
fuse_ops (Mul _ _ _ _ _ _) low addr = None
fuse_ops (MulLong _ _ _ _ _ _ _) low addr = None
fuse_ops (Swap _ _ _ _) low addr = None
fuse_ops (Bx _) low addr = None
fuse_ops (Branch _ _) low addr = None
fuse_ops (ThumbBlHigh lr) low addr = fuse_low lr low addr
fuse_ops (ThumbBlLow _) low addr = None
fuse_ops (Mem _ _ _ _ _ _ _ _ _) low addr = None
fuse_ops (BlockMem _ _ _ _ _ _ _) low addr = None
fuse_ops (Mrs _ _) low addr = None
fuse_ops (MsrReg _ _ _) low addr = None
fuse_ops (MsrImm _ _ _) low addr = None
fuse_ops (Swi _) low addr = None
fuse_ops (Undefined _) low addr = None

-- what two instructions make
unfoldable pub fuse : Instr → Instr → Fused
fuse high low = fuse_ops high.op low.op low.addr

-- the target is twice the offset from the partial address; the return address is the one after the
-- second half, with bit 0 set
a_pair : fuse_ops (ThumbBlHigh 0x0800_0104) (ThumbBlLow 3) 0x0800_0102
    ≡ Some (0x0800_010a, 0x0800_0105)
a_pair = refl
