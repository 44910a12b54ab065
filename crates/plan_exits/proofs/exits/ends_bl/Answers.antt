-- `plan_exits::exits::ends_bl` meets its contract: `_` answers for each operation but ThumbBlLow.
-- Assumes nothing.
use Rattle.std.proofs.Common.{◌≡◌, ℕ, refl, None}
use Rattle.armv4t.specs.declared.Op.{Op}
use Rattle.armv4t.specs.declared.Op.TheVariants.{ThumbBlHigh, ThumbBlLow}
use Rattle.armv4t.specs.Fused.{fuse, fuse_low, fuse_ops}
use Rattle.plan_exits.proofs.exits.ends_bl.Goals as goal

unpaired_low : (lr addr : ℕ) (op : Op) → ((x : ℕ) → op ≡ ThumbBlLow x → ⊥)
    → fuse_low lr op addr ≡ None
unpaired_low lr addr (ThumbBlLow x) n = absurd (n x refl)
unpaired_low lr addr _ n = refl

unpaired : (high low : Op) (addr : ℕ) → ((x : ℕ) → low ≡ ThumbBlLow x → ⊥)
    → fuse_ops high low addr ≡ None
unpaired (ThumbBlHigh lr) low addr n = unpaired_low lr addr low n
unpaired _ low addr n = refl

pub returns-in_default : goal.returns-in_default
unfolding fuse
returns-in_default c e before =
    unpaired before.op c.args.instr.op c.args.instr.addr c.in_default.not-ThumbBlLow
