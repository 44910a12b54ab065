-- `armv4t::fuse_thumb_bl` meets its contract. The arms of both halves are given which operations
-- these are; each `_` answers for each of its variants. Assumes nothing.
use Rattle.std.proofs.Common.{◌≡◌, ℕ, None, refl}
use Rattle.armv4t.specs.declared.Op.{Op}
use Rattle.armv4t.specs.declared.Op.TheVariants.{ThumbBlHigh, ThumbBlLow}
use Rattle.armv4t.specs.Fused.{fuse, fuse_ops, fuse_low}
use Rattle.armv4t.proofs.fuse_thumb_bl.Goals as goal

-- whatever is no first half makes nothing
no_high : (high low : Op) (addr : ℕ) → ((x : ℕ) → high ≡ ThumbBlHigh x → ⊥)
    → None ≡ fuse_ops high low addr
no_high (ThumbBlHigh x) low addr n = absurd (n x refl)
no_high _ low addr n = refl

-- whatever is no second half makes nothing
no_low : (lr : ℕ) (low : Op) (addr : ℕ) → ((x : ℕ) → low ≡ ThumbBlLow x → ⊥)
    → None ≡ fuse_low lr low addr
no_low lr (ThumbBlLow x) addr n = absurd (n x refl)
no_low lr _ addr n = refl

pub returns-in_default : goal.returns-in_default
unfolding fuse
returns-in_default c =
    no_high c.args.high.op c.args.low.op c.args.low.addr c.in_default.not-ThumbBlHigh

pub returns-in_default-op : goal.returns-in_default-op
unfolding fuse
returns-in_default-op c =
    rw c.in-ThumbBlHigh.is
    (no_low c.in-ThumbBlHigh.lr_partial c.args.low.op c.args.low.addr
    c.in_default-op.not-ThumbBlLow)

pub returns : goal.returns
unfolding fuse
returns c =
    rw (
      c.in-ThumbBlHigh.is,
      c.in-ThumbBlLow.is,
      c.wrapping_add_u32-target.ensures.value,
      c.set_bit0-ret.ensures,
      c.wrapping_add_u32.ensures.value,
    ) refl
