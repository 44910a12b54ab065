-- To be believed: when C's state agrees with the manual's machine.
use Rattle.std.specs.Prelude.{ℕ, ◌<◌, ◌≡◌}
use Rattle.c_meaning.specs.State.{State}
use Rattle.armv4t_manual.specs.Machine.{Machine, cpsr}

-- c[0] to c[14] are the registers, c[16] the status register, and the bytes of memory are the same
pub record Agrees (z : State) (m : Machine) : Type 0 where
  pub regs : (i : ℕ) → i < 15 → z.c i ≡ m.r i
  pub flags : z.c 16 ≡ cpsr m
  pub memory : z.mem ≡ m.mem
