-- To be believed: what the instructions act on: registers, flags and memory (A2.3, A2.5, A2.7). A
-- word is a number below 2^32.
use Rattle.std.specs.Prelude.{ℕ, ◌+◌, ◌*◌, ◌/◌, ◌%◌, ◌^◌, ◌<◌, ◌≡◌, refl, Bool, true, false, cond, eqb}
use Rattle.base_words.specs.Word.{bit, one_if}

-- 2^32
abbrev pub two32 : ℕ
two32 = 4294967296

-- registers 0 to 14, the flags, the other 28 bits of the status register (T is bit 5), and the
-- bytes of memory
pub record Machine : Type 0 where
  pub r : ℕ → ℕ
  pub n : Bool
  pub z : Bool
  pub c : Bool
  pub v : Bool
  pub other_bits : ℕ
  pub mem : ℕ → ℕ

-- the status register (A2.5): N, Z, C and V in bits 31 to 28
abbrev pub pack : Bool → Bool → Bool → Bool → ℕ → ℕ
pack n z c v other_bits = (one_if n * 8 + one_if z * 4 + one_if c * 2 + one_if v) * 2 ^ 28 + other_bits

-- the status register of a machine
abbrev pub cpsr : Machine → ℕ
cpsr m = pack m.n m.z m.c m.v m.other_bits

-- register i as an operand, where R15 reads as pc (A2.4.3)
abbrev pub R : Machine → ℕ → ℕ → ℕ
R m pc i = cond (eqb i 15) pc (m.r i)

-- f, with another value at k
abbrev pub update : ℕ → ℕ → (ℕ → ℕ) → ℕ → ℕ
update k x f i = cond (eqb i k) x (f i)

-- the machine with x in register rd
abbrev pub set_reg : ℕ → ℕ → Machine → Machine
set_reg rd x m =
    record {
      r = update rd x m.r;
      n = m.n;
      z = m.z;
      c = m.c;
      v = m.v;
      other_bits = m.other_bits;
      mem = m.mem;
    }

-- the machine with other registers
abbrev pub set_regs : (ℕ → ℕ) → Machine → Machine
set_regs f m =
    record { r = f; n = m.n; z = m.z; c = m.c; v = m.v; other_bits = m.other_bits; mem = m.mem }

-- the machine with other flags
abbrev pub set_flags : Bool → Bool → Bool → Bool → Machine → Machine
set_flags n z c v m =
    record { r = m.r; n = n; z = z; c = c; v = v; other_bits = m.other_bits; mem = m.mem }

-- the machine with other bytes of memory
abbrev pub set_mem : (ℕ → ℕ) → Machine → Machine
set_mem f m =
    record { r = m.r; n = m.n; z = m.z; c = m.c; v = m.v; other_bits = m.other_bits; mem = f }

-- T, bit 5 of the status register: set in Thumb state (A2.5)
abbrev pub thumb_state : Machine → Bool
thumb_state m = bit m.other_bits 5

-- the machine with another T
abbrev pub set_t : Bool → Machine → Machine
set_t t m =
    record {
      r = m.r;
      n = m.n;
      z = m.z;
      c = m.c;
      v = m.v;
      other_bits = m.other_bits / 64 * 64 + one_if t * 32 + m.other_bits % 32;
      mem = m.mem;
    }

-- what a machine holds is in range: words below 2^32, the status register's other bits below 2^28,
-- bytes below 256
pub record Sound (m : Machine) : Type 0 where
  pub words : (i : ℕ) → i < 15 → m.r i < two32
  pub other_bits : m.other_bits < 2 ^ 28
  pub bytes : (a : ℕ) → m.mem a < 256

-- N and C set, T set
a_status : pack true false true false 0x30 ≡ 0xa0000030
a_status = refl
