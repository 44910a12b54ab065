-- To be believed: the size of an instruction, and what it reads as the program counter.
use Rattle.std.specs.Prelude.{◌≡◌, ℕ, ◌+◌, ◌%◌, ◌^◌, Bool, true, false, refl}
use Rattle.armv4t.specs.declared.Instr.{Instr}
use Rattle.armv4t.specs.declared.Cond.TheVariants.{Al}
use Rattle.armv4t.specs.declared.Op.TheVariants.{Bx}

-- bytes of an encoding: 2 for Thumb (true), 4 for ARM
abbrev pub size_of : Bool → ℕ
size_of true = 2
size_of false = 4

-- the address after an instruction, with addresses that wrap at 2^32
abbrev pub next_addr : Instr → ℕ
next_addr i = (i.addr + size_of i.thumb) % 2 ^ 32

-- how far ahead of its own address an instruction reads PC
abbrev pub pc_ahead : Bool → ℕ
pc_ahead true = 4
pc_ahead false = 8

-- what an instruction reads as PC, with addresses that wrap at 2^32
abbrev pub pc_value : Instr → ℕ
pc_value i = (i.addr + pc_ahead i.thumb) % 2 ^ 32

-- an ARM instruction in the last word of the address space reads 4
last_word : pc_value (record { addr = 0xffff_fffc; cond = Al; op = Bx 14; thumb = false }) ≡ 4
last_word = refl
