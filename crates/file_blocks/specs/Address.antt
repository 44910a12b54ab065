-- To be believed: what an address says by itself, its page and region; its key, and the key after
-- an instruction.
use Rattle.std.specs.Prelude.{ℕ, ◌/◌, ◌%◌, ◌^◌, Bool, true, false, not, ◌||◌, ◌==◌}
use Rattle.armv4t.specs.declared.Instr.{Instr}
use Rattle.armv4t.specs.Bit0.{set_bit0}
use Rattle.armv4t.specs.Instr.{next_addr}

-- the page of an address (document 01)
abbrev pub page : ℕ → ℕ
page addr = addr / 2 ^ 24

-- the region of an address (document 01): its page modulo 16
abbrev pub region : ℕ → ℕ
region addr = page addr % 16

-- outside regions 0 and 8, that is outside BIOS and ROM: the code there can change, so it stands
-- after a guard
unfoldable pub outside_rom_bios : ℕ → Bool
outside_rom_bios addr = not (region addr == 8 || region addr == 0)

-- an address with the block's Thumb bit
abbrev pub key_of : ℕ → Bool → ℕ
key_of addr true = set_bit0 addr
key_of addr false = addr

-- the fall-through (document 01): the address after an instruction, with the block's Thumb bit
abbrev pub fall_through : Bool → Instr → ℕ
fall_through thumb i = key_of (next_addr i) thumb
