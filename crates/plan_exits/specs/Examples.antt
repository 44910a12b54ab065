-- Examples: document 01's three blocks, on which the calls are computed.
use Rattle.std.specs.Prelude.{ℕ, false, List, [], ◌∷◌}
use Rattle.std.proofs.Math.Option.{none}
use Rattle.armv4t.specs.declared.Cond.TheVariants.{Al}
use Rattle.armv4t.specs.declared.Op.{Op}
use Rattle.armv4t.specs.declared.Op.TheVariants.{Bx, Branch}
use Rattle.file_blocks.specs.Parse.{Block}

-- an ARM block of one instruction
unfoldable pub arm_block : ℕ → Op → Block
arm_block at op =
    record {
      addr = at;
      thumb = false;
      code = none;
      instrs =
          record { instr = record { addr = at; cond = Al; op = op; thumb = false }; cost = 1 } ∷ [];
    }

-- a branch over one block to another
unfoldable pub three_blocks : List Block
three_blocks =
    arm_block 0x0800_0000 (Branch false 0x0800_0008) ∷ arm_block 0x0800_0004 (Bx 14)
    ∷ arm_block 0x0800_0008 (Bx 14) ∷ []
