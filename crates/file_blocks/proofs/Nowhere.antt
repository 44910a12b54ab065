-- A block to read past the end of a list.
use Rattle.std.proofs.Common.{false, []}
use mathlib.Core.Option.{none}
use Rattle.file_blocks.specs.Parse.{Block}

-- it has no instruction and no code bytes
unfoldable pub nowhere : Block
nowhere = record { addr = 0; thumb = false; code = none; instrs = [] }
