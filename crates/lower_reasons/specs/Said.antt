-- To be believed: what is said of the instructions of a block: address, kind and reason of each
-- whose shell the block's text prints, and nothing of the others.
use Rattle.std.specs.Prelude.{ℕ, Bool, true, false, not, cond, ◌&&◌, ◌||◌, List, [], ◌∷◌, ◌++◌, map, get_or, Some, None}
use Rattle.std.proofs.Math.Option
use Rattle.std.proofs.Math.Option.{Option, none}
use Rattle.base_lists.specs.Lists.{is_some}
use Rattle.armv4t.specs.declared.Cond.{Cond}
use Rattle.armv4t.specs.declared.Op.{Op}
use Rattle.armv4t.specs.declared.Instr.{Instr}
use Rattle.armv4t.specs.Cond.{is_al}
use Rattle.armv4t.specs.Fused.{Fused, fuse}
use Rattle.file_instrs.specs.declared.decode.TimedInstr.{TimedInstr}
use Rattle.file_blocks.specs.Parse.{Block}
use Rattle.file_blocks.specs.Address.{region, outside_rom_bios}
use Rattle.lower_reasons.specs.declared.types.Kind.{Kind}
use Rattle.lower_reasons.specs.declared.types.Reason.{Reason}
use Rattle.lower_reasons.specs.Reasons.{fields_of, kind_of, is_one_of, is_native_exit, reason_of}

-- what a sentence says: the address of an instruction, its kind, and why it went to a shell
pub record Said : Type 0 where
  pub addr : ℕ
  pub kind : Kind
  pub reason : Reason

-- whether a block's text has the code of its records: outside BIOS and ROM only where the block has
-- its code bytes
abbrev pub has_code : Block → Bool
has_code b = not (outside_rom_bios b.addr) || is_some b.code

-- whether two halves make a pair
abbrev pub is_pair : Fused → Bool
is_pair (Some (target, ret)) = true
is_pair None = false

-- whether an instruction makes a pair with the one after it
abbrev pub pairs : Instr → List TimedInstr → Bool
pairs x [] = false
pairs x (y ∷ ys) = is_pair (fuse x y.instr)

-- whether an operation under a condition, not fused, in a block of a region is an unconditional
-- native exit: Bx, the pop of PC, or Branch
unfoldable pub drops_rest_by : ℕ → Cond → Op → Bool
drops_rest_by region c op =
    is_native_exit region c (fields_of op) || (is_al c && is_one_of (Kind.Branch ∷ []) (kind_of op))

-- the same of an instruction
abbrev pub drops_rest : ℕ → Instr → Bool
drops_rest region i = drops_rest_by region i.cond i.op

-- what is said of an instruction that is not fused
abbrev pub said_of : ℕ → Instr → Option Said
said_of region i =
    Option.map (λ (r : Reason). record { addr = i.addr; kind = kind_of i.op; reason = r })
    (reason_of region i)

-- nothing of each of some instructions
abbrev pub nothing_of : List TimedInstr → List (Option Said)
nothing_of = map (λ (x : TimedInstr). none)

-- what is said of each of some instructions in a region: nothing of a pair, nor of what is dropped
-- after a pair or another unconditional native exit
unfoldable pub said_each : ℕ → List TimedInstr → List (Option Said)
said_each region [] = []
said_each region (x ∷ xs) =
    cond (pairs x.instr xs)
    (nothing_of (x ∷ xs))
    (said_of region x.instr
    ∷ cond (drops_rest region x.instr) (nothing_of xs) (said_each region xs))

-- what is said of each instruction of a block
unfoldable pub said_in : Block → List (Option Said)
said_in b =
    cond (has_code b) (said_each (region b.addr) b.instrs) (nothing_of b.instrs)

-- what is said of the instruction with index i of a block
abbrev pub said_at : Block → ℕ → Option Said
said_at b i = get_or (said_in b) i none

-- what is said of each instruction of some blocks, in their order
unfoldable pub said_in_all : List Block → List (Option Said)
said_in_all [] = []
said_in_all (b ∷ bs) = said_in b ++ said_in_all bs
