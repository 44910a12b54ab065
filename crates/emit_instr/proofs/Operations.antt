-- The operations that have no lines, and those after which a block goes on and that do not touch
-- memory.
use Rattle.std.proofs.Common.{◌≡◌, ℕ, Bool, false, List, [], ◌∷◌}
use mathlib.Core.Option.{none}
use denote.Enum.Declared.{tag_of}
use types.Run.{OneOf}
use Rattle.armv4t.proofs.Arms.{arm, others}
use Rattle.armv4t.specs.contracts.Op.{enum, the_type}
use Rattle.armv4t.specs.declared.Instr.{Instr}
use Rattle.armv4t.specs.declared.Op.{Op}
use Rattle.file_instrs.specs.declared.decode.TimedInstr.{TimedInstr}
use Rattle.lower_forms.specs.InlineBody.{op_body}
use Rattle.lower_forms.specs.Block.{emit_straight, emit_op}

-- all but Alu, Mul, MulLong, Mem and BlockMem
abbrev pub unlined : List ℕ
unlined = others 15 (0 ∷ 1 ∷ 2 ∷ 8 ∷ 9 ∷ [])

pub no_lines : (thumb : Bool) (i : Instr) (op : Op) → OneOf unlined (tag_of the_type op)
    → op_body thumb i op ≡ none
no_lines thumb i op o = arm enum (λ x. op_body thumb i x ≡ none) unlined op o (search depth 16)

-- all but Bx, Branch, ThumbBlHigh, Mem and BlockMem
abbrev pub passing : List ℕ
passing = others 15 (4 ∷ 5 ∷ 6 ∷ 8 ∷ 9 ∷ [])

pub straight_on : (thumb : Bool) (region cycles : ℕ) (x : TimedInstr) (op : Op)
    → OneOf passing (tag_of the_type op)
    → emit_op thumb region cycles x op ≡ emit_straight thumb false cycles x
straight_on thumb region cycles x op o =
    arm enum (λ y. emit_op thumb region cycles x y ≡ emit_straight thumb false cycles x) passing op o
    (search depth 16)
