-- To be believed: the kinds of shift by number, and the shift that leaves a register as it is.
use Rattle.std.specs.Prelude.{ℕ, List, [], ◌∷◌, slice_index_or}
use Rattle.armv4t.specs.declared.ShiftKind.{ShiftKind}
use Rattle.armv4t.specs.declared.ShiftKind.TheVariants.{Lsl, Lsr, Asr, Ror}
use Rattle.armv4t.specs.declared.Shift.{Shift}
use Rattle.armv4t.specs.declared.Shift.TheVariants.{Imm}

-- all kinds of shift, in encoding order
abbrev pub shift_kinds : List ShiftKind
shift_kinds = Lsl ∷ Lsr ∷ Asr ∷ Ror ∷ []

-- the kind of shift that a number below 4 encodes; a larger number encodes none, and gives Lsl
abbrev pub shift_kind_of : ℕ → ShiftKind
shift_kind_of n = slice_index_or shift_kinds n Lsl

-- the shift of an operand that is not shifted: left by 0
abbrev pub no_shift : Shift
no_shift = Imm Lsl 0
