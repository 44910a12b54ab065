-- To be believed: the data-processing operations by number, and which of them compare.
use Rattle.std.specs.Prelude.{ℕ, Bool, true, false, List, [], ◌∷◌, slice_index_or}
use Rattle.armv4t.specs.declared.AluOp.{AluOp}
use Rattle.armv4t.specs.declared.AluOp.TheVariants.{And, Eor, Sub, Rsb, Add, Adc, Sbc, Rsc}
use Rattle.armv4t.specs.declared.AluOp.TheVariants.{Tst, Teq, Cmp, Cmn, Orr, Mov, Bic, Mvn}

-- all operations, in encoding order
abbrev pub alu_ops : List AluOp
alu_ops =
    And ∷ Eor ∷ Sub ∷ Rsb ∷ Add ∷ Adc ∷ Sbc ∷ Rsc ∷ Tst ∷ Teq ∷ Cmp ∷ Cmn ∷ Orr ∷ Mov ∷ Bic ∷ Mvn
    ∷ []

-- the operation that a number below 16 encodes; a larger number encodes none, and gives And
abbrev pub alu_op_of : ℕ → AluOp
alu_op_of n = slice_index_or alu_ops n And

-- whether an operation sets flags only, so that rd means nothing
abbrev pub is_compare : AluOp → Bool
is_compare And = false
is_compare Eor = false
is_compare Sub = false
is_compare Rsb = false
is_compare Add = false
is_compare Adc = false
is_compare Sbc = false
is_compare Rsc = false
is_compare Tst = true
is_compare Teq = true
is_compare Cmp = true
is_compare Cmn = true
is_compare Orr = false
is_compare Mov = false
is_compare Bic = false
is_compare Mvn = false
