-- Steps: the statements of a multiplication and of a long one, one by one.
use Rattle.std.specs.Prelude.{ℕ, Bool, List, [], ◌∷◌}
use Rattle.c_tree.specs.Expr.{u32, u64, x-r, reg, var, int, mul, shl, shr, bor, lit, get, par, bin}
use Rattle.c_tree.specs.Expr.{cast}
use Rattle.c_tree.specs.Stmt.{plus, Plain, declare, set}
use Rattle.lower_forms.specs.InlineBody.{let32, set_reg, widened, r64}

-- the product of two registers
abbrev pub product : ℕ → ℕ → Plain
product rs rm = let32 x-r (bin mul (get (reg rm)) (get (reg rs)))

-- the addition of rn
abbrev pub accumulated : ℕ → Plain
accumulated rn = set (var (u32, x-r)) plus (get (reg rn))

-- the product of 64 bits
abbrev pub long_product : Bool → ℕ → ℕ → Plain
long_product signed rs rm =
    declare (u64, x-r)
    (cast u64 (par (bin mul (widened signed (get (reg rm))) (widened signed (get (reg rs))))))
    []

-- the addition of the two registers of the outcome as they were
abbrev pub long_accumulated : ℕ → ℕ → Plain
long_accumulated hi lo =
    set (var (u64, x-r)) plus
    (bin bor (par (bin shl (cast u64 (get (reg hi))) (lit int 32))) (cast u64 (get (reg lo))))

-- both halves of the outcome
abbrev pub halves : ℕ → ℕ → List Plain
halves hi lo =
    set_reg lo (cast u32 r64) ∷ set_reg hi (cast u32 (par (bin shr r64 (lit int 32)))) ∷ []
