-- To be believed: the integer types of C99 with a 32-bit int, and conversions. A value is its
-- type's bit pattern, a number below 2 to the width: of a signed type by two's complement. int is
-- s32, and unsigned int u32.
use Rattle.std.specs.Prelude.{ℕ, ◌+◌, ◌-◌, ◌%◌, ◌^◌, Bool, true, false, cond, ◌&&◌, ltb, leb, eqb}
use Rattle.c_tree.specs.Expr.{Ty, s8, s16, s32, u32, s64, u64}

-- bits of a type
abbrev pub width : Ty → ℕ
width s8 = 8
width s16 = 16
width s32 = 32
width u32 = 32
width s64 = 64
width u64 = 64

-- whether a type has negative values
abbrev pub signed : Ty → Bool
signed s8 = true
signed s16 = true
signed s32 = true
signed u32 = false
signed s64 = true
signed u64 = false

-- the integer promotions (6.3.1.1)
abbrev pub promote : Ty → Ty
promote s8 = s32
promote s16 = s32
promote s32 = s32
promote u32 = u32
promote s64 = s64
promote u64 = u64

-- the wider of two types; of equal width the unsigned one
abbrev pub wider : Ty → Ty → Ty
wider x y =
    cond (ltb (width x) (width y)) y (cond (ltb (width y) (width x)) x (cond (signed x) y x))

-- the usual arithmetic conversions (6.3.1.8): of the types here a wider signed one has all values
-- of a narrower unsigned one
abbrev pub common_type : Ty → Ty → Ty
common_type x y = wider (promote x) (promote y)

-- whether a pattern of k bits is that of a negative number
abbrev pub negative : ℕ → ℕ → Bool
negative k x = leb (2 ^ (k - 1)) x

-- a conversion from x to y (6.3.1.3): to fewer bits the low ones, to more the sign or zeros in
-- front, to as many the same
abbrev pub convert : Ty → Ty → ℕ → ℕ
convert x y k =
    cond (ltb (width y) (width x)) (k % 2 ^ width y)
    (cond (signed x && ltb (width x) (width y))
    (cond (negative (width x) k) (k + (2 ^ width y - 2 ^ width x)) k) k)

-- whether two types are one: they have the same width, and both or neither have a sign
abbrev pub same_ty : Ty → Ty → Bool
same_ty x y = eqb (width x) (width y) && cond (signed x) (signed y) (cond (signed y) false true)
