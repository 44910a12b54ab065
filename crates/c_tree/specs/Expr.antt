-- To be believed: C's expressions, as many as emit.rs prints. None has an effect, and none holds
-- text: what calls the interpreter, the gate, the guard or a function that writes is a statement.
-- Parentheses are nodes of their own, so the text is the tree's leaves in order.
use Rattle.std.specs.Prelude.{ℕ}
use Prim.Native.String.{String}

-- the integer types: int8_t, int16_t, int32_t, uint32_t, int64_t, uint64_t
pub data Ty : Type 0 where
  s8 s16 s32 u32 s64 u64 : Ty

-- how a constant is printed
pub data Style : Type 0 where
  word : Style  -- 0x{:08x}u: addresses, keys, values of Operand2
  caps : Style  -- the same with capital letters: PREAMBLE
  uhex : Style  -- 0x{:x}u: the offset of a Mem, 0x20u of Bx
  udec : Style  -- {}u
  int : Style  -- {}

-- the names of locals; x-s is s_
pub data Name : Type 0 where
  x-r x-base x-ob x-addr x-t x-s x-cn x-cz x-cc x-cv x-pc x-v x-n x-a x-b x-cin x-w : Name

-- a local: its type and name. The r of a long multiplication is a uint64_t, any other a uint32_t
abbrev pub Var : Type 0
Var = Ty × Name

-- what can be assigned to
pub data Place : Type 0 where
  reg : ℕ → Place  -- c[n]
  var : Var → Place

-- ~ and !
pub data Un : Type 0 where
  compl lnot : Un

-- the binary operators
pub data Bin : Type 0 where
  mul add sub shl shr eq ne band bxor bor land lor : Bin

-- a binary operator as printed, and its level in C's grammar (C99, 6.5): 12 multiplicative to 3
-- logical OR
abbrev pub operator : Bin → String × ℕ
operator mul = (" * ", 12)
operator add = (" + ", 11)
operator sub = (" - ", 11)
operator shl = (" << ", 10)
operator shr = (" >> ", 10)
operator eq = (" == ", 8)
operator ne = (" != ", 8)
operator band = (" & ", 7)
operator bxor = (" ^ ", 6)
operator bor = (" | ", 5)
operator land = (" && ", 4)
operator lor = (" || ", 3)

-- the bits of a transfer
pub data Width : Type 0 where
  w8 w16 w32 : Width

-- an expression
pub data Expr : Type 0 where
  lit : Style → ℕ → Expr
  get : Place → Expr  -- c[n], or a local
  par : Expr → Expr  -- (e)
  un : Un → Expr → Expr  -- ~e
  bin : Bin → Expr → Expr → Expr  -- e + e
  or_line : Expr → Expr → Expr  -- e | e with the | on a new line: PREAMBLE only
  cast : Ty → Expr → Expr  -- (uint32_t)e
  pick : Expr → Expr → Expr → Expr  -- e ? e : e
  ror : Expr → Expr → Expr  -- ror32(e, e)
  read : Width → Expr → Expr  -- a->read32(m, e)
