-- To be believed: PREAMBLE: its opening, and its functions as trees, whose text is PREAMBLE's byte
-- for byte (proofs/Preamble.antt).
use Rattle.std.specs.Prelude.{ℕ, true, List, [], ◌∷◌}
use Rattle.c_tree.specs.Expr.{u32, u64, caps, udec, int, Name, x-r, x-v, x-n, x-a, x-b, x-cin}
use Rattle.c_tree.specs.Expr.{x-w, reg, var, compl, add, sub, shl, shr, eq, band, bxor, bor}
use Rattle.c_tree.specs.Expr.{Expr, lit, get, par, un, bin, or_line, cast, pick}
use Rattle.c_tree.specs.Stmt.{is, and, f-nz, f-c, f-nz64, Plain, declare, set, common, gap}
use Rattle.c_tree.specs.Stmt.{plain, ret, Code, end, ◌⨾◌, ror32, op-adds, proc, helper, Top}
use Rattle.c_tree.specs.Stmt.{opening, function}

-- a uint32_t local
abbrev pub v32 : Name → Expr
v32 x = get (var (u32, x))

-- (r & 0x80000000u)
abbrev pub sign : Expr → Expr
sign e = par (bin band e (lit caps 0x80000000))

-- (e ? 0x40000000u : 0u)
abbrev pub flag : Expr → ℕ → Expr
flag e n = par (pick e (lit caps n) (lit udec 0))

-- (r == 0u)
abbrev pub is_zero : Expr → Expr
is_zero e = par (bin eq e (lit udec 0))

-- (c[16] & e)
abbrev pub kept : Expr → Expr
kept e = par (bin band (get (reg 16)) e)

infixr 66 ◌⨟◌
-- a plain statement in a line of its own
abbrev pub ◌⨟◌ : Plain → Code → Code
p ⨟ c = gap true 4 ⨾ plain common p ⨾ c

-- a return in a line of its own
abbrev pub return : Expr → Code → Code
return e c = gap true 4 ⨾ ret common e ⨾ c

-- the line end before the closing brace
abbrev pub close : Code
close = gap true 0 ⨾ end

-- ror32: n &= 31u; return n ? (v >> n) | (v << (32u - n)) : v;
abbrev pub ror_body : Code
ror_body =
    set (var (u32, x-n)) and (lit udec 31)
    ⨟ return
    (pick (v32 x-n)
    (bin bor (par (bin shr (v32 x-v) (v32 x-n)))
    (par (bin shl (v32 x-v) (par (bin sub (lit udec 32) (v32 x-n)))))) (v32 x-v))
    close

-- f_nz: N and Z of a word
abbrev pub nz_body : Code
nz_body =
    set (reg 16) is
    (bin bor (bin bor (kept (lit caps 0x3FFFFFFF)) (sign (v32 x-r)))
    (flag (is_zero (v32 x-r)) 0x40000000))
    ⨟ close

-- f_c: C
abbrev pub c_body : Code
c_body =
    set (reg 16) is
    (bin bor (kept (un compl (lit caps 0x20000000))) (flag (v32 x-v) 0x20000000))
    ⨟ close

-- ((((~(a ^ b)) & (a ^ r)) >> 31) & 1u)
abbrev pub overflow : Expr
overflow =
    par
    (bin band
    (par (bin shr
    (par (bin band (par (un compl (par (bin bxor (v32 x-a) (v32 x-b)))))
    (par (bin bxor (v32 x-a) (v32 x-r))))) (lit int 31)))
    (lit udec 1))

-- op_adds: the sum of two words and a carry, with N, Z, C and V
abbrev pub adds_body : Code
adds_body =
    declare (u64, x-w)
    (bin add (bin add (cast u64 (v32 x-a)) (cast u64 (v32 x-b))) (cast u64 (v32 x-cin))) []
    ⨟ declare (u32, x-r) (cast u32 (get (var (u64, x-w)))) []
    ⨟ set (reg 16) is
    (or_line
    (or_line
    (bin bor (or_line (kept (lit caps 0x0FFFFFFF)) (sign (v32 x-r)))
    (flag (is_zero (v32 x-r)) 0x40000000))
    (flag (par (bin shr (get (var (u64, x-w))) (lit int 32))) 0x20000000))
    (flag overflow 0x10000000))
    ⨟ return (v32 x-r) close

-- f_nz64: N and Z of a double word
abbrev pub nz64_body : Code
nz64_body =
    set (reg 16) is
    (or_line
    (bin bor (kept (lit caps 0x3FFFFFFF))
    (sign (cast u32 (par (bin shr (get (var (u64, x-r))) (lit int 32))))))
    (flag (is_zero (get (var (u64, x-r)))) 0x40000000))
    ⨟ close

-- PREAMBLE
abbrev pub preamble : List Top
preamble =
    opening
    ∷ function (helper ror32) ror_body
    ∷ function (helper (proc f-nz)) nz_body
    ∷ function (helper (proc f-c)) c_body
    ∷ function (helper op-adds) adds_body
    ∷ function (helper (proc f-nz64)) nz64_body
    ∷ []
