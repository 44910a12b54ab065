-- No expression, condition or plain statement that binds prints `;`, `{`, `}` or a line end: a `;`
-- in the text ends a statement of the tree, and a brace is one of the tree's.
use mathlib.Core.Path.{◌≡◌, refl, sym, ap}
use Prim.Native.Nat.{ℕ, zero, suc, ◌-◌, ◌/◌, ◌%◌, ◌≤◌, ◌<◌}
use Prim.Native.String.{String}
use native.Mathlib.Nat.{not-suc-le-zero, mod-lt}
use native.Mathlib.Omega.{arith}
use native.Mathlib.Decide.{dec_lt}
use mathlib.Core.Bool.{Bool, true, false, not, cond, ◌&&◌, ◌||◌, true≢false}
use mathlib.Core.List.{List, [], ◌∷◌, ◌++◌}
use borrow.Author.Tests.{lt-ltb, le-ltb}
use lib.Dec.{eqb, leb}
use Rattle.base_text.specs.Digits.{glyph, numeral, last_digits}
use Rattle.base_text.specs.Doc.{Doc, nothing, raw, text, dec, hex, hex8, hex16, ◌▸◌, chars, decimal}
use Rattle.base_text.specs.Doc.{hexadecimal, hexadecimal8, hexadecimal16, print, each}
use Rattle.c_tree.specs.Expr.{Ty, s8, s16, s32, u32, s64, u64, Style, word, caps, uhex, udec}
use Rattle.c_tree.specs.Expr.{int, Name, x-r, x-base, x-ob, x-addr, x-t, x-s, x-cn, x-cz}
use Rattle.c_tree.specs.Expr.{x-cc, x-cv, x-pc, x-v, x-n, x-a, x-b, x-cin, x-w, Var, Place}
use Rattle.c_tree.specs.Expr.{reg, var, Un, compl, lnot, Bin, mul, add, sub, shl, shr, eq, ne}
use Rattle.c_tree.specs.Expr.{band, bxor, bor, land, lor, operator, Width, w8, w16, w32, Expr}
use Rattle.c_tree.specs.Expr.{lit, get, par, un, bin, or_line, cast, pick, ror, read}
use Rattle.c_tree.specs.Stmt.{Set, is, plus, and, or, Proc, f-nz, f-c, f-nz64, Plain}
use Rattle.c_tree.specs.Stmt.{registers, local, declare, adds, set, discard, run, write, tick}
use Rattle.c_tree.specs.Stmt.{Test, guard, gate, other}
use Rattle.c_tree.specs.Print.{ty_name, upper, constant_text, name, typed, place_text, un_text}
use Rattle.c_tree.specs.Print.{bits, expr_text, set_text, proc_name, declarator, plain_text}
use Rattle.c_tree.specs.Print.{test_text}
use Rattle.c_tree.specs.Binds.{level, binds, declarators_bind, plain_binds, test_binds}
use Rattle.base_lists.proofs.Bools.{left_true as left, right_true as right, both_true as both}

-- `;`, `{` or `}`
abbrev pub stop : ℕ → Bool
stop b = eqb b 59 || eqb b 123 || eqb b 125

-- none of the three, and no line end
abbrev pub clean_byte : ℕ → Bool
clean_byte b = not (stop b || eqb b 10)

abbrev pub clean : List ℕ → Bool
clean [] = true
clean (b ∷ bs) = clean_byte b && clean bs

-- a doc without `;`, `{`, `}` and line end
pub record Clean (d : Doc) : Type 0 where
  pub bytes : clean (print d) ≡ true

clean_append : (xs ys : List ℕ) → clean xs ≡ true → clean ys ≡ true → clean (xs ++ ys) ≡ true
clean_append [] ys h k = k
clean_append (x ∷ xs) ys h k =
    both (clean_byte x) (clean (xs ++ ys)) (left (clean_byte x) (clean xs) h)
    (clean_append xs ys (right (clean_byte x) (clean xs) h) k)

infixr 60 ◌&◌
pub ◌&◌ : {a b : Doc} → Clean a → Clean b → Clean (a ▸ b)
unfolding print
◌&◌ {a} {b} p q = record { bytes = clean_append (print a) (print b) p.bytes q.bytes }

-- a text: by computation
pub ok : {s : String} → clean (chars s) ≡ true → Clean (text s)
unfolding print
ok h = record { bytes = h }

empty : Clean nothing
unfolding print
empty = record { bytes = refl }

-- digits: each of the sixteen, by computation
abbrev all : (ℕ → Bool) → ℕ → Bool
all f zero = true
all f (suc n) = f n && all f n

below : (f : ℕ → Bool) (n : ℕ) → all f n ≡ true → (d : ℕ) → d < n → f d ≡ true
below f zero h d l = absurd (not-suc-le-zero l)
below f (suc n) h d l =
    elim (dec_lt d n) [
      | yes k ↦ below f n (right (f n) (all f n) h) d k
      | no k ↦ let e : d ≡ n = omega arith in rw e (left (f n) (all f n) h)
    ]

glyph_clean : (d : ℕ) → d < 16 → clean_byte (glyph d) ≡ true
glyph_clean = below (λ d. clean_byte (glyph d)) 16 refl

last : (xs : List ℕ) (d : ℕ) → clean xs ≡ true → d < 16 → clean (xs ++ (glyph d ∷ [])) ≡ true
last xs d h l =
    clean_append xs (glyph d ∷ []) h (both (clean_byte (glyph d)) true (glyph_clean d l) refl)

numeral_clean : (b : ℕ) → 0 < b → b ≤ 16 → (most n : ℕ) → clean (numeral b most n) ≡ true
unfolding numeral
numeral_clean b z h zero n = refl
numeral_clean b z h (suc most) n =
    elim (dec_lt n b) [
      | yes l ↦ rw (lt-ltb n b l) (last [] n refl (omega arith))
      | no g ↦
          let l : n % b < b = mod-lt n z in
          rw (le-ltb n b (omega arith))
          (last (numeral b most (n / b)) (n % b) (numeral_clean b z h most (n / b))
          (omega arith))
    ]

last_digits_clean : (k n : ℕ) → clean (last_digits 16 k n) ≡ true
unfolding last_digits
last_digits_clean zero n = refl
last_digits_clean (suc k) n =
    last (last_digits 16 k (n / 16)) (n % 16) (last_digits_clean k (n / 16)) (mod-lt n (omega arith))

upper_append : (xs ys : List ℕ) → upper (xs ++ ys) ≡ upper xs ++ upper ys
upper_append [] ys = refl
upper_append (x ∷ xs) ys =
    ap (λ (zs : List ℕ). cond (leb 97 x) (x - 32) x ∷ zs) (upper_append xs ys)

upper_clean : (k n : ℕ) → clean (upper (last_digits 16 k n)) ≡ true
unfolding last_digits
upper_clean zero n = refl
upper_clean (suc k) n =
    rw (upper_append (last_digits 16 k (n / 16)) (glyph (n % 16) ∷ []))
    (clean_append (upper (last_digits 16 k (n / 16))) (upper (glyph (n % 16) ∷ []))
    (upper_clean k (n / 16))
    (below (λ d. clean (upper (glyph d ∷ []))) 16 refl (n % 16) (mod-lt n (omega arith))))

pub dec_clean : (n : ℕ) → Clean (dec n)
unfolding print decimal
dec_clean n = record { bytes = numeral_clean 10 (omega arith) (omega arith) 20 n }

hex_clean : (n : ℕ) → Clean (hex n)
unfolding print hexadecimal
hex_clean n = record { bytes = numeral_clean 16 (omega arith) (omega arith) 16 n }

pub hex8_clean : (n : ℕ) → Clean (hex8 n)
unfolding print hexadecimal8
hex8_clean n = record { bytes = last_digits_clean 8 n }

hex16_clean : (n : ℕ) → Clean (hex16 n)
unfolding print hexadecimal16
hex16_clean n = record { bytes = last_digits_clean 16 n }

caps_clean : (n : ℕ) → Clean (raw (upper (hexadecimal8 n)))
unfolding print hexadecimal8
caps_clean n = record { bytes = upper_clean 8 n }

constant_clean : (s : Style) (n : ℕ) → Clean (constant_text s n)
constant_clean word n = ok refl & hex8_clean n & ok refl
constant_clean caps n = ok refl & caps_clean n & ok refl
constant_clean uhex n = ok refl & hex_clean n & ok refl
constant_clean udec n = dec_clean n & ok refl
constant_clean int n = dec_clean n

-- the names and symbols, by computation
ty_clean : (y : Ty) → Clean (text (ty_name y))
ty_clean s8 = ok refl
ty_clean s16 = ok refl
ty_clean s32 = ok refl
ty_clean u32 = ok refl
ty_clean s64 = ok refl
ty_clean u64 = ok refl

name_clean : (x : Name) → Clean (text (name x))
name_clean x-r = ok refl
name_clean x-base = ok refl
name_clean x-ob = ok refl
name_clean x-addr = ok refl
name_clean x-t = ok refl
name_clean x-s = ok refl
name_clean x-cn = ok refl
name_clean x-cz = ok refl
name_clean x-cc = ok refl
name_clean x-cv = ok refl
name_clean x-pc = ok refl
name_clean x-v = ok refl
name_clean x-n = ok refl
name_clean x-a = ok refl
name_clean x-b = ok refl
name_clean x-cin = ok refl
name_clean x-w = ok refl

operator_clean : (o : Bin) → Clean (text (operator o).0)
operator_clean mul = ok refl
operator_clean add = ok refl
operator_clean sub = ok refl
operator_clean shl = ok refl
operator_clean shr = ok refl
operator_clean eq = ok refl
operator_clean ne = ok refl
operator_clean band = ok refl
operator_clean bxor = ok refl
operator_clean bor = ok refl
operator_clean land = ok refl
operator_clean lor = ok refl

un_clean : (o : Un) → Clean (text (un_text o))
un_clean compl = ok refl
un_clean lnot = ok refl

bits_clean : (w : Width) → Clean (text (bits w))
bits_clean w8 = ok refl
bits_clean w16 = ok refl
bits_clean w32 = ok refl

set_clean : (o : Set) → Clean (text (set_text o))
set_clean is = ok refl
set_clean plus = ok refl
set_clean and = ok refl
set_clean or = ok refl

proc_clean : (p : Proc) → Clean (text (proc_name p))
proc_clean f-nz = ok refl
proc_clean f-c = ok refl
proc_clean f-nz64 = ok refl

typed_clean : (x : Var) → Clean (typed x)
typed_clean x = ty_clean x.0 & ok refl & name_clean x.1

place_clean : (p : Place) → Clean (place_text p)
place_clean (reg n) = ok refl & dec_clean n & ok refl
place_clean (var x) = name_clean x.1

-- an expression that binds
pub expr_clean : (e : Expr) → binds false e ≡ true → Clean (expr_text e)
unfolding binds
expr_clean (lit s n) h = constant_clean s n
expr_clean (get p) h = place_clean p
expr_clean (par e) h = ok refl & expr_clean e h & ok refl
expr_clean (un o e) h = un_clean o & expr_clean e (right (leb 13 (level e)) (binds false e) h)
expr_clean (bin o d e) h =
    let p : Bool = leb (operator o).1 (level d) in
    let q : Bool = leb (suc (operator o).1) (level e) in
    expr_clean d (right p (binds false d) (left (p && binds false d) (q && binds false e) h))
    & operator_clean o
    & expr_clean e (right q (binds false e) (right (p && binds false d) (q && binds false e) h))
expr_clean (or_line d e) h = absurd (true≢false (sym h))
expr_clean (cast y e) h =
    ok refl & ty_clean y & ok refl & expr_clean e (right (leb 13 (level e)) (binds false e) h)
expr_clean (pick c d e) h =
    let p : Bool = leb 3 (level c) && binds false c in
    let q : Bool = leb 2 (level e) && binds false e in
    expr_clean c
    (right (leb 3 (level c)) (binds false c)
    (left p (binds false d) (left (p && binds false d) q h)))
    & ok refl
    & expr_clean d (right p (binds false d) (left (p && binds false d) q h))
    & ok refl
    & expr_clean e (right (leb 2 (level e)) (binds false e) (right (p && binds false d) q h))
expr_clean (ror d e) h =
    ok refl
    & expr_clean d (left (binds false d) (binds false e) h)
    & ok refl
    & expr_clean e (right (binds false d) (binds false e) h)
    & ok refl
expr_clean (read w e) h = ok refl & bits_clean w & ok refl & expr_clean e h & ok refl

-- a condition that binds
pub test_clean : (n : Bool) (t : Test) → test_binds false n t ≡ true → Clean (test_text t)
unfolding test_binds
test_clean n (guard a l k) h =
    ok refl & hex8_clean a & ok refl & dec_clean l & ok refl & hex16_clean k & ok refl
test_clean n gate h = ok refl
test_clean true (other e) h = expr_clean e (right (leb 13 (level e)) (binds false e) h)
test_clean false (other e) h = expr_clean e h

declarators_clean : (ds : List (Name × Expr)) → declarators_bind false ds ≡ true
    → Clean (each declarator ds)
unfolding declarators_bind
declarators_clean [] h = empty
declarators_clean (d ∷ ds) h =
    (ok refl & name_clean d.0 & ok refl & expr_clean d.1
    (left (binds false d.1) (declarators_bind false ds) h))
    & declarators_clean ds (right (binds false d.1) (declarators_bind false ds) h)

-- a plain statement that binds
pub plain_clean : (p : Plain) → plain_binds false p ≡ true → Clean (plain_text p)
unfolding plain_binds
plain_clean registers h = ok refl
plain_clean (local x) h = typed_clean x
plain_clean (declare x e ds) h =
    typed_clean x
    & ok refl
    & expr_clean e (left (binds false e) (declarators_bind false ds) h)
    & declarators_clean ds (right (binds false e) (declarators_bind false ds) h)
plain_clean (adds x d e f) h =
    let k : (binds false d && binds false e) ≡ true =
    left (binds false d && binds false e) (binds false f) h in
    typed_clean (u32, x)
    & ok refl
    & expr_clean d (left (binds false d) (binds false e) k)
    & ok refl
    & expr_clean e (right (binds false d) (binds false e) k)
    & ok refl
    & expr_clean f (right (binds false d && binds false e) (binds false f) h)
    & ok refl
plain_clean (set p o e) h = place_clean p & set_clean o & expr_clean e h
plain_clean (discard x) h = ok refl & name_clean x.1
plain_clean (run p e) h = proc_clean p & ok refl & expr_clean e h & ok refl
plain_clean (write w d e) h =
    ok refl
    & bits_clean w
    & ok refl
    & expr_clean d (left (binds false d) (binds false e) h)
    & ok refl
    & expr_clean e (right (binds false d) (binds false e) h)
    & ok refl
plain_clean (tick n) h = ok refl & dec_clean n & ok refl
