-- To be believed: the value of an expression by C99. The type is static; what C leaves undefined is
-- none. No expression has an effect, so the order in which C evaluates operands, which it leaves
-- open, cannot matter.
use Rattle.std.specs.Prelude.{ℕ, ◌+◌, ◌-◌, ◌*◌, ◌/◌, ◌%◌, ◌^◌, Bool, not, cond, ◌&&◌, ◌||◌, ltb, leb, eqb}
use Rattle.std.specs.Bool.{beq}
use Rattle.std.proofs.Math.Option.{Option, none, some}
use Rattle.base_words.specs.Word.{AND, OR, EOR}
use Rattle.c_tree.specs.Expr.{Ty, s32, u32, Style, word, caps, uhex, udec, int, Un, compl, lnot}
use Rattle.c_tree.specs.Expr.{Bin, mul, add, sub, shl, shr, eq, ne, band, bxor, bor, land, lor}
use Rattle.c_tree.specs.Expr.{Expr, lit, get, par, un, bin, or_line, cast, pick, ror, read}
use Rattle.c_meaning.specs.Types.{width, signed, promote, common_type, negative, convert}
use Rattle.c_meaning.specs.State.{bind, State, value, place_ty, load}

-- the type of a constant (6.4.4.1): with u an unsigned int, without it an int; the text has none
-- that either is too narrow for
abbrev pub literal_ty : Style → Ty
literal_ty word = u32
literal_ty caps = u32
literal_ty uhex = u32
literal_ty udec = u32
literal_ty int = s32

-- the value of a constant; none where that type is too narrow for it
abbrev pub literal : Style → ℕ → Option ℕ
literal word k = cond (ltb k 4294967296) (some k) none
literal caps k = cond (ltb k 4294967296) (some k) none
literal uhex k = cond (ltb k 4294967296) (some k) none
literal udec k = cond (ltb k 4294967296) (some k) none
literal int k = cond (ltb k 2147483648) (some k) none

-- the type that the left operand is converted to; of a shift the operands are promoted each by
-- itself (6.5.7), and && and || convert neither
abbrev pub left_ty : Bin → Ty → Ty → Ty
left_ty mul x y = common_type x y
left_ty add x y = common_type x y
left_ty sub x y = common_type x y
left_ty shl x y = promote x
left_ty shr x y = promote x
left_ty eq x y = common_type x y
left_ty ne x y = common_type x y
left_ty band x y = common_type x y
left_ty bxor x y = common_type x y
left_ty bor x y = common_type x y
left_ty land x y = x
left_ty lor x y = x

-- the type that the right operand is converted to, likewise
abbrev pub right_ty : Bin → Ty → Ty → Ty
right_ty mul x y = common_type x y
right_ty add x y = common_type x y
right_ty sub x y = common_type x y
right_ty shl x y = promote y
right_ty shr x y = promote y
right_ty eq x y = common_type x y
right_ty ne x y = common_type x y
right_ty band x y = common_type x y
right_ty bxor x y = common_type x y
right_ty bor x y = common_type x y
right_ty land x y = y
right_ty lor x y = y

-- the type of the outcome: comparisons and logical operators give an int
abbrev pub bin_ty : Bin → Ty → Ty → Ty
bin_ty mul x y = common_type x y
bin_ty add x y = common_type x y
bin_ty sub x y = common_type x y
bin_ty shl x y = promote x
bin_ty shr x y = promote x
bin_ty eq x y = s32
bin_ty ne x y = s32
bin_ty band x y = common_type x y
bin_ty bxor x y = common_type x y
bin_ty bor x y = common_type x y
bin_ty land x y = s32
bin_ty lor x y = s32

-- the type of an expression
abbrev pub ty : Expr → Ty
ty (lit s k) = literal_ty s
ty (get p) = place_ty p
ty (par e) = ty e
ty (un compl e) = promote (ty e)
ty (un lnot e) = s32
ty (bin o d e) = bin_ty o (ty d) (ty e)
ty (or_line d e) = common_type (ty d) (ty e)
ty (cast y e) = y
ty (pick c d e) = common_type (ty d) (ty e)
ty (ror d e) = u32
ty (read w e) = u32

-- 1 or 0
abbrev pub truth : Bool → ℕ
truth b = cond b 1 0

-- some x unless the signed outcome does not fit its type, which is undefined (6.5)
abbrev pub unless : Bool → ℕ → Option ℕ
unless b x = cond b none (some x)

-- a signed sum of k bits: it does not fit where both operands have one sign and the outcome the
-- other
abbrev pub signed_add : ℕ → ℕ → ℕ → Option ℕ
signed_add k x y =
    let s : ℕ = (x + y) % 2 ^ k in
    unless (beq (negative k x) (negative k y) && not (beq (negative k x) (negative k s)))
    s

-- a signed difference of k bits: it does not fit where the operands' signs differ and the outcome's
-- is not the first's
abbrev pub signed_sub : ℕ → ℕ → ℕ → Option ℕ
signed_sub k x y =
    let s : ℕ = (x + (2 ^ k - y)) % 2 ^ k in
    unless (not (beq (negative k x) (negative k y))
    && not (beq (negative k x) (negative k s))) s

-- the absolute value of a signed number of k bits
abbrev pub absolute : ℕ → ℕ → ℕ
absolute k x = cond (negative k x) (2 ^ k - x) x

-- a signed product of k bits, by sign and absolute value
abbrev pub signed_mul : ℕ → ℕ → ℕ → Option ℕ
signed_mul k x y =
    let m : ℕ = absolute k x * absolute k y in
    cond (beq (negative k x) (negative k y))
    (unless (leb (2 ^ (k - 1)) m) m)
    (unless (ltb (2 ^ (k - 1)) m) ((2 ^ k - m) % 2 ^ k))

-- a signed shift to the left (6.5.7): of no negative number, and the outcome fits
abbrev pub signed_shl : ℕ → ℕ → ℕ → Option ℕ
signed_shl k x n = unless (negative k x || leb (2 ^ (k - 1)) (x * 2 ^ n)) (x * 2 ^ n)

-- a shift to the right; of a negative number ones come in
abbrev pub shift_right : Ty → ℕ → ℕ → ℕ
shift_right y x n =
    cond (signed y && negative (width y) x) (x / 2 ^ n + (2 ^ width y - 2 ^ (width y - n)))
    (x / 2 ^ n)

-- an operator on two patterns of the type y, or for a shift a pattern and a count, which is to be
-- below the width. The logical ones are `operate`'s
abbrev pub arith : Bin → Ty → ℕ → ℕ → Option ℕ
arith mul y k l = cond (signed y) (signed_mul (width y) k l) (some (k * l % 2 ^ width y))
arith add y k l = cond (signed y) (signed_add (width y) k l) (some ((k + l) % 2 ^ width y))
arith sub y k l =
    cond (signed y) (signed_sub (width y) k l) (some ((k + (2 ^ width y - l)) % 2 ^ width y))
arith shl y k l = cond (ltb l (width y))
    (cond (signed y) (signed_shl (width y) k l) (some (k * 2 ^ l % 2 ^ width y)))
    none
arith shr y k l = cond (ltb l (width y)) (some (shift_right y k l)) none
arith eq y k l = some (truth (eqb k l))
arith ne y k l = some (truth (not (eqb k l)))
arith band y k l = some (AND k l)
arith bxor y k l = some (EOR k l)
arith bor y k l = some (OR k l)
arith land y k l = none
arith lor y k l = none

-- an operator on two values of the types x and y, converted
abbrev pub bin_value : Bin → Ty → Ty → ℕ → ℕ → Option ℕ
bin_value o x y k l =
    arith o (left_ty o x y) (convert x (left_ty o x y) k) (convert y (right_ty o x y) l)

-- an operator on its operands: && and || look at the second only where the first does not settle
-- the outcome (6.5.13, 6.5.14)
abbrev pub operate : Bin → Ty → Ty → Option ℕ → Option ℕ → Option ℕ
operate mul x y p q = bind p λ k. bind q λ l. bin_value mul x y k l
operate add x y p q = bind p λ k. bind q λ l. bin_value add x y k l
operate sub x y p q = bind p λ k. bind q λ l. bin_value sub x y k l
operate shl x y p q = bind p λ k. bind q λ l. bin_value shl x y k l
operate shr x y p q = bind p λ k. bind q λ l. bin_value shr x y k l
operate eq x y p q = bind p λ k. bind q λ l. bin_value eq x y k l
operate ne x y p q = bind p λ k. bind q λ l. bin_value ne x y k l
operate band x y p q = bind p λ k. bind q λ l. bin_value band x y k l
operate bxor x y p q = bind p λ k. bind q λ l. bin_value bxor x y k l
operate bor x y p q = bind p λ k. bind q λ l. bin_value bor x y k l
operate land x y p q =
    bind p λ k. cond (eqb k 0) (some 0) (bind q λ l. some (truth (not (eqb l 0))))
operate lor x y p q =
    bind p λ k. cond (eqb k 0) (bind q λ l. some (truth (not (eqb l 0)))) (some 1)

-- ~ and !
abbrev pub un_value : Un → Ty → ℕ → ℕ
un_value compl x k = (2 ^ width (promote x) - 1) - convert x (promote x) k
un_value lnot x k = truth (eqb k 0)

-- rorAnswer: what ror32 answers
module _ (rorAnswer : ℕ → ℕ → Option ℕ) where
  -- the value of an expression, of the type that `ty` gives
  unfoldable pub eval : Expr → State → Option ℕ
  eval (lit s k) z = literal s k
  eval (get p) z = value p z
  eval (par e) z = eval e z
  eval (un o e) z = bind (eval e z) λ k. some (un_value o (ty e) k)
  eval (bin o d e) z = operate o (ty d) (ty e) (eval d z) (eval e z)
  eval (or_line d e) z = operate bor (ty d) (ty e) (eval d z) (eval e z)
  eval (cast y e) z = bind (eval e z) λ k. some (convert (ty e) y k)
  eval (pick c d e) z =
      bind (eval c z) λ k.
      cond (eqb k 0)
      (bind (eval e z) λ l. some (convert (ty e) (common_type (ty d) (ty e)) l))
      (bind (eval d z) λ l. some (convert (ty d) (common_type (ty d) (ty e)) l))
  eval (ror d e) z =
      bind (eval d z) λ k.
      bind (eval e z) λ l.
      rorAnswer (convert (ty d) u32 k) (convert (ty e) u32 l)
  eval (read w e) z = bind (eval e z) λ k. some (load w z.mem (convert (ty e) u32 k))

  -- the same, converted to a type as in an assignment, an argument or a return
  unfoldable pub eval_as : Ty → Expr → State → Option ℕ
  unfolding eval
  eval_as y e z = bind (eval e z) λ k. some (convert (ty e) y k)
