-- What an expression of the text gives: a rule for each form.
use mathlib.Core.Path.{◌≡◌, refl, sym, ap, ap₂, ◌∙◌, subst}
use mathlib.Core.Bool.{Bool, true, false, cond}
use mathlib.Core.Option.{some}
use Prim.Native.Nat.{ℕ, zero, suc, ◌+◌, ◌-◌, ◌*◌, ◌/◌, ◌%◌, ◌^◌, ◌≤◌, ◌<◌}
use native.Mathlib.Nat.{mod-lt, mod-eq_of_lt, lt_of_le_of_lt, le_trans, div-one, mod-one, add-zero}
use native.Mathlib.Nat.{div-le_self}
use native.Mathlib.Omega.{arith}
use lib.Dec.{T, ltb, leb, eqb, eqb→eq, lit<, lit≤, lt→ltb, leb→le, le→leb, eqb-suc-zero}
use lib.Pow.{shr_lt, pow_mono}
use Rattle.base_words.specs.Word.{AND, OR, EOR, bit, one_if}
use Rattle.base_words.proofs.Bits.{and_lt, or_lt, xor_lt, and_mask, bit_num, is_true, bool_ext}
use Rattle.base_words.proofs.Bits.{turn}
use Rattle.c_tree.specs.Expr.{u32, word, udec, uhex, int, Var, reg, var, compl, add, sub, mul, shl}
use Rattle.c_tree.specs.Expr.{shr, band, bxor, bor, Expr, lit, get, par, un, bin, ror}
use Rattle.c_meaning.specs.State.{State, value}
use Rattle.c_meaning.specs.Eval.{ty, eval, eval_as}
use Rattle.c_meaning.specs.Exec.{exec, step, runs}
use Rattle.c_meaning.specs.Helpers.{called, rotated}
use Rattle.lower_forms.specs.Operands.{bit_of, shift_signed}
use Rattle.armv4t_manual.specs.Operators.{rotate_right, arithmetic_shift_right}

-- e is an unsigned int of 32 bits and gives x
pub record Reads (e : Expr) (z : State) (x : ℕ) : Type 0 where
  pub typed : ty e ≡ u32
  pub gives : eval rotated e z ≡ some x
  pub small : x < 4294967296

pub lt_true : {k l : ℕ} → k < l → ltb k l ≡ true
lt_true {k} {l} h = is_true (ltb k l) (lt→ltb k l h)

pub le_true : {k l : ℕ} → k ≤ l → leb k l ≡ true
le_true {k} {l} h = is_true (leb k l) (le→leb k l h)

-- the same, of another number
pub to : {e : Expr} {z : State} {x y : ℕ} → x ≡ y → Reads e z x → Reads e z y
to {e} {z} q p = subst (Reads e z) q p

int_lit : {k : ℕ} → k < 32 → ltb k 2147483648 ≡ true
int_lit {k} h = lt_true (le_trans h (lit≤ tt))

-- the sign of a pattern is its top bit
pub neg_bit : (x : ℕ) → x < 4294967296 → leb 2147483648 x ≡ bit x 31
neg_bit x h =
    bool_ext (leb 2147483648 x) (bit x 31)
    (λ p. subst (λ (k : ℕ). T (eqb k 1)) (sym (yes-one x h (leb→le 2147483648 x p))) tt)
    (λ p. le→leb 2147483648 x (back x (eqb→eq (x / 2147483648 % 2) 1 p)))
  where
    yes-one : (x : ℕ) → x < 4294967296 → 2147483648 ≤ x → x / 2147483648 % 2 ≡ 1
    yes-one x h p = omega arith

    back : (x : ℕ) → x / 2147483648 % 2 ≡ 1 → 2147483648 ≤ x
    back x p = omega arith

asr_cond : (b : Bool) (p q : ℕ) → cond b (p + q) p ≡ p + cond b q 0
asr_cond true p q = refl
asr_cond false p q = sym (add-zero p)

asr_small : (x k : ℕ) → x < 4294967296 → k < 32 → arithmetic_shift_right x k < 4294967296
asr_small x k h l = go (bit x 31)
  where
    sum : (u p : ℕ) → u < p → p ≤ 4294967296 → u + (4294967296 - p) < 4294967296
    sum u p a b = omega arith

    split : (k : ℕ) → k < 32 → (32 - k) + k ≡ 32
    split k l = omega arith

    part : x / 2 ^ k < 2 ^ (32 - k)
    part = shr_lt (32 - k) k (subst (λ (p : ℕ). x < 2 ^ p) (sym (split k l)) h)

    go : (b : Bool) → x / 2 ^ k + cond b (4294967296 - 2 ^ (32 - k)) 0 < 4294967296
    go true = sum (x / 2 ^ k) (2 ^ (32 - k)) part (pow_mono {i = 32 - k} {j = 32} (omega arith))
    go false = rw add-zero (lt_of_le_of_lt (div-le_self x (2 ^ k)) h)

module _ {z : State} where
  pub r_reg : (i : ℕ) {x : ℕ} → i ≤ 16 → z.c i ≡ x → x < 4294967296 → Reads (get (reg i)) z x
  unfolding eval
  r_reg i l q h = record { typed = refl; gives = rw (le_true l) (ap some q); small = h }

  pub r_udec : {k : ℕ} → k < 4294967296 → Reads (lit udec k) z k
  unfolding eval
  r_udec h = record { typed = refl; gives = rw (lt_true h); small = h }

  pub r_uhex : {k : ℕ} → k < 4294967296 → Reads (lit uhex k) z k
  unfolding eval
  r_uhex h = record { typed = refl; gives = rw (lt_true h); small = h }

  pub r_word : {k : ℕ} → k < 4294967296 → Reads (lit word k) z k
  unfolding eval
  r_word h = record { typed = refl; gives = rw (lt_true h); small = h }

  pub r_var : (v : Var) {x : ℕ} → v.0 ≡ u32 → value (var v) z ≡ some x → x < 4294967296
      → Reads (get (var v)) z x
  unfolding eval
  r_var v t q h = record { typed = t; gives = q; small = h }

  pub r_par : {e : Expr} {x : ℕ} → Reads e z x → Reads (par e) z x
  unfolding eval
  r_par p = record { typed = p.typed; gives = p.gives; small = p.small }

  pub r_not : {e : Expr} {x : ℕ} → Reads e z x → Reads (un compl e) z (4294967295 - x)
  unfolding eval
  r_not {x = x} p =
      record { typed = rw p.typed; gives = rw (p.gives, p.typed); small = omega arith }

  module _ {d e : Expr} {x y : ℕ} (p : Reads d z x) (q : Reads e z y) where
    pub r_and : Reads (bin band d e) z (AND x y)
    unfolding eval
    r_and =
        record {
          typed = rw (p.typed, q.typed);
          gives = rw (p.gives, q.gives, p.typed, q.typed);
          small = and_lt 32 x y p.small q.small;
        }

    pub r_or : Reads (bin bor d e) z (OR x y)
    unfolding eval
    r_or =
        record {
          typed = rw (p.typed, q.typed);
          gives = rw (p.gives, q.gives, p.typed, q.typed);
          small = or_lt 32 x y p.small q.small;
        }

    pub r_xor : Reads (bin bxor d e) z (EOR x y)
    unfolding eval
    r_xor =
        record {
          typed = rw (p.typed, q.typed);
          gives = rw (p.gives, q.gives, p.typed, q.typed);
          small = xor_lt 32 x y p.small q.small;
        }

    pub r_add : Reads (bin add d e) z ((x + y) % 4294967296)
    unfolding eval
    r_add =
        record {
          typed = rw (p.typed, q.typed);
          gives = rw (p.gives, q.gives, p.typed, q.typed);
          small = mod-lt (x + y) (lit< tt);
        }

    pub r_sub : Reads (bin sub d e) z ((x + (4294967296 - y)) % 4294967296)
    unfolding eval
    r_sub =
        record {
          typed = rw (p.typed, q.typed);
          gives = rw (p.gives, q.gives, p.typed, q.typed);
          small = mod-lt (x + (4294967296 - y)) (lit< tt);
        }

    pub r_mul : Reads (bin mul d e) z (x * y % 4294967296)
    unfolding eval
    r_mul =
        record {
          typed = rw (p.typed, q.typed);
          gives = rw (p.gives, q.gives, p.typed, q.typed);
          small = mod-lt (x * y) (lit< tt);
        }

    pub r_shl : y < 32 → Reads (bin shl d e) z (x * 2 ^ y % 4294967296)
    unfolding eval
    r_shl h =
        record {
          typed = rw p.typed;
          gives = rw (p.gives, q.gives, p.typed, q.typed, lt_true h);
          small = mod-lt (x * 2 ^ y) (lit< tt);
        }

    pub r_shr : y < 32 → Reads (bin shr d e) z (x / 2 ^ y)
    unfolding eval
    r_shr h =
        record {
          typed = rw p.typed;
          gives = rw (p.gives, q.gives, p.typed, q.typed, lt_true h);
          small = lt_of_le_of_lt (div-le_self x (2 ^ y)) p.small;
        }

  module _ {e : Expr} {x : ℕ} (p : Reads e z x) (k : ℕ) (h : k < 32) where
    -- a count written without u is an int: it decides nothing of the type
    pub r_shr_int : Reads (bin shr e (lit int k)) z (x / 2 ^ k)
    unfolding eval
    r_shr_int =
        record {
          typed = rw p.typed;
          gives = rw (p.gives, int_lit h, p.typed, lt_true h);
          small = lt_of_le_of_lt (div-le_self x (2 ^ k)) p.small;
        }

    pub r_shl_int : Reads (bin shl e (lit int k)) z (x * 2 ^ k % 4294967296)
    unfolding eval
    r_shl_int =
        record {
          typed = rw p.typed;
          gives = rw (p.gives, int_lit h, p.typed, lt_true h);
          small = mod-lt (x * 2 ^ k) (lit< tt);
        }

    -- ((e >> ku) & 1u)
    pub r_bit : Reads (bit_of e k) z (one_if (bit x k))
    r_bit =
        to (and_mask (x / 2 ^ k) 1 ∙ sym (bit_num x k))
        (r_par (r_and (r_par (r_shr p (r_udec (le_trans h (lit≤ tt))) h)) (r_udec (lit< tt))))

    -- ((uint32_t)((int32_t)e >> k))
    pub r_asr : Reads (shift_signed e k) z (arithmetic_shift_right x k)
    unfolding eval
    r_asr =
        record {
          typed = refl;
          gives =
              rw (p.gives, int_lit h, p.typed, lt_true h, neg_bit x p.small)
              (ap some (asr_cond (bit x 31) (x / 2 ^ k) (4294967296 - 2 ^ (32 - k))));
          small = asr_small x k p.small h;
        }

-- ror32
pub rotate_none : (x : ℕ) → rotate_right x 0 ≡ x
rotate_none x = ap₂ (λ (p q : ℕ). p + q * 4294967296) (div-one x) (mod-one x) ∙ add-zero x

rotate_small : (x k : ℕ) → x < 4294967296 → k < 32 → rotate_right x k < 4294967296
rotate_small x k h l =
    subst (λ (p : ℕ). p < 4294967296) (turn x k h (omega arith))
    (or_lt 32 (x / 2 ^ k) (x * 2 ^ (32 - k) % 4294967296) (lt_of_le_of_lt (div-le_self x (2 ^ k)) h)
    (mod-lt (x * 2 ^ (32 - k)) (lit< tt)))

pub ror_ok : (x k : ℕ) → x < 4294967296 → k < 32 → rotated x k ≡ some (rotate_right x k)
unfolding rotated called runs step exec eval_as eval AND
ror_ok x zero hx h = ap some (sym (rotate_none x))
ror_ok x (suc j) hx h =
    rw (and_mask (suc j) 5, mod-eq_of_lt h, eqb-suc-zero j, lt_true h, rest j h, lt_true (less j h))
    (ap some (turn x (suc j) hx (under j h)))
  where
    rest : (j : ℕ) → suc j < 32 → (32 + (4294967296 - suc j)) % 4294967296 ≡ 32 - suc j
    rest j h = omega arith

    less : (j : ℕ) → suc j < 32 → 32 - suc j < 32
    less j h = omega arith

    under : (j : ℕ) → suc j < 32 → suc j ≤ 32
    under j h = omega arith

pub r_ror : {z : State} {d e : Expr} {x k : ℕ} → Reads d z x → Reads e z k → k < 32
    → Reads (ror d e) z (rotate_right x k)
unfolding eval
r_ror {x = x} {k = k} p q h =
    record {
      typed = refl;
      gives = rw (p.gives, q.gives, p.typed, q.typed) (ror_ok x k p.small h);
      small = rotate_small x k p.small h;
    }
