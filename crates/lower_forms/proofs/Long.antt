-- UMULL, UMLAL, SMULL and SMLAL: what a MulLong is lowered to does what the manual says.
use mathlib.Core.Path.{◌≡◌, refl, sym, ap, ◌∙◌, subst}
use mathlib.Core.Bool.{Bool, true, false, ◌&&◌, cond, beq}
use mathlib.Core.List.{List, [], ◌∷◌, ◌++◌}
use mathlib.Core.Option.{Option, none, some}
use Prim.Native.Nat.{ℕ, ◌+◌, ◌-◌, ◌*◌, ◌/◌, ◌%◌, ◌≤◌, ◌<◌}
use native.Mathlib.Nat.{mod-lt, mod-eq_of_lt, mul-le-mul, lt_of_le_of_lt, add-zero, mod-mod}
use native.Mathlib.Omega.{arith}
use lib.Dec.{T, eqb, leb, ltb, eqb→eq, lit<, le→leb, leb→le, ltb→lt}
use lib.Pow.{mod-mod-pow, field}
use Rattle.base_words.specs.Word.{OR, bit, one_if}
use Rattle.base_words.proofs.Bits.{or_shifted, is_true, is_false, bool_ext, both_l, both_r}
use Rattle.c_tree.specs.Expr.{Ty, u32, u64, int, mul, shl, shr, bor, x-r, reg, var, Expr, lit, get}
use Rattle.c_tree.specs.Expr.{par, bin, cast}
use Rattle.c_tree.specs.Stmt.{plus, f-nz64, declare, set, run, proc}
use Rattle.c_meaning.specs.State.{State, Scope, empty, bind, update, value, set_c, enter}
use Rattle.c_meaning.specs.Eval.{ty, eval, eval_as}
use Rattle.c_meaning.specs.Exec.{on, exec, others}
use Rattle.c_meaning.specs.Helpers.{called, rotated}
use Rattle.lower_forms.specs.InlineBody.{list_if, set_reg, widened, r64, mul_long_body}
use Rattle.armv4t_manual.specs.Machine.{Machine, set_flags, Sound}
use Rattle.armv4t_manual.specs.Machine as M
use Rattle.armv4t_manual.specs.Operators.{CarryFrom}
use Rattle.armv4t_manual.specs.Multiply.{absolute, product, multiply_long}
use Rattle.lower_forms.specs.Agree.{Agrees}
use Rattle.lower_forms.specs.Means.{Makes}
use Rattle.lower_forms.proofs.Flags.{nz64_ok}
use Rattle.lower_forms.proofs.Gives.{Reads, neg_bit}
use Rattle.lower_forms.proofs.Multiply.{reg_reads}
use Rattle.lower_forms.proofs.Steps.{exec1, step, stop, within, do_reg, with_scopes}
use Rattle.lower_forms.proofs.Steps.{with_reg, with_flags}

-- e has the type y and gives the pattern x
pub record Is (y : Ty) (e : Expr) (z : State) (x : ℕ) : Type 0 where
  pub typed : ty e ≡ y
  pub gives : eval rotated e z ≡ some x

module _ (x : ℕ) (h : x < 4294967296) where
  private_neg : (b : Bool) → bit x 31 ≡ b
      → leb 9223372036854775808 (cond b (x + 18446744069414584320) x) ≡ b
  private_neg true q =
      is_true _ (le→leb 9223372036854775808 (x + 18446744069414584320) (omega arith))
  private_neg false q = is_false _ λ t. clash (leb→le 9223372036854775808 x t)
    where
      clash : 9223372036854775808 ≤ x → ⊥
      clash l = omega arith

  ext_neg : leb 9223372036854775808 (cond (bit x 31) (x + 18446744069414584320) x) ≡ bit x 31
  ext_neg = private_neg (bit x 31) refl

  ext_size : (b : Bool)
      → cond b (18446744073709551616 - cond b (x + 18446744069414584320) x)
      (cond b (x + 18446744069414584320) x) ≡ cond b (4294967296 - x) x
  ext_size true = omega arith
  ext_size false = refl

  size_le : absolute x ≤ 2147483648
  size_le = go (bit x 31) (neg_bit x h)
    where
      go : (b : Bool) → leb 2147483648 x ≡ b → cond b (4294967296 - x) x ≤ 2147483648
      go true q = top (leb→le 2147483648 x (subst T (sym q) tt))
        where
          top : 2147483648 ≤ x → 4294967296 - x ≤ 2147483648
          top l = omega arith
      go false q = bottom λ l. subst T q (le→leb 2147483648 x l)
        where
          bottom : ¬ (2147483648 ≤ x) → x ≤ 2147483648
          bottom l = omega arith

either : (b : Bool) (m n : ℕ)
    → ◌≡◌ {A = Option ℕ} (bind (cond b (some m) (some n)) (λ k. some k)) (some (cond b m n))
either true m n = refl
either false m n = refl

sized : (x y : ℕ) → x < 4294967296 → y < 4294967296 → absolute x * absolute y ≤ 4611686018427387904
sized x y hx hy = mul-le-mul (size_le x hx) (size_le y hy)

plain_lt : (x y : ℕ) → x < 4294967296 → y < 4294967296 → x * y < 18446744073709551616
plain_lt x y hx hy =
    lt_of_le_of_lt
    (mul-le-mul {n₁ = x} {m₁ = y} {n₂ = 4294967295} {m₂ = 4294967295} (omega arith) (omega arith))
    (lit< tt)

product_lt : (sig : Bool) (x y : ℕ) → x < 4294967296 → y < 4294967296
    → product sig x y < 18446744073709551616
product_lt false x y hx hy = plain_lt x y hx hy
product_lt true x y hx hy = go (beq (bit x 31) (bit y 31))
  where
    go : (b : Bool)
        → cond b (absolute x * absolute y)
        ((18446744073709551616 - absolute x * absolute y) % 18446744073709551616)
        < 18446744073709551616
    go true = lt_of_le_of_lt (sized x y hx hy) (lit< tt)
    go false = mod-lt (18446744073709551616 - absolute x * absolute y) (lit< tt)

-- the product of two signed words fits 64 bits, whatever its sign
fits : (k : ℕ) → k ≤ 4611686018427387904 → leb 9223372036854775808 k ≡ false
fits k h = is_false _ λ t. clash k h (leb→le 9223372036854775808 k t)
  where
    clash : (k : ℕ) → k ≤ 4611686018427387904 → 9223372036854775808 ≤ k → ⊥
    clash k h l = omega arith

fits_below : (k : ℕ) → k ≤ 4611686018427387904 → ltb 9223372036854775808 k ≡ false
fits_below k h = is_false _ λ t. clash k h (ltb→lt 9223372036854775808 k t)
  where
    clash : (k : ℕ) → k ≤ 4611686018427387904 → 9223372036854775808 < k → ⊥
    clash k h l = omega arith

module _ {z : State} {d e : Expr} {x y : ℕ} (p : Reads d z x) (q : Reads e z y) where
  -- (uint64_t)(wide d * wide e)
  product_is : (sig : Bool)
      → Is u64 (cast u64 (par (bin mul (widened sig d) (widened sig e)))) z (product sig x y)
  unfolding eval
  product_is false =
      record {
        typed = refl;
        gives =
            rw (p.gives, q.gives, p.typed, q.typed)
            (ap some (mod-eq_of_lt (plain_lt x y p.small q.small)));
      }
  product_is true =
      record {
        typed = refl;
        gives = rw (
          p.gives,
          q.gives,
          p.typed,
          q.typed,
          neg_bit x p.small,
          neg_bit y q.small,
          ext_neg x p.small,
          ext_neg y q.small,
          ext_size x p.small (bit x 31),
          ext_size y q.small (bit y 31),
          fits (absolute x * absolute y) (sized x y p.small q.small),
          fits_below (absolute x * absolute y) (sized x y p.small q.small),
        )
            (either (beq (bit x 31) (bit y 31)) (absolute x * absolute y)
            ((18446744073709551616 - absolute x * absolute y) % 18446744073709551616));
      }

  -- ((uint64_t)d << 32) | (uint64_t)e
  pair_is : Is u64 (bin bor (par (bin shl (cast u64 d) (lit int 32))) (cast u64 e)) z
      (x * 4294967296 + y)
  unfolding eval
  pair_is = record {
    typed = refl;
    gives =
        rw (p.gives, q.gives, p.typed, q.typed)
        (ap some
        (ap (λ (k : ℕ). OR k y) (mod-eq_of_lt (up x p.small)) ∙ or_shifted x 32 y q.small));
  }
    where
      up : (x : ℕ) → x < 4294967296 → x * 4294967296 < 18446744073709551616
      up x h = omega arith

-- a scope with r declared, without a value and with one
abbrev opened64 : Scope
opened64 = update 0 (some (u64, none)) empty

abbrev given64 : ℕ → Scope
given64 x = update 0 (some (u64, some x)) opened64

-- uint64_t r = e;
do_declare64 : (fs : List Scope) (z : State) {e : Expr} {x : ℕ} → Is u64 e (within opened64 fs z) x
    → exec1 (declare (u64, x-r) e []) (within empty fs z) ≡ some (within (given64 x) fs z)
unfolding exec others eval_as
do_declare64 fs z p = rw (p.gives, p.typed)

-- r += e;
do_plus64 : (f : Scope) (fs : List Scope) (z : State) {e : Expr} {x y : ℕ}
    → f 0 ≡ some (u64, some y) → Is u64 e (within f fs z) x
    → exec1 (set (var (u64, x-r)) plus e) (within f fs z)
    ≡ some (within (update 0 (some (u64, some ((y + x) % 18446744073709551616))) f) fs z)
unfolding exec
do_plus64 f fs z q p = rw (p.gives, q, p.typed)

-- f_nz64(c, e);
do_nz64 : {z : State} {e : Expr} {x : ℕ} → Is u64 e z x → {y : State}
    → called (proc f-nz64) (x ∷ []) z ≡ some (y, on) → exec1 (run f-nz64 e) z ≡ some y
unfolding exec eval_as
do_nz64 p q = rw (p.gives, p.typed, q)

-- r, (uint32_t)r and (uint32_t)(r >> 32)
module _ {z : State} {x : ℕ} (q : value (var (u64, x-r)) z ≡ some x) where
  r_is : Is u64 r64 z x
  unfolding eval
  r_is = record { typed = refl; gives = q }

  low_reads : Reads (cast u32 r64) z (x % 4294967296)
  unfolding eval
  low_reads = record { typed = refl; gives = rw q; small = mod-lt x (lit< tt) }

  high_reads : Reads (cast u32 (par (bin shr r64 (lit int 32)))) z (x / 4294967296 % 4294967296)
  unfolding eval
  high_reads = record { typed = refl; gives = rw q; small = mod-lt (x / 4294967296) (lit< tt) }

-- the halves of a sum of 64 bits
module _ (p h l : ℕ) (hp : p < 18446744073709551616) (hh : h < 4294967296) (hl : l < 4294967296)
  where
    sum_low : (p + (h * 4294967296 + l)) % 18446744073709551616 % 4294967296
        ≡ (p % 4294967296 + l) % 4294967296
    sum_low = mod-mod-pow (p + (h * 4294967296 + l)) 32 32 ∙ go
      where
        go : (p + (h * 4294967296 + l)) % 4294967296 ≡ (p % 4294967296 + l) % 4294967296
        go = omega arith

    sum-high : (p + (h * 4294967296 + l)) % 18446744073709551616 / 4294967296 % 4294967296
        ≡ (p / 4294967296 + h + one_if (CarryFrom (p % 4294967296 + l))) % 4294967296
    sum-high =
        ap (λ (k : ℕ). k % 4294967296) (field (p + (h * 4294967296 + l)) 32 32)
        ∙ mod-mod ((p + (h * 4294967296 + l)) / 4294967296) 4294967296
        ∙ ap (λ (k : ℕ). k % 4294967296) (go (leb 4294967296 (p % 4294967296 + l)) refl)
      where
        go : (b : Bool) → leb 4294967296 (p % 4294967296 + l) ≡ b
            → (p + (h * 4294967296 + l)) / 4294967296 ≡ p / 4294967296 + h + one_if b
        go true q = over (leb→le 4294967296 (p % 4294967296 + l) (subst T (sym q) tt))
          where
            over : 4294967296 ≤ p % 4294967296 + l
                → (p + (h * 4294967296 + l)) / 4294967296 ≡ p / 4294967296 + h + 1
            over k = omega arith
        go false q = under λ k. subst T q (le→leb 4294967296 (p % 4294967296 + l) k)
          where
            under : ¬ (4294967296 ≤ p % 4294967296 + l)
                → (p + (h * 4294967296 + l)) / 4294967296 ≡ p / 4294967296 + h + 0
            under k = omega arith

-- r is 0 exactly if both halves are
zero_halves : (r : ℕ) → r < 18446744073709551616
    → eqb r 0 ≡ (eqb (r / 4294967296 % 4294967296) 0 && eqb (r % 4294967296) 0)
zero_halves r hr =
    bool_ext (eqb r 0) (eqb (r / 4294967296 % 4294967296) 0 && eqb (r % 4294967296) 0)
    (λ t. subst (λ (k : ℕ). T (eqb (k / 4294967296 % 4294967296) 0 && eqb (k % 4294967296) 0))
    (sym (eqb→eq r 0 t)) tt)
    (λ t. subst (λ (k : ℕ). T (eqb k 0))
    (sym (nought
    (eqb→eq (r / 4294967296 % 4294967296) 0
    (both_l (eqb (r / 4294967296 % 4294967296) 0) (eqb (r % 4294967296) 0) t))
    (eqb→eq (r % 4294967296) 0
    (both_r (eqb (r / 4294967296 % 4294967296) 0) (eqb (r % 4294967296) 0) t)))) tt)
  where
    nought : r / 4294967296 % 4294967296 ≡ 0 → r % 4294967296 ≡ 0 → r ≡ 0
    nought p q = omega arith

module _ {z : State} {m : Machine} (s : Sound m) (a : Agrees z m) (rh rl rs rm : ℕ) (hh : rh < 15)
    (hl : rl < 15) (hs : rs < 15) (hm : rm < 15) where
  -- the stores and the flags, from r
  long_end : (w : Bool) (u : State) (r h l : ℕ) → Agrees u m → value (var (u64, x-r)) u ≡ some r
      → r < 18446744073709551616 → r / 4294967296 % 4294967296 ≡ h → r % 4294967296 ≡ l
      → Makes (set_reg rl (cast u32 r64) ∷ set_reg rh (cast u32 (par (bin shr r64 (lit int 32))))
      ∷ list_if w (run f-nz64 r64)) u
      (M.set_reg rh h
      (M.set_reg rl l (cond w (set_flags (bit h 31) (eqb h 0 && eqb l 0) m.c m.v m) m)))
  long_end false u r h l b q k eh el =
      rw (← eh, ← el)
      (step (do_reg (low_reads q) rl (omega (arith, hl)))
      (step (do_reg (high_reads q) rh (omega (arith, hh)))
      (stop (with_reg (with_reg b rl (r % 4294967296) hl) rh (r / 4294967296 % 4294967296)
      hh))))
  long_end true u r h l b q k eh el =
      let b2 = with_reg (with_reg b rl (r % 4294967296) hl) rh (r / 4294967296 % 4294967296) hh in
      rw (← eh, ← el, ← zero_halves r k)
      (step (do_reg (low_reads q) rl (omega (arith, hl)))
      (step (do_reg (high_reads q) rh (omega (arith, hh)))
      (step (do_nz64 (r_is q)
      (nz64_ok m.other_bits s.other_bits m.n m.z m.c m.v r
      (set_c rh (r / 4294967296 % 4294967296) (set_c rl (r % 4294967296) u)) b2.flags))
      (stop (with_flags b2 (bit (r / 4294967296 % 4294967296) 31) (eqb r 0) m.c m.v)))))

  pub multiply_long_ok : (sig acc w : Bool)
      → Makes (mul_long_body sig acc w rh rl rs rm) (enter z) (multiply_long sig acc w rh rl rs rm m)
  multiply_long_ok sig acc w =
      step (do_declare64 z.scopes z (product_is (at opened64 rm hm) (at opened64 rs hs) sig))
      (go acc)
    where
      at : (f : Scope) (r : ℕ) → r < 15 → Reads (get (reg r)) (within f z.scopes z) (m.r r)
      at f r h = reg_reads {z = within f z.scopes z} s (with_scopes a _) r h

      p : ℕ
      p = product sig (m.r rm) (m.r rs)

      lt : p < 18446744073709551616
      lt = product_lt sig (m.r rm) (m.r rs) (s.words rm hm) (s.words rs hs)

      go : (c : Bool)
          → Makes (list_if c
          (set (var (u64, x-r)) plus
          (bin bor (par (bin shl (cast u64 (get (reg rh))) (lit int 32)))
          (cast u64 (get (reg rl)))))
          ++ (set_reg rl (cast u32 r64) ∷ set_reg rh (cast u32 (par (bin shr r64 (lit int 32))))
          ∷ list_if w (run f-nz64 r64))) (within (given64 p) z.scopes z)
          (let l = (p % 4294967296 + cond c (m.r rl) 0) % 4294967296 in
          let h =
          (p / 4294967296 + cond c (m.r rh) 0 + one_if
          (CarryFrom (p % 4294967296 + cond c (m.r rl) 0))) % 4294967296 in
          M.set_reg rh h
          (M.set_reg rl l (cond w (set_flags (bit h 31) (eqb h 0 && eqb l 0) m.c m.v m) m)))
      go false =
          let e : (p + 0) % 18446744073709551616 ≡ p =
          ap (λ (k : ℕ). k % 18446744073709551616) (add-zero p) ∙ mod-eq_of_lt lt in
          long_end w (within (given64 p) z.scopes z) p _ _ (with_scopes a _) refl lt
          (rw e at (sum-high p 0 0 lt (lit< tt) (lit< tt)))
          (rw e at (sum_low p 0 0 lt (lit< tt) (lit< tt)))
      go true =
          let r : ℕ = (p + (m.r rh * 4294967296 + m.r rl)) % 18446744073709551616 in
          step (do_plus64 (given64 p) z.scopes z refl
          (pair_is (at (given64 p) rh hh) (at (given64 p) rl hl)))
          (long_end w (within (update 0 (some (u64, some r)) (given64 p)) z.scopes z) r _ _
          (with_scopes a _) refl (mod-lt (p + (m.r rh * 4294967296 + m.r rl)) (lit< tt))
          (sum-high p (m.r rh) (m.r rl) lt (s.words rh hh) (s.words rl hl))
          (sum_low p (m.r rh) (m.r rl) lt (s.words rh hh) (s.words rl hl)))
