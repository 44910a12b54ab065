-- What PREAMBLE's functions that set flags make of the status register.
use mathlib.Core.Path.{◌≡◌, refl, sym, ap, ap₂, ◌∙◌, subst}
use mathlib.Core.Logic.{◌≢◌}
use mathlib.Core.Bool.{Bool, true, false, not, ◌&&◌, cond, beq}
use mathlib.Core.List.{[], ◌∷◌}
use mathlib.Core.Option.{Option, some}
use Prim.Native.Nat.{ℕ, ◌+◌, ◌-◌, ◌*◌, ◌/◌, ◌%◌, ◌^◌, ◌≤◌, ◌<◌}
use native.Mathlib.Omega.{arith}
use lib.Dec.{T, leb, eqb, eqb→eq, le→leb, leb→le, T_not, not_T}
use Rattle.base_words.specs.Word.{AND, OR, EOR, bit, one_if}
use Rattle.base_words.proofs.Bits.{and_top, or_top, and_zero_r, and_shr, xor_shr, xor_lt, sign_top}
use Rattle.base_words.proofs.Bits.{top_bit, not_top, bool_ext, both_l, both_r}
use Rattle.c_tree.specs.Stmt.{f-nz, f-c, f-nz64, op-adds, proc}
use Rattle.c_meaning.specs.State.{State, set_c}
use Rattle.c_meaning.specs.Eval.{eval, eval_as}
use Rattle.c_meaning.specs.Exec.{on, back, exec, others, step, runs}
use Rattle.c_meaning.specs.Helpers.{called}
use Rattle.armv4t_manual.specs.Machine.{pack}
use Rattle.armv4t_manual.specs.Operators.{CarryFrom, OverflowFromAdd}

-- a statement on Booleans, by trying them all
abbrev every : (Bool → Bool) → Bool
every p = p true && p false

every_at : (p : Bool → Bool) → T (every p) → (b : Bool) → T (p b)
every_at p h true = both_l (p true) (p false) h
every_at p h false = both_r (p true) (p false) h

-- the flags as a number below 16
unfoldable pub nib : Bool → Bool → Bool → Bool → ℕ
nib n z c v = one_if n * 8 + one_if z * 4 + one_if c * 2 + one_if v

module _ (p q : Bool → Bool → Bool → Bool → Bool → Bool → ℕ) where
  same6 : Bool → Bool → Bool → Bool → Bool → Bool → Bool
  same6 n z c v x y = eqb (p n z c v x y) (q n z c v x y)

  all6 : Bool
  all6 = every λ n. every λ z. every λ c. every λ v. every λ x. every λ y. same6 n z c v x y

  by6 : T all6 → (n z c v x y : Bool) → p n z c v x y ≡ q n z c v x y
  unfolding same6 all6
  by6 h n z c v x y =
      eqb→eq (p n z c v x y) (q n z c v x y)
      (every_at (λ y. same6 n z c v x y)
      (every_at (λ x. every λ y. same6 n z c v x y)
      (every_at (λ v. every λ x. every λ y. same6 n z c v x y)
      (every_at (λ c. every λ v. every λ x. every λ y. same6 n z c v x y)
      (every_at (λ z. every λ c. every λ v. every λ x. every λ y. same6 n z c v x y)
      (every_at (λ n. every λ z. every λ c. every λ v. every λ x. every λ y. same6 n z c v x y) h n)
      z) c) v) x) y)

nz_nib : (n z c v x y : Bool)
    → OR (OR (AND (nib n z c v) 3) (one_if x * 8)) (one_if y * 4) ≡ nib x y c v
unfolding nib same6 all6 AND OR
nz_nib =
    by6 (λ n z c v x y. OR (OR (AND (nib n z c v) 3) (one_if x * 8)) (one_if y * 4))
    (λ n z c v x y. nib x y c v) tt

c_nib : (n z c v x : Bool) → OR (AND (nib n z c v) 13) (one_if x * 2) ≡ nib n z x v
unfolding nib same6 all6 AND OR
c_nib n z c v x =
    by6 (λ n z c v x y. OR (AND (nib n z c v) 13) (one_if x * 2)) (λ n z c v x y. nib n z x v) tt n z
    c v x x

module _ (low : ℕ) (h : low < 2 ^ 28) where
  pub nz_word : (n z c v y : Bool) (x : ℕ)
      → OR (OR (AND (pack n z c v low) 0x3FFFFFFF) (AND x 0x80000000)) (one_if y * 4 * 2 ^ 28)
      ≡ pack (bit x 31) y c v low
  unfolding nib
  nz_word n z c v y x =
      ap₂ (λ (p q : ℕ). OR (OR p q) (one_if y * 4 * 2 ^ 28)) (and_top (nib n z c v) 3 low h)
      (sign_top x)
      ∙ ap (λ (p : ℕ). OR p (one_if y * 4 * 2 ^ 28))
      (or_top (AND (nib n z c v) 3) (one_if (bit x 31) * 8) low h)
      ∙ or_top (OR (AND (nib n z c v) 3) (one_if (bit x 31) * 8)) (one_if y * 4) low h
      ∙ ap (λ (p : ℕ). p * 2 ^ 28 + low) (nz_nib n z c v (bit x 31) y)

  pub c_word : (n z c v x : Bool)
      → OR (AND (pack n z c v low) 0xDFFFFFFF) (one_if x * 2 * 2 ^ 28) ≡ pack n z x v low
  unfolding nib
  c_word n z c v x =
      ap (λ (p : ℕ). OR p (one_if x * 2 * 2 ^ 28)) (and_top (nib n z c v) 13 low h)
      ∙ or_top (AND (nib n z c v) 13) (one_if x * 2) low h
      ∙ ap (λ (p : ℕ). p * 2 ^ 28 + low) (c_nib n z c v x)

  -- f_nz(c, x)
  pub nz_ok : (n z c v : Bool) (x : ℕ) (s : State) → s.c 16 ≡ pack n z c v low
      → called (proc f-nz) (x ∷ []) s ≡ some (set_c 16 (pack (bit x 31) (eqb x 0) c v low) s, on)
  unfolding called runs step exec eval_as eval
  nz_ok n z c v x s e = go (eqb x 0) refl
    where
      go : (y : Bool) → eqb x 0 ≡ y
          → called (proc f-nz) (x ∷ []) s ≡ some (set_c 16 (pack (bit x 31) (eqb x 0) c v low) s, on)
      go true q = rw (q, e, ← nz_word n z c v true x)
      go false q = rw (q, e, ← nz_word n z c v false x)

  -- f_nz64(c, x)
  pub nz64_ok : (n z c v : Bool) (x : ℕ) (s : State) → s.c 16 ≡ pack n z c v low
      → called (proc f-nz64) (x ∷ []) s
      ≡ some (set_c 16 (pack (bit (x / 2 ^ 32 % 2 ^ 32) 31) (eqb x 0) c v low) s, on)
  unfolding called runs step exec eval_as eval
  nz64_ok n z c v x s e = go (eqb x 0) refl
    where
      go : (y : Bool) → eqb x 0 ≡ y
          → called (proc f-nz64) (x ∷ []) s
          ≡ some (set_c 16 (pack (bit (x / 2 ^ 32 % 2 ^ 32) 31) (eqb x 0) c v low) s, on)
      go true q = rw (q, e, ← nz_word n z c v true (x / 2 ^ 32 % 2 ^ 32))
      go false q = rw (q, e, ← nz_word n z c v false (x / 2 ^ 32 % 2 ^ 32))

  -- f_c(c, x)
  pub c_ok : (n z c v : Bool) (x : ℕ) (s : State) → s.c 16 ≡ pack n z c v low
      → called (proc f-c) (x ∷ []) s ≡ some (set_c 16 (pack n z (not (eqb x 0)) v low) s, on)
  unfolding called runs step exec eval_as eval
  c_ok n z c v x s e = go (eqb x 0) refl
    where
      go : (y : Bool) → eqb x 0 ≡ y
          → called (proc f-c) (x ∷ []) s ≡ some (set_c 16 (pack n z (not (eqb x 0)) v low) s, on)
      go true q = rw (q, e, ← c_word n z c v false)
      go false q = rw (q, e, ← c_word n z c v true)

-- op_adds
adds_nib : (n z c v : Bool)
    → OR (OR (OR (OR 0 (one_if n * 8)) (one_if z * 4)) (one_if c * 2)) (one_if v) ≡ nib n z c v
unfolding nib same6 all6 AND OR
adds_nib n z c v =
    by6 (λ n z c v x y. OR (OR (OR (OR 0 (one_if n * 8)) (one_if z * 4)) (one_if c * 2)) (one_if v))
    (λ n z c v x y. nib n z c v) tt n z c v v v

module _ (low : ℕ) (h : low < 2 ^ 28) where
  pub adds_word : (n z c v : Bool) (x : ℕ) (zf cf vf : Bool)
      → OR (OR
      (OR (OR (AND (pack n z c v low) 0x0FFFFFFF) (AND x 0x80000000)) (one_if zf * 4 * 2 ^ 28))
      (one_if cf * 2 * 2 ^ 28)) (one_if vf * 2 ^ 28)
      ≡ pack (bit x 31) zf cf vf low
  unfolding nib
  adds_word n z c v x zf cf vf =
      ap₂ (λ (p q : ℕ). OR (OR (OR (OR p q) (one_if zf * 4 * 2 ^ 28)) (one_if cf * 2 * 2 ^ 28))
      (one_if vf * 2 ^ 28))
      (and_top (nib n z c v) 0 low h ∙ ap (λ (p : ℕ). p * 2 ^ 28 + low) (and_zero_r (nib n z c v)))
      (sign_top x)
      ∙ ap (λ (p : ℕ). OR (OR (OR p (one_if zf * 4 * 2 ^ 28)) (one_if cf * 2 * 2 ^ 28))
      (one_if vf * 2 ^ 28)) (or_top 0 (one_if (bit x 31) * 8) low h)
      ∙ ap (λ (p : ℕ). OR (OR p (one_if cf * 2 * 2 ^ 28)) (one_if vf * 2 ^ 28))
      (or_top (OR 0 (one_if (bit x 31) * 8)) (one_if zf * 4) low h)
      ∙ ap (λ (p : ℕ). OR p (one_if vf * 2 ^ 28))
      (or_top (OR (OR 0 (one_if (bit x 31) * 8)) (one_if zf * 4)) (one_if cf * 2) low h)
      ∙ or_top (OR (OR (OR 0 (one_if (bit x 31) * 8)) (one_if zf * 4)) (one_if cf * 2)) (one_if vf) low
      h
      ∙ ap (λ (p : ℕ). p * 2 ^ 28 + low) (adds_nib (bit x 31) zf cf vf)

-- the sum of 64 bits loses nothing
wide_sum : (x y i : ℕ) → x < 4294967296 → y < 4294967296 → i < 2
    → ((x + y) % 18446744073709551616 + i) % 18446744073709551616 ≡ x + y + i
wide_sum x y i hx hy hi = omega arith

carry_test : (s : ℕ) → not (eqb (s / 4294967296) 0) ≡ leb 4294967296 s
carry_test s =
    bool_ext (not (eqb (s / 4294967296) 0)) (leb 4294967296 s)
    (λ p. le→leb 4294967296 s
    (big (s / 4294967296) s refl λ q. T_not (eqb (s / 4294967296) 0) p
    (subst (λ (k : ℕ). T (eqb k 0)) (sym q) tt)))
    (λ p. not_T (eqb (s / 4294967296) 0) λ q. small s (leb→le 4294967296 s p)
    (eqb→eq (s / 4294967296) 0 q))
  where
    big : (k s : ℕ) → k ≡ s / 4294967296 → (k ≢ 0) → 4294967296 ≤ s
    big k s e q = omega arith

    small : (s : ℕ) → 4294967296 ≤ s → s / 4294967296 ≡ 0 → ⊥
    small s p q = omega arith

over_bits : (x y s : Bool)
    → not (eqb (AND (AND (1 - EOR (one_if x) (one_if y)) (EOR (one_if x) (one_if s))) 1) 0)
    ≡ (beq x y && not (beq x s))
unfolding AND EOR
over_bits true true true = refl
over_bits true true false = refl
over_bits true false true = refl
over_bits true false false = refl
over_bits false true true = refl
over_bits false true false = refl
over_bits false false true = refl
over_bits false false false = refl

over_test : (x y s : ℕ) → x < 4294967296 → y < 4294967296 → s < 4294967296
    → not (eqb (AND (AND (4294967295 - EOR x y) (EOR x s) / 2 ^ 31) 1) 0) ≡ OverflowFromAdd x y s
over_test x y s hx hy hs =
    ap (λ (k : ℕ). not (eqb (AND k 1) 0))
    (and_shr (4294967295 - EOR x y) (EOR x s) 31
    ∙ ap₂ AND
    (not_top (EOR x y) (xor_lt 32 x y hx hy)
    ∙ ap (λ (k : ℕ). 1 - k) (xor_shr x y 31 ∙ ap₂ EOR (top_bit x hx) (top_bit y hy)))
    (xor_shr x s 31 ∙ ap₂ EOR (top_bit x hx) (top_bit s hs)))
    ∙ over_bits (bit x 31) (bit y 31) (bit s 31)

-- a flag as the text picks it
pub pick_flag : (b : Bool) (k : ℕ)
    → ◌≡◌ {A = Option ℕ} (cond b (some 0) (some k)) (some (cond b 0 k))
pick_flag true k = refl
pick_flag false k = refl

z_flag : (b : Bool) → cond (eqb (cond b 1 0) 0) 0 1073741824 ≡ one_if b * 4 * 2 ^ 28
z_flag true = refl
z_flag false = refl

c_flag : (b : Bool) → cond b 0 536870912 ≡ one_if (not b) * 2 * 2 ^ 28
c_flag true = refl
c_flag false = refl

v_flag : (b : Bool) → cond b 0 268435456 ≡ one_if (not b) * 2 ^ 28
v_flag true = refl
v_flag false = refl

module _ (low : ℕ) (h : low < 2 ^ 28) where
  -- what op_adds puts into c[16], w the sum of 64 bits
  adds_status : (n z c v : Bool) (x y i : ℕ) → x < 4294967296 → y < 4294967296 → i < 2 → (w r : ℕ)
      → w ≡ x + y + i → r ≡ w % 4294967296
      → OR (OR
      (OR (OR (AND (pack n z c v low) 0x0FFFFFFF) (AND r 0x80000000))
      (cond (eqb (cond (eqb r 0) 1 0) 0) 0 1073741824))
      (cond (eqb (w / 4294967296) 0) 0 536870912))
      (cond (eqb (AND (AND (4294967295 - EOR x y) (EOR x r) / 2147483648) 1) 0) 0 268435456)
      ≡ pack (bit r 31) (eqb r 0) (CarryFrom w) (OverflowFromAdd x y r) low
  adds_status n z c v x y i hx hy hi w r ew er =
      rw (z_flag, c_flag, v_flag, carry_test, over_test x y r hx hy (small w r er))
      (adds_word low h n z c v r (eqb r 0) (CarryFrom w) (OverflowFromAdd x y r))
    where
      small : (w r : ℕ) → r ≡ w % 4294967296 → r < 4294967296
      small w r e = omega arith

  pub adds_ok : (n z c v : Bool) (x y i : ℕ) (s : State) → x < 4294967296 → y < 4294967296 → i < 2
      → s.c 16 ≡ pack n z c v low
      → called op-adds (x ∷ y ∷ i ∷ []) s
      ≡ some (
        set_c 16
            (pack (bit ((x + y + i) % 4294967296) 31) (eqb ((x + y + i) % 4294967296) 0)
            (CarryFrom (x + y + i)) (OverflowFromAdd x y ((x + y + i) % 4294967296)) low) s,
        back
            ((x + y + i) % 4294967296),
      )
  unfolding called runs step exec others eval_as eval
  adds_ok n z c v x y i s hx hy hi e =
      simp (wide_sum x y i hx hy hi, e, pick_flag)
      (ap (λ (k : ℕ). some (set_c 16 k s, back ((x + y + i) % 4294967296)))
      (adds_status n z c v x y i hx hy hi (x + y + i) ((x + y + i) % 4294967296) refl refl))
