-- What reads of memory give, and addresses without their low bits.
use mathlib.Core.Path.{◌≡◌, refl, sym, ap, ◌∙◌, subst}
use mathlib.Core.Bool.{Bool, true, false, cond}
use Prim.Native.Nat.{ℕ, ◌+◌, ◌-◌, ◌*◌, ◌/◌, ◌%◌, ◌^◌, ◌≤◌, ◌<◌}
use native.Mathlib.Nat.{mod-eq_of_lt, le_trans}
use native.Mathlib.Omega.{arith}
use lib.Dec.{T, leb, eqb, eqb→eq, lit<, lit≤, leb→le, le→leb}
use Rattle.base_words.specs.Word.{AND, bit, one_if}
use Rattle.base_words.proofs.Bits.{and_mask, and_high, bool_ext}
use Rattle.c_tree.specs.Expr.{s8, s16, s32, u32, udec, compl, mul, band, w8, w16, w32, Expr, lit}
use Rattle.c_tree.specs.Expr.{par, un, bin, cast, pick, read}
use Rattle.c_meaning.specs.State.{State, load, byte}
use Rattle.c_meaning.specs.Eval.{eval}
use Rattle.armv4t_manual.specs.Operators.{SignExtend8, SignExtend16}
use Rattle.lower_forms.proofs.Gives.{Reads, to, r_udec, r_par, r_not, r_and, r_mul}

module _ (f : ℕ → ℕ) (b : (a : ℕ) → f a < 256) where
  pub load_small : (a : ℕ) → load w32 f a < 4294967296
  load_small a =
      go (f a) (byte f a 1) (byte f a 2) (byte f a 3) (b a) (b ((a + 1) % 4294967296))
      (b ((a + 2) % 4294967296)) (b ((a + 3) % 4294967296))
    where
      go : (p q r s : ℕ) → p < 256 → q < 256 → r < 256 → s < 256
          → p + q * 256 + r * 65536 + s * 16777216 < 4294967296
      go p q r s hp hq hr hs = omega arith

pub r_read : {z : State} {e : Expr} {x : ℕ} → Reads e z x → ((a : ℕ) → z.mem a < 256)
    → Reads (read w32 e) z (load w32 z.mem x)
unfolding eval
r_read {z} {x = x} p b =
    record { typed = refl; gives = rw (p.gives, p.typed); small = load_small z.mem b x }

pub half_small : (f : ℕ → ℕ) → ((a : ℕ) → f a < 256) → (a : ℕ) → load w16 f a < 65536
half_small f b a = go (f a) (byte f a 1) (b a) (b ((a + 1) % 4294967296))
  where
    go : (p q : ℕ) → p < 256 → q < 256 → p + q * 256 < 65536
    go p q hp hq = omega arith

module _ {z : State} {e : Expr} {x : ℕ} (p : Reads e z x) (b : (a : ℕ) → z.mem a < 256) where
  pub r_read16 : Reads (read w16 e) z (load w16 z.mem x)
  unfolding eval
  r_read16 =
      record {
        typed = refl;
        gives = rw (p.gives, p.typed);
        small = le_trans (half_small z.mem b x) (lit≤ tt);
      }

  pub r_read8 : Reads (read w8 e) z (z.mem x)
  unfolding eval
  r_read8 =
      record { typed = refl; gives = rw (p.gives, p.typed); small = le_trans (b x) (lit≤ tt) }

-- a number below 2 * d is at least d exactly if its top bit is set, where that is so by its numbers
top_bit : (d x : ℕ) → (d ≤ x → x / d % 2 ≡ 1) → (x / d % 2 ≡ 1 → d ≤ x)
    → leb d x ≡ eqb (x / d % 2) 1
top_bit d x one back =
    bool_ext (leb d x) (eqb (x / d % 2) 1)
    (λ p. subst (λ (k : ℕ). T (eqb k 1)) (sym (one (leb→le d x p))) tt)
    (λ p. le→leb d x (back (eqb→eq (x / d % 2) 1 p)))

-- the sign of a byte and of a halfword is its top bit
neg8 : (x : ℕ) → x < 256 → leb 128 x ≡ bit x 7
neg8 x h = top_bit 128 x (λ p. omega arith) (λ p. omega arith)

neg16 : (x : ℕ) → x < 65536 → leb 32768 x ≡ bit x 15
neg16 x h = top_bit 32768 x (λ p. omega arith) (λ p. omega arith)

cond_lt : (b : Bool) (p q : ℕ) → p < 4294967296 → q < 4294967296 → cond b p q < 4294967296
cond_lt true p q hp hq = hp
cond_lt false p q hp hq = hq

module _ {z : State} {e : Expr} {x : ℕ} (p : Reads e z x) where
  -- (uint32_t)(int32_t)(int8_t)e
  pub r_signed8 : x < 256 → Reads (cast u32 (cast s32 (cast s8 e))) z (SignExtend8 x)
  unfolding eval
  r_signed8 h =
      record {
        typed = refl;
        gives = rw (p.gives, p.typed, mod-eq_of_lt h, neg8 x h);
        small = cond_lt (bit x 7) (x + 4294967040) x (omega arith) p.small;
      }

  pub r_signed16 : x < 65536 → Reads (cast u32 (cast s32 (cast s16 e))) z (SignExtend16 x)
  unfolding eval
  r_signed16 h =
      record {
        typed = refl;
        gives = rw (p.gives, p.typed, mod-eq_of_lt h, neg16 x h);
        small = cond_lt (bit x 15) (x + 4294901760) x (omega arith) p.small;
      }

-- c ? d : e
pub r_pick : {z : State} {c d e : Expr} {x y : ℕ} (b : Bool) → Reads c z (one_if b) → Reads d z x
    → Reads e z y → Reads (pick c d e) z (cond b x y)
unfolding eval
r_pick true p q r =
    record {
      typed = rw (q.typed, r.typed);
      gives = rw (p.gives, q.gives, q.typed, r.typed);
      small = q.small;
    }
r_pick false p q r =
    record {
      typed = rw (q.typed, r.typed);
      gives = rw (p.gives, r.gives, q.typed, r.typed);
      small = r.small;
    }

-- e & ~m, where ~m has all but the k lowest bits
r_cleared : {z : State} {e : Expr} {x : ℕ} (m j k : ℕ) → m < 4294967296
    → 4294967295 - m ≡ 2 ^ (j + k) - 2 ^ k → x / 2 ^ k < 2 ^ j
    → Reads e z x → Reads (bin band e (un compl (lit udec m))) z (x / 2 ^ k * 2 ^ k)
r_cleared {x = x} m j k l e h p =
    to (ap (AND x) e ∙ and_high x j k ∙ ap (λ (n : ℕ). n * 2 ^ k) (mod-eq_of_lt h))
    (r_and p (r_not (r_udec l)))

-- e & ~1u
pub r_even : {z : State} {e : Expr} {x : ℕ} → Reads e z x
    → Reads (bin band e (un compl (lit udec 1))) z (x / 2 * 2)
r_even {x = x} p = r_cleared 1 31 1 (lit< tt) refl (half x p.small) p
  where
    half : (x : ℕ) → x < 4294967296 → x / 2 < 2147483648
    half x h = omega arith

-- e & 1u
pub r_one : {z : State} {e : Expr} {x : ℕ} → Reads e z x
    → Reads (par (bin band e (lit udec 1))) z (x % 2)
r_one {x = x} p = to (and_mask x 1) (r_par (r_and p (r_udec (lit< tt))))

-- e & ~3u
pub r_aligned : {z : State} {e : Expr} {x : ℕ} → Reads e z x
    → Reads (bin band e (un compl (lit udec 3))) z (x / 4 * 4)
r_aligned {x = x} p = r_cleared 3 30 2 (lit< tt) refl (quarter x p.small) p
  where
    quarter : (x : ℕ) → x < 4294967296 → x / 4 < 1073741824
    quarter x h = omega arith

-- (e & 3u) * 8u
pub r_rotation : {z : State} {e : Expr} {x : ℕ} → Reads e z x
    → Reads (bin mul (par (bin band e (lit udec 3))) (lit udec 8)) z (8 * (x % 4))
r_rotation {x = x} p =
    to (ap (λ (k : ℕ). k * 8 % 4294967296) (and_mask x 2) ∙ go x)
    (r_mul (r_par (r_and p (r_udec (lit< tt)))) (r_udec (lit< tt)))
  where
    go : (x : ℕ) → x % 4 * 8 % 4294967296 ≡ 8 * (x % 4)
    go x = omega arith
