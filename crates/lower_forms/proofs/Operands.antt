-- Registers and second operands: the expression, and the carry out of it, give what addressing mode
-- 1 has.
use mathlib.Core.Path.{◌≡◌, refl, sym, ap, ◌∙◌, subst}
use mathlib.Core.Logic.{◌≢◌}
use mathlib.Core.Bool.{Bool, true, false, cond}
use mathlib.Core.Option.{Option, none, some}
use Prim.Native.Nat.{ℕ, zero, suc, ◌+◌, ◌-◌, ◌*◌, ◌/◌, ◌%◌, ◌^◌, ◌≤◌, ◌<◌}
use native.Mathlib.Nat.{mod-lt, le_trans, div-one}
use native.Mathlib.Omega.{arith}
use lib.Dec.{T, eqb, eqb→eq, eqb_refl, lit<, lit≤}
use Rattle.base_words.specs.Word.{OR, bit, one_if}
use Rattle.base_words.proofs.Bits.{and_mask, bit_num, top_bit, or_shifted}
use Rattle.armv4t.specs.declared.ShiftKind.{ShiftKind}
use Rattle.armv4t.specs.declared.ShiftKind.TheVariants.{Lsl, Lsr, Asr, Ror}
use Rattle.armv4t.specs.declared.Instr.{Instr}
use Rattle.armv4t.specs.Instr.{pc_ahead, pc_value}
use Rattle.c_tree.specs.Expr.{udec, Expr, lit}
use Rattle.c_meaning.specs.State.{State}
use Rattle.lower_forms.specs.Operands.{reg_expr, carry_in, shift_exprs}
use Rattle.armv4t_manual.specs.Machine.{Machine, pack, R, Sound}
use Rattle.armv4t_manual.specs.Operators.{arithmetic_shift_right}
use Rattle.armv4t_manual.specs.Shifter.{shift}
use Rattle.lower_forms.proofs.Gives.{Reads, to, r_reg, r_udec, r_word, r_par, r_and, r_or}
use Rattle.lower_forms.proofs.Gives.{r_shl, r_shr, r_shr_int, r_shl_int, r_bit, r_asr, r_ror}

pub same_of : (i k : ℕ) → eqb i k ≡ true → i ≡ k
same_of i k q = eqb→eq i k (subst T (sym q) tt)

pub ne_of : (i k : ℕ) → eqb i k ≡ false → i ≢ k
ne_of i k q e = subst T q (subst (λ (j : ℕ). T (eqb i j)) e (eqb_refl i))

-- a register that is not R15
pub under : (r : ℕ) → r ≤ 15 → eqb r 15 ≡ false → r < 15
under r h q = go r h (ne_of r 15 q)
  where
    go : (r : ℕ) → r ≤ 15 → r ≢ 15 → r < 15
    go r h n = omega arith

-- the registers are the manual's
abbrev pub Regs : State → Machine → Type 0
Regs z m = (i : ℕ) → i < 15 → z.c i ≡ m.r i

-- a flag as a number
pub one_lt : (b : Bool) → one_if b < 2
one_lt true = lit< tt
one_lt false = lit< tt

pub pack_lt : (n z c v : Bool) (low : ℕ) → low < 2 ^ 28 → pack n z c v low < 4294967296
pack_lt n z c v low h =
    go (one_if n) (one_if z) (one_if c) (one_if v) (one_lt n) (one_lt z) (one_lt c) (one_lt v)
  where
    go : (n z c v : ℕ) → n < 2 → z < 2 → c < 2 → v < 2
        → (n * 8 + z * 4 + c * 2 + v) * 268435456 + low < 4294967296
    go n z c v hn hz hc hv = omega arith

pub pack_c : (n z c v : Bool) (low : ℕ) → low < 2 ^ 28 → pack n z c v low / 2 ^ 29 % 2 ≡ one_if c
pack_c n z c v low h = go (one_if n) (one_if z) (one_if c) (one_if v) (one_lt c) (one_lt v)
  where
    go : (n z c v : ℕ) → c < 2 → v < 2
        → ((n * 8 + z * 4 + c * 2 + v) * 268435456 + low) / 536870912 % 2 ≡ c
    go n z c v hc hv = omega arith

-- what an instruction reads as PC is a word
pub pc_lt : (i : Instr) → pc_value i < 4294967296
pc_lt i = mod-lt (i.addr + pc_ahead i.thumb) (lit< tt)

module _ (z : State) (m : Machine) (s : Sound m) (i : Instr) (g : Regs z m) where
  -- c[r], and PC where r is 15
  pub operand_reads : (r : ℕ) → r ≤ 15 → Reads (reg_expr i r) z (R m (pc_value i) r)
  operand_reads r h = go (eqb r 15) refl
    where
      up : (r : ℕ) → r ≤ 15 → r ≤ 16
      up r h = omega arith

      go : (b : Bool) → eqb r 15 ≡ b → Reads (reg_expr i r) z (R m (pc_value i) r)
      go true q = rw q (r_word (pc_lt i))
      go false q = let l = under r h q in rw q (r_reg r (up r h) (g r l) (s.words r l))

-- ((c[16] >> 29) & 1u)
pub carry_reads : (z : State) (n zf c v : Bool) (low : ℕ) → low < 2 ^ 28
    → z.c 16 ≡ pack n zf c v low → Reads carry_in z (one_if c)
carry_reads z n zf c v low h f =
    to (and_mask (pack n zf c v low / 2 ^ 29) 1 ∙ pack_c n zf c v low h)
    (r_par (r_and (r_par (r_shr_int (r_reg 16 (lit≤ tt) f (pack_lt n zf c v low h)) 29 (lit< tt)))
    (r_udec (lit< tt))))

count_lt : {i : ℕ} → i < 32 → i < 4294967296
count_lt h = le_trans h (lit≤ tt)

asr_all : (x : ℕ) → x < 4294967296 → arithmetic_shift_right x 31 ≡ cond (bit x 31) 0xffffffff 0
asr_all x h = ap (λ (k : ℕ). k + cond (bit x 31) 4294967294 0) (top_bit x h) ∙ go (bit x 31)
  where
    go : (b : Bool) → one_if b + cond b 4294967294 0 ≡ cond b 4294967295 0
    go true = refl
    go false = refl

module _ (z : State) (n zf c v : Bool) (low : ℕ) (h : low < 2 ^ 28)
    (f : z.c 16 ≡ pack n zf c v low) {e : Expr} {x : ℕ} (p : Reads e z x) where
  rrx : OR (one_if c * 2 ^ 31 % 4294967296) (x / 2 ^ 1) ≡ one_if c * 2 ^ 31 + x / 2 ^ 1
  rrx = ap (λ (k : ℕ). OR k (x / 2 ^ 1)) (go c)
      ∙ or_shifted (one_if c) 31 (x / 2 ^ 1) (half x p.small)
    where
      go : (c : Bool) → one_if c * 2147483648 % 4294967296 ≡ one_if c * 2147483648
      go true = refl
      go false = refl

      half : (x : ℕ) → x < 4294967296 → x / 2 < 2147483648
      half x h = omega arith

  pub shift_reads : (k : ShiftKind) (i : ℕ) → i < 32
      → Reads (shift_exprs e k i).0 z (shift k x i c).0
  shift_reads Lsl zero l = p
  shift_reads Lsl (suc i) l = r_par (r_shl p (r_udec (count_lt l)) l)
  shift_reads Lsr zero l = r_udec (lit< tt)
  shift_reads Lsr (suc i) l = r_par (r_shr p (r_udec (count_lt l)) l)
  shift_reads Asr zero l = to (asr_all x p.small) (r_asr p 31 (lit< tt))
  shift_reads Asr (suc i) l = r_asr p (suc i) l
  shift_reads Ror zero l =
      to rrx (r_par
      (r_or (r_par (r_shl_int (carry_reads z n zf c v low h f) 31 (lit< tt)))
      (r_par (r_shr p (r_udec (lit< tt)) (lit< tt)))))
  shift_reads Ror (suc i) l = r_ror p (r_udec (count_lt l)) l

-- a carry that is not written stays
abbrev pub CarryIs : Option Expr → State → Bool → Bool → Type 0
CarryIs none z old new = new ≡ old
CarryIs (some e) z old new = Reads e z (one_if new)

pub shift_carries : (z : State) {e : Expr} {x : ℕ} → Reads e z x
    → (c : Bool) (k : ShiftKind) (i : ℕ) → i < 32
    → CarryIs (shift_exprs e k i).1 z c (shift k x i c).1
shift_carries z p c Lsl zero l = refl
shift_carries z p c Lsl (suc i) l = r_bit p (32 - suc i) (omega arith)
shift_carries z {x = x} p c Lsr zero l =
    to (top_bit x p.small) (r_par (r_shr p (r_udec (lit< tt)) (lit< tt)))
shift_carries z p c Lsr (suc i) l = r_bit p i (omega arith)
shift_carries z {x = x} p c Asr zero l =
    to (top_bit x p.small) (r_par (r_shr p (r_udec (lit< tt)) (lit< tt)))
shift_carries z p c Asr (suc i) l = r_bit p i (omega arith)
shift_carries z {x = x} p c Ror zero l =
    to (and_mask x 1 ∙ sym (bit_num x 0 ∙ ap (λ (k : ℕ). k % 2) (div-one x)))
    (r_par (r_and p (r_udec (lit< tt))))
shift_carries z p c Ror (suc i) l = r_bit p i (omega arith)

module _ (z : State) (m : Machine) (s : Sound m) (i : Instr) (g : Regs z m) where
  -- a register shifted by an amount
  pub shifted_reads : z.c 16 ≡ pack m.n m.z m.c m.v m.other_bits
      → (rm : ℕ) (k : ShiftKind) (n : ℕ) → rm ≤ 15 → n < 32
      → Reads (shift_exprs (reg_expr i rm) k n).0 z (shift k (R m (pc_value i) rm) n m.c).0
  shifted_reads f rm k n h l =
      shift_reads z m.n m.z m.c m.v m.other_bits s.other_bits f
      (operand_reads z m s i g rm h) k n l

  -- the carry out of a value, and out of a register shifted
  pub value_carries : (x rot : ℕ)
      → CarryIs (cond (eqb rot 0) none (some (lit udec (x / 2 ^ 31 % 2)))) z m.c
      (cond (eqb rot 0) m.c (bit x 31))
  value_carries x rot = go (eqb rot 0)
    where
      go : (b : Bool)
          → CarryIs (cond b none (some (lit udec (x / 2 ^ 31 % 2)))) z m.c
          (cond b m.c (bit x 31))
      go true = refl
      go false =
          to (sym (bit_num x 31)) (r_udec (le_trans (mod-lt (x / 2 ^ 31) (lit< tt)) (lit≤ tt)))

  pub shifted_carries : (rm : ℕ) (k : ShiftKind) (n : ℕ) → rm ≤ 15 → n < 32
      → CarryIs (shift_exprs (reg_expr i rm) k n).1 z m.c
      (shift k (R m (pc_value i) rm) n m.c).1
  shifted_carries rm k n h l = shift_carries z (operand_reads z m s i g rm h) m.c k n l
