-- BX: its text leaves to the register's address and state.
use Prim.Native.Nat.{ℕ, zero, suc, ◌+◌, ◌-◌, ◌*◌, ◌/◌, ◌%◌, ◌^◌, ◌≤◌, ◌<◌}
use mathlib.Core.Path.{◌≡◌, refl, sym, ap, ap₂, ◌∙◌}
use mathlib.Core.Bool.{Bool, true, false}
use mathlib.Core.List.{List, [], ◌∷◌}
use mathlib.Core.Option.{Option, some}
use native.Mathlib.Nat.{mod-lt, mod-eq_of_lt, div-one}
use native.Mathlib.Omega.{arith}
use lib.Dec.{lit<, lit≤}
use Rattle.base_words.specs.Word.{AND, OR, bit, one_if}
use Rattle.base_words.proofs.Bits.{and_block, or_block, and_mask, or_zero_r, or_shifted, bit_num}
use Rattle.armv4t.specs.declared.Instr.{Instr}
use Rattle.armv4t.specs.Instr.{pc_value}
use Rattle.c_tree.specs.Expr.{u32, uhex, udec, x-t, reg, compl, band, bor, Expr, lit, par, un, bin}
use Rattle.c_tree.specs.Stmt.{is, and, or, Plain, declare, set, other, Owner, gap, plain, Code, end}
use Rattle.c_tree.specs.Stmt.{◌⨾◌, when, braces}
use Rattle.c_tree.specs.Preamble.{v32}
use Rattle.c_meaning.specs.State.{bind, State, empty, set_c, enter, leave}
use Rattle.c_meaning.specs.Eval.{eval, eval_as}
use Rattle.c_meaning.specs.Exec.{back, Outcome, next, asks, exec, step, runs}
use Rattle.c_meaning.specs.Perform.{execs, perform}
use Rattle.c_meaning.specs.Helpers.{rotated, run}
use Rattle.lower_forms.specs.Forms.{bx}
use Rattle.lower_forms.specs.Operands.{reg_expr}
use Rattle.lower_forms.specs.Block.{flush_ticks}
use Rattle.lower_units.specs.Block.{nl, sp, masked, to_thumb, to_arm, native_text}
use Rattle.lower_units.specs.Block as L
use Rattle.armv4t_manual.specs.Machine.{Machine, pack, R, set_t, Sound}
use Rattle.armv4t_manual.specs.Execute.{branch_exchange}
use Rattle.lower_forms.specs.Agree.{Agrees}
use Rattle.lower_units.specs.Text.{Leaves}
use Rattle.lower_forms.proofs.Gives.{Reads, to, r_udec, r_uhex, r_par, r_and, r_or, r_not, r_var}
use Rattle.lower_forms.proofs.Memory.{r_even, r_aligned}
use Rattle.lower_forms.proofs.Operands.{operand_reads, one_lt}
use Rattle.lower_units.proofs.Lines.{run_plain, run_line}
use Rattle.lower_units.proofs.Wrapped.{after_ticks}
use Rattle.lower_units.proofs.Exits.{with_pc, closed_out}
use Rattle.lower_forms.proofs.Steps.{ne, exec1, opened, given, within, do_declare, do_reg}
use Rattle.lower_forms.proofs.Steps.{with_scopes}
use Rattle.lower_forms.proofs.Flags.{nib}
use Rattle.lower_units.proofs.Aligned.{plus_zero, twos, zeros}

-- bit 5 of the status register
low_parts : (low : ℕ) → low / 64 * 64 + low % 64 ≡ low
low_parts low = omega arith

one_bit : (b : ℕ) → b < 2 → OR b 1 ≡ 1
unfolding OR
one_bit zero h = refl
one_bit (suc zero) h = refl
one_bit (suc (suc b)) h = absurd (no_more b h)
  where
    no_more : (b : ℕ) → suc (suc b) < 2 → ⊥
    no_more b h = omega arith

t_set_low : (low : ℕ) → OR low 32 ≡ low / 64 * 64 + 32 + low % 32
t_set_low low =
    ap (λ (k : ℕ). OR k 32) (sym (low_parts low))
    ∙ or_block 6 (low / 64) 0 (low % 64) 32 (mod-lt low (lit< tt)) (lit< tt)
    ∙ ap₂ (λ (p q : ℕ). p * 64 + q) (or_zero_r (low / 64)) (five (low % 64) (mod-lt low (lit< tt)))
    ∙ join low
  where
    five : (k : ℕ) → k < 64 → OR k 32 ≡ 32 + k % 32
    five k h =
        ap (λ (j : ℕ). OR j 32) (sym (halves k))
        ∙ or_block 5 (k / 32) 1 (k % 32) 0 (mod-lt k (lit< tt)) (lit< tt)
        ∙ ap₂ (λ (p q : ℕ). p * 32 + q) (one_bit (k / 32) (two k h)) (or_zero_r (k % 32))
      where
        halves : (k : ℕ) → k / 32 * 32 + k % 32 ≡ k
        halves k = omega arith

        two : (k : ℕ) → k < 64 → k / 32 < 2
        two k h = omega arith

    join : (low : ℕ) → low / 64 * 64 + (32 + low % 64 % 32) ≡ low / 64 * 64 + 32 + low % 32
    join low = omega arith

t_clear_low : (low : ℕ) → low < 2 ^ 28 → AND low (2 ^ 28 - 33) ≡ low / 64 * 64 + 0 + low % 32
t_clear_low low h =
    ap (λ (k : ℕ). AND k (2 ^ 28 - 33)) (sym (low_parts low))
    ∙ and_block 6 (low / 64) (2 ^ 22 - 1) (low % 64) 31 (mod-lt low (lit< tt)) (lit< tt)
    ∙ ap₂ (λ (p q : ℕ). p * 64 + q) (and_mask (low / 64) 22 ∙ mod-eq_of_lt (high low h))
    (and_mask (low % 64) 5)
    ∙ join low
  where
    high : (low : ℕ) → low < 268435456 → low / 64 < 4194304
    high low h = omega arith

    join : (low : ℕ) → low / 64 * 64 + low % 64 % 32 ≡ low / 64 * 64 + 0 + low % 32
    join low = omega arith

nib_lt : (n z c v : Bool) → nib n z c v < 16
unfolding nib
nib_lt n z c v =
    go (one_if n) (one_if z) (one_if c) (one_if v) (one_lt n) (one_lt z) (one_lt c) (one_lt v)
  where
    go : (n z c v : ℕ) → n < 2 → z < 2 → c < 2 → v < 2 → n * 8 + z * 4 + c * 2 + v < 16
    go n z c v hn hz hc hv = omega arith

module _ (n z c v : Bool) (low : ℕ) (h : low < 2 ^ 28) where
  t_set : OR (pack n z c v low) 32 ≡ pack n z c v (low / 64 * 64 + one_if true * 32 + low % 32)
  unfolding nib
  t_set = or_block 28 (nib n z c v) 0 low 32 h (lit< tt)
      ∙ ap₂ (λ (p q : ℕ). p * 2 ^ 28 + q) (or_zero_r (nib n z c v)) (t_set_low low)

  t_clear : AND (pack n z c v low) 4294967263
      ≡ pack n z c v (low / 64 * 64 + one_if false * 32 + low % 32)
  unfolding nib
  t_clear =
      and_block 28 (nib n z c v) 15 low (2 ^ 28 - 33) h (lit< tt)
      ∙ ap₂ (λ (p q : ℕ). p * 2 ^ 28 + q) (and_mask (nib n z c v) 4 ∙ mod-eq_of_lt (nib_lt n z c v))
      (t_clear_low low h)

-- c[16] |= e; and c[16] &= e;
module _ {z : State} {e : Expr} {y : ℕ} (p : Reads e z y) where
  do_or : exec1 (set (reg 16) or e) z ≡ some (set_c 16 (OR (z.c 16) y) z)
  unfolding exec
  do_or = rw (p.gives, p.typed)

  do_and : exec1 (set (reg 16) and e) z ≡ some (set_c 16 (AND (z.c 16) y) z)
  unfolding exec
  do_and = rw (p.gives, p.typed)

  -- return e; at the end of braces
  pub leave_back : (o : Owner) → run (L.leave o e) z ≡ some (z, back y)
  unfolding run runs step eval_as
  leave_back o = rw (p.gives, p.typed)

-- if (e) { b } c
when_yes : (o : Owner) (e : Expr) (b c : Code) (u : State) → eval rotated e u ≡ some 1
    → run (when o false (other e) b c) u
    ≡ bind (run b (enter u)) (λ r. next r.1 (leave r.0) (run c))
unfolding run runs asks
when_yes o e b c u q = rw q

when_no : (o : Owner) (e : Expr) (b c : Code) (u : State) → eval rotated e u ≡ some 0
    → run (when o false (other e) b c) u ≡ run c u
unfolding run runs asks
when_no o e b c u q = rw q

two : (p q : Plain) (z y : State) {x : State} → exec1 p z ≡ some y → exec1 q y ≡ some x
    → perform (p ∷ q ∷ []) z ≡ some x
unfolding perform execs
two p q z y e f = rw (e, f)

with_t : {z : State} {m : Machine} → Agrees z m → (t : Bool) (k : ℕ)
    → k ≡ pack m.n m.z m.c m.v (set_t t m).other_bits → Agrees (set_c 16 k z) (set_t t m)
with_t a t k e =
    record { regs = λ i l. rw (ne i 16 (omega arith)) (a.regs i l); flags = e; memory = a.memory }

-- (e & ~1u) | 1u
r_odd : {z : State} {e : Expr} {x : ℕ} → Reads e z x
    → Reads (bin bor (par (bin band e (un compl (lit udec 1)))) (lit udec 1)) z (x / 2 * 2 + 1)
r_odd {x = x} p = to (or_shifted (x / 2) 1 1 (lit< tt)) (r_or (r_par (r_even p)) (r_udec (lit< tt)))

module _ (i : Instr) (rm : ℕ) (hm : rm ≤ 15) (ks : List ℕ) (a : ℕ) (o : Owner) (n : ℕ) {z : State}
    {m : Machine} (s : Sound m) (g : Agrees z m) where
  abbrev target : ℕ
  target = R m (pc_value i) rm

  -- t declared
  abbrev held : State
  held = within (given x-t target empty) z.scopes z

  small : target < 4294967296
  small = (operand_reads z m s i g.regs rm hm).small

  test : (b : Bool) → bit target 0 ≡ b
      → eval rotated (bin band (v32 x-t) (lit udec 1)) held ≡ some (one_if b)
  test b q =
      (to (and_mask target 1 ∙ sym (bit_num target 0 ∙ ap (λ (j : ℕ). j % 2) (div-one target))
      ∙ ap one_if q) (r_and (r_var {z = held} (u32, x-t) refl refl small) (r_udec (lit< tt)))).gives

  -- to Thumb
  odd_state : State
  odd_state = set_c 15 (target / 2 * 2) (set_c 16 (OR (z.c 16) 32) (enter held))

  odd_ends : run (to_thumb o) (enter held) ≡ some (odd_state, back (target / 2 * 2 + 1))
  unfolding odd_state run runs step
  odd_ends =
      run_line o (set (reg 16) or (lit uhex 0x20) ∷ set (reg 15) is (masked 1) ∷ [])
      (L.leave o (bin bor (par (masked 1)) (lit udec 1))) (enter held)
      ∙ ap (λ (q : Option State). bind q (run (L.leave o (bin bor (par (masked 1)) (lit udec 1)))))
      (two (set (reg 16) or (lit uhex 0x20)) (set (reg 15) is (masked 1)) (enter held)
      (set_c 16 (OR (z.c 16) 32) (enter held))
      (do_or {z = enter held} {e = lit uhex 0x20} {y = 32} (r_uhex (lit< tt)))
      (do_reg (r_even
      (r_var {z = set_c 16 (OR (z.c 16) 32) (enter held)} (u32, x-t) refl refl small)) 15
      (lit≤ tt)))
      ∙ leave_back (r_odd (r_var {z = odd_state} (u32, x-t) refl refl small)) o

  -- to ARM
  even_state : State
  even_state = set_c 15 (target / 4 * 4) (set_c 16 (AND (z.c 16) 4294967263) held)

  even_ends : run (to_arm o) held ≡ some (even_state, back (target / 4 * 4))
  unfolding even_state run runs step
  even_ends =
      run_line o (set (reg 16) and (un compl (lit uhex 0x20)) ∷ set (reg 15) is (masked 3) ∷ [])
      (L.leave o (masked 3)) held
      ∙ ap (λ (q : Option State). bind q (run (L.leave o (masked 3))))
      (two (set (reg 16) and (un compl (lit uhex 0x20))) (set (reg 15) is (masked 3)) held
      (set_c 16 (AND (z.c 16) 4294967263) held)
      (do_and {z = held} {e = un compl (lit uhex 0x20)} {y = 4294967263}
      (r_not (r_uhex {k = 32} (lit< tt))))
      (do_reg (r_aligned
      (r_var {z = set_c 16 (AND (z.c 16) 4294967263) held} (u32, x-t) refl refl small)) 15
      (lit≤ tt)))
      ∙ leave_back (r_aligned (r_var {z = even_state} (u32, x-t) refl refl small)) o

  -- if (t & 1u) { to Thumb } to ARM
  thumb_ends : bit target 0 ≡ true
      → run (when o false (other (bin band (v32 x-t) (lit udec 1))) (to_thumb o) (to_arm o)) held
      ≡ some (leave odd_state, back (target / 2 * 2 + 1))
  thumb_ends q =
      when_yes o (bin band (v32 x-t) (lit udec 1)) (to_thumb o) (to_arm o) held (test true q)
      ∙ ap (λ (q : Outcome). bind q (λ r. next r.1 (leave r.0) (run (to_arm o)))) odd_ends

  arm_ends : bit target 0 ≡ false
      → run (when o false (other (bin band (v32 x-t) (lit udec 1))) (to_thumb o) (to_arm o)) held
      ≡ some (even_state, back (target / 4 * 4))
  arm_ends q = when_no o (bin band (v32 x-t) (lit udec 1)) (to_thumb o) (to_arm o) held (test false q)
      ∙ even_ends

  -- the text, where the if ends in y and returns k
  around : {y : State} {k : ℕ}
      → run (when o false (other (bin band (v32 x-t) (lit udec 1))) (to_thumb o) (to_arm o)) held
      ≡ some (y, back k)
      → (c : Code)
      → run (native_text ks a o (bx (flush_ticks n) (reg_expr i rm)) c) z ≡ some (leave y, back k)
  unfolding native_text run runs step
  around {y} {k} e c =
      after_ticks o 4 n
      (sp 4 ⨾ braces (sp 1 ⨾ plain o (declare (u32, x-t) (reg_expr i rm) []) ⨾ rest) (nl ⨾ end))
      z
      ∙ closed_out (sp 1 ⨾ plain o (declare (u32, x-t) (reg_expr i rm) []) ⨾ rest) (nl ⨾ end) z
      (back k) refl
      (run_plain o (declare (u32, x-t) (reg_expr i rm) []) rest (enter z)
      ∙ ap (λ (q : Option State). bind q (run rest))
      (do_declare x-t empty z.scopes z refl
      (operand_reads (within (opened x-t empty) z.scopes z) m s i g.regs rm hm))
      ∙ e)
    where
      rest : Code
      rest =
          gap true 6 ⨾ when o false (other (bin band (v32 x-t) (lit udec 1))) (to_thumb o) (to_arm o)

  -- the text leaves as the manual does
  pub bx_leaves : Leaves (native_text ks a o (bx (flush_ticks n) (reg_expr i rm))) z
      (branch_exchange target m)
  unfolding odd_state even_state
  bx_leaves = go (bit target 0) refl
    where
      go : (b : Bool) → bit target 0 ≡ b
          → Leaves (native_text ks a o (bx (flush_ticks n) (reg_expr i rm))) z
          (branch_exchange target m)
      go true q =
          record {
            end = leave (leave odd_state);
            exit = back (target / 2 * 2 + 1);
            ends = around (thumb_ends q);
            leads = rw q;
            pc = rw q (twos target);
            same =
                rw q
                (with_scopes
                (with_pc
                (with_t (with_scopes g (enter held).scopes) true (OR (z.c 16) 32)
                (ap (λ (j : ℕ). OR j 32) g.flags
                ∙ t_set m.n m.z m.c m.v m.other_bits s.other_bits))
                (target / 2 * 2)) z.scopes);
          }
      go false q =
          record {
            end = leave even_state;
            exit = back (target / 4 * 4);
            ends = around (arm_ends q);
            leads = rw q (ap some (plus_zero (target / 4 * 4)));
            pc = rw q (zeros target);
            same =
                rw q
                (with_scopes
                (with_pc
                (with_t (with_scopes g held.scopes) false (AND (z.c 16) 4294967263)
                (ap (λ (j : ℕ). AND j 4294967263) g.flags
                ∙ t_clear m.n m.z m.c m.v m.other_bits s.other_bits))
                (target / 4 * 4)) z.scopes);
          }
