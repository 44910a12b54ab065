-- Data processing: what an Alu is lowered to does what the manual says.
use mathlib.Core.Path.{◌≡◌, refl, sym, ap, ◌∙◌, subst}
use mathlib.Core.Bool.{Bool, true, false, not, ◌&&◌, cond, beq}
use mathlib.Core.List.{[], ◌∷◌, ◌++◌}
use mathlib.Core.Option.{Option, none, some}
use Prim.Native.Nat.{ℕ, zero, suc, ◌+◌, ◌-◌, ◌/◌, ◌%◌, ◌≤◌, ◌<◌}
use native.Mathlib.Nat.{mod-lt, mod-add-mod}
use native.Mathlib.Omega.{arith}
use lib.Dec.{ltb, leb, eqb, lit<, leb→le, le→leb, ltb→lt, not_T, nltb→le}
use Rattle.base_words.specs.Word.{AND, OR, EOR, bit, one_if}
use Rattle.base_words.proofs.Bits.{bool_ext, not_top}
use Rattle.armv4t.specs.declared.AluOp.{AluOp}
use Rattle.armv4t.specs.declared.AluOp.TheVariants.{And, Eor, Sub, Rsb, Add, Adc, Sbc, Rsc, Tst}
use Rattle.armv4t.specs.declared.AluOp.TheVariants.{Teq, Cmp, Cmn, Orr, Mov, Bic, Mvn}
use Rattle.c_tree.specs.Expr.{u32, x-r, udec, add, compl, Expr, lit, un, bin}
use Rattle.c_tree.specs.Stmt.{f-nz, f-c, Plain, adds, discard, run, proc}
use Rattle.c_tree.specs.Preamble.{v32}
use Rattle.c_meaning.specs.State.{State, index, empty, set_c, enter, find, cell_value}
use Rattle.c_meaning.specs.Exec.{on, exec}
use Rattle.c_meaning.specs.Helpers.{called}
use Rattle.lower_forms.specs.Operands.{carry_in}
use Rattle.lower_forms.specs.InlineBody.{let32, set_reg, logical_c, alu}
use Rattle.armv4t_manual.specs.Machine.{Machine, pack, set_flags, Sound}
use Rattle.armv4t_manual.specs.Machine as M
use Rattle.armv4t_manual.specs.Operators.{NOT, CarryFrom, minus, BorrowFrom, OverflowFromAdd}
use Rattle.armv4t_manual.specs.DataProcessing.{add_with_carry, sub_with_borrow, settle}
use Rattle.armv4t_manual.specs.DataProcessing as D
use Rattle.lower_forms.specs.Agree.{Agrees}
use Rattle.lower_forms.specs.Means.{Makes}
use Rattle.lower_forms.proofs.Gives.{Reads, to, r_udec, r_par, r_not, r_and, r_or, r_xor}
use Rattle.lower_forms.proofs.Gives.{r_add, r_var}
use Rattle.lower_forms.proofs.Flags.{nz_ok, c_ok, adds_ok}
use Rattle.lower_forms.proofs.Operands.{Regs, CarryIs, carry_reads, one_lt}
use Rattle.lower_forms.proofs.Steps.{step, stop, opened, given, within, do_declare, do_adds}
use Rattle.lower_forms.proofs.Steps.{do_nz, do_c, do_reg, with_scopes, with_reg, with_flags}

flag_back : (b : Bool) → not (eqb (one_if b) 0) ≡ b
flag_back true = refl
flag_back false = refl

-- c[rd] = r; or (void)r;
last : {z : State} {m : Machine} {x : ℕ} (b : Bool) (rd : ℕ) → rd < 15 → x < 4294967296 → Agrees z m
    → find (index x-r) z.scopes ≡ some (u32, some x)
    → Makes (cond b (discard (u32, x-r)) (set_reg rd (v32 x-r)) ∷ []) z (cond b m (M.set_reg rd x m))
unfolding exec
last true rd h l a q = step (rw q) (stop a)
last {x = x} false rd h l a q =
    step (do_reg (r_var (u32, x-r) refl (ap (cell_value u32) q) l) rd (omega (arith, h)))
    (stop (with_reg a rd x h))

-- an expression without locals: it gives x in each state that agrees with m
abbrev pub Always : Expr → Machine → ℕ → Type 0
Always e m x = (u : State) → Agrees u m → Reads e u x

module _ {z : State} {m : Machine} (s : Sound m) (a : Agrees z m) (rd : ℕ) (h : rd < 15) (b : Bool)
  where
    tail : Plain
    tail = cond b (discard (u32, x-r)) (set_reg rd (v32 x-r))

    -- uint32_t r = e; f_nz(c, r); f_c(c, co); and the last
    logical-ok : (w : Bool) (e : Expr) (co : Option Expr) (x : ℕ) (new : Bool) → Always e m x
        → ((y : State) → Regs y m → CarryIs co y m.c new)
        → Makes (let32 x-r e ∷ (cond w (run f-nz (v32 x-r) ∷ logical_c co) [] ++ (tail ∷ [])))
        (enter z) (let m1 =
        cond w (set_flags (bit x 31) (eqb x 0) new m.v m) m in cond b m1 (M.set_reg rd x m1))
    unfolding tail
    logical-ok false e co x new p k =
        let q = p (within (opened x-r empty) z.scopes z) (with_scopes a _) in
        step (do_declare x-r empty z.scopes z refl q)
        (last b rd h q.small (with_scopes a _) refl)
    logical-ok true e none x new p k =
        let q = p (within (opened x-r empty) z.scopes z) (with_scopes a _) in
        let z1 : State = within (given x-r x empty) z.scopes z in
        let a1 : Agrees z1 m = with_scopes a _ in
        step (do_declare x-r empty z.scopes z refl q)
        (step (do_nz (r_var (u32, x-r) refl refl q.small)
        (nz_ok m.other_bits s.other_bits m.n m.z m.c m.v x z1 a.flags))
        (rw (k z a.regs)
        (last b rd h q.small (with_flags a1 (bit x 31) (eqb x 0) m.c m.v) refl)))
    logical-ok true e (some f) x new p k =
        let q = p (within (opened x-r empty) z.scopes z) (with_scopes a _) in
        let z1 : State = within (given x-r x empty) z.scopes z in
        let a1 : Agrees z1 m = with_scopes a _ in
        let a2 = with_flags a1 (bit x 31) (eqb x 0) m.c m.v in
        let z2 : State = set_c 16 (pack (bit x 31) (eqb x 0) m.c m.v m.other_bits) z1 in
        step (do_declare x-r empty z.scopes z refl q)
        (step (do_nz (r_var (u32, x-r) refl refl q.small)
        (nz_ok m.other_bits s.other_bits m.n m.z m.c m.v x z1 a.flags))
        (step
        (do_c (k z2 a2.regs)
        (subst (λ c. called (proc f-c) (one_if new ∷ []) z2
        ≡ some (set_c 16 (pack (bit x 31) (eqb x 0) c m.v m.other_bits) z2, on))
        (flag_back new)
        (c_ok m.other_bits s.other_bits (bit x 31) (eqb x 0) m.c m.v (one_if new) z2
        refl)))
        (last b rd h q.small (with_flags a2 (bit x 31) (eqb x 0) new m.v) refl)))

    -- uint32_t r = op_adds(c, d, e, f); and the last
    sum-ok : (w : Bool) (d e f : Expr) (x y i : ℕ) → Always d m x → Always e m y → Always f m i
        → i < 2
        → Makes (cond w (adds x-r d e f) (let32 x-r (bin add (bin add d e) f)) ∷ tail ∷ [])
        (enter z)
        (let q = add_with_carry x y i in
        let m1 = cond w (set_flags (bit q.0 31) (eqb q.0 0) q.1 q.2 m) m in
        cond b m1 (M.set_reg rd q.0 m1))
    unfolding tail
    sum-ok false d e f x y i p q t l =
        let u : State = within (opened x-r empty) z.scopes z in
        let au : Agrees u m = with_scopes a _ in
        step (do_declare x-r empty z.scopes z refl
        (to (mod-add-mod (x + y) 4294967296 i) (r_add (r_add (p u au) (q u au)) (t u au))))
        (last b rd h (mod-lt (x + y + i) (lit< tt)) (with_scopes a _) refl)
    sum-ok true d e f x y i p q t l =
        let u : State = within (opened x-r empty) z.scopes z in
        let au : Agrees u m = with_scopes a _ in
        let r : ℕ = (x + y + i) % 4294967296 in
        step
        (do_adds x-r empty z.scopes z _ refl (p u au) (q u au) (t u au)
        (adds_ok m.other_bits s.other_bits m.n m.z m.c m.v x y i u (p u au).small
        (q u au).small l a.flags))
        (last b rd h (mod-lt (x + y + i) (lit< tt))
        (with_scopes
        (with_flags a (bit r 31) (eqb r 0) (CarryFrom (x + y + i)) (OverflowFromAdd x y r)) _)
        refl)

-- the complement of a word has the other sign
not_bit : (y : ℕ) → y < 4294967296 → bit (NOT y) 31 ≡ not (bit y 31)
not_bit y h = go (y / 2147483648) ((4294967295 - y) / 2147483648) (not_top y h) (below y h)
  where
    below : (y : ℕ) → y < 4294967296 → y / 2147483648 < 2
    below y h = omega arith

    go : (p q : ℕ) → q ≡ 1 - p → p < 2 → eqb (q % 2) 1 ≡ not (eqb (p % 2) 1)
    go zero q e l = rw e
    go (suc zero) q e l = rw e
    go (suc (suc p)) q e l = absurd (no_more p l)
      where
        no_more : (p : ℕ) → suc (suc p) < 2 → ⊥
        no_more p l = omega arith

over_sub : (x y s : Bool)
    → (beq x (not y) && not (beq x s)) ≡ (not (beq x y) && not (beq x s))
over_sub true true s = refl
over_sub true false s = refl
over_sub false true s = refl
over_sub false false s = refl

module _ (x y i : ℕ) (hx : x < 4294967296) (hy : y < 4294967296) (hi : i < 2) where
  sub_value : (x + (4294967295 - y) + (1 - i)) % 4294967296 ≡ minus x y i
  sub_value = omega arith

  sub_carry : CarryFrom (x + (4294967295 - y) + (1 - i)) ≡ not (BorrowFrom x y i)
  sub_carry =
      bool_ext (leb 4294967296 (x + (4294967295 - y) + (1 - i))) (not (ltb x (y + i)))
      (λ p. not_T (ltb x (y + i)) λ q. one (leb→le 4294967296 (x + (4294967295 - y) + (1 - i)) p)
      (ltb→lt x (y + i) q))
      (λ p. le→leb 4294967296 (x + (4294967295 - y) + (1 - i)) (two (nltb→le x (y + i) p)))
    where
      one : 4294967296 ≤ x + (4294967295 - y) + (1 - i) → x < y + i → ⊥
      one p q = omega arith

      two : y + i ≤ x → 4294967296 ≤ x + (4294967295 - y) + (1 - i)
      two p = omega arith

  -- x - y - i is x + ~y + (1 - i)
  sub_plus : add_with_carry x (NOT y) (1 - i) ≡ sub_with_borrow x y i
  sub_plus =
      λ j. (
        sub_value j,
        sub_carry j,
        (ap (λ s. OverflowFromAdd x (NOT y) s) sub_value
            ∙ ap (λ b. beq (bit x 31) b && not (beq (bit x 31) (bit (minus x y i) 31)))
            (not_bit y hy) ∙ over_sub (bit x 31) (bit y 31) (bit (minus x y i) 31)) j,
      )

turned : (b : Bool) → 1 - one_if (not b) ≡ one_if b
turned true = refl
turned false = refl

module _ {z : State} {m : Machine} (s : Sound m) (a : Agrees z m) (rd : ℕ) (h : rd < 15) where
  -- x - y - i, with the carry's expression for 1 - i
  less_ok : (b w : Bool) (d e f : Expr) (x y i : ℕ) → Always d m x → Always e m y
      → Always f m (1 - i) → i < 2
      → Makes (cond w (adds x-r d (un compl e) f) (let32 x-r (bin add (bin add d (un compl e)) f))
      ∷ cond b (discard (u32, x-r)) (set_reg rd (v32 x-r)) ∷ [])
      (enter z)
      (let q = sub_with_borrow x y i in
      let m1 = cond w (set_flags (bit q.0 31) (eqb q.0 0) q.1 q.2 m) m in
      cond b m1 (M.set_reg rd q.0 m1))
  unfolding tail
  less_ok b w d e f x y i p q t l =
      subst (λ (q : ℕ × Bool × Bool). Makes
      (cond w (adds x-r d (un compl e) f) (let32 x-r (bin add (bin add d (un compl e)) f))
      ∷ cond b (discard (u32, x-r)) (set_reg rd (v32 x-r)) ∷ []) (enter z)
      (let m1 = cond w (set_flags (bit q.0 31) (eqb q.0 0) q.1 q.2 m) m in
      cond b m1 (M.set_reg rd q.0 m1)))
      (sub_plus x y i (p z a).small (q z a).small l)
      (sum-ok s a rd h b w d (un compl e) f x (NOT y) (1 - i) p (λ u g. r_not (q u g)) t
      (omega arith))

  cin : Always carry_in m (one_if m.c)
  cin u g = carry_reads u m.n m.z m.c m.v m.other_bits s.other_bits g.flags

  cin_turned : Always carry_in m (1 - one_if (not m.c))
  cin_turned u g = to (sym (turned m.c)) (cin u g)

  const : (k : ℕ) → k < 4294967296 → Always (lit udec k) m k
  const k l u g = r_udec l

  -- every operation, on operands without locals
  pub alu_ok : (o : AluOp) (w : Bool) (d e : Expr) (co : Option Expr) (x y : ℕ) (new : Bool)
      → Always d m x → Always e m y
      → ((u : State) → Regs u m → CarryIs co u m.c new)
      → Makes (alu o w rd d e co) (enter z) (settle o w rd (D.alu o x y new m.c m.v) m)
  unfolding tail
  alu_ok And w d e co x y new p q k =
      logical-ok s a rd h false w _ co (AND x y) new (λ u g. r_par (r_and (p u g) (q u g))) k
  alu_ok Eor w d e co x y new p q k =
      logical-ok s a rd h false w _ co (EOR x y) new (λ u g. r_par (r_xor (p u g) (q u g))) k
  alu_ok Sub w d e co x y new p q k = less_ok false w d e _ x y 0 p q (const 1 (lit< tt)) (lit< tt)
  alu_ok Rsb w d e co x y new p q k = less_ok false w e d _ y x 0 q p (const 1 (lit< tt)) (lit< tt)
  alu_ok Add w d e co x y new p q k =
      sum-ok s a rd h false w d e _ x y 0 p q (const 0 (lit< tt)) (lit< tt)
  alu_ok Adc w d e co x y new p q k =
      sum-ok s a rd h false w d e _ x y (one_if m.c) p q cin (one_lt m.c)
  alu_ok Sbc w d e co x y new p q k =
      less_ok false w d e _ x y (one_if (not m.c)) p q cin_turned (one_lt (not m.c))
  alu_ok Rsc w d e co x y new p q k =
      less_ok false w e d _ y x (one_if (not m.c)) q p cin_turned (one_lt (not m.c))
  alu_ok Tst w d e co x y new p q k =
      logical-ok s a rd h true w _ co (AND x y) new (λ u g. r_par (r_and (p u g) (q u g))) k
  alu_ok Teq w d e co x y new p q k =
      logical-ok s a rd h true w _ co (EOR x y) new (λ u g. r_par (r_xor (p u g) (q u g))) k
  alu_ok Cmp w d e co x y new p q k = less_ok true w d e _ x y 0 p q (const 1 (lit< tt)) (lit< tt)
  alu_ok Cmn w d e co x y new p q k =
      sum-ok s a rd h true w d e _ x y 0 p q (const 0 (lit< tt)) (lit< tt)
  alu_ok Orr w d e co x y new p q k =
      logical-ok s a rd h false w _ co (OR x y) new (λ u g. r_par (r_or (p u g) (q u g))) k
  alu_ok Mov w d e co x y new p q k = logical-ok s a rd h false w _ co y new q k
  alu_ok Bic w d e co x y new p q k =
      logical-ok s a rd h false w _ co (AND x (NOT y)) new
      (λ u g. r_par (r_and (p u g) (r_not (q u g)))) k
  alu_ok Mvn w d e co x y new p q k =
      logical-ok s a rd h false w _ co (NOT y) new (λ u g. r_par (r_not (q u g))) k
