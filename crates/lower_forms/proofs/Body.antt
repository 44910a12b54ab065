-- What the lines of an instruction mean, class by class.
use mathlib.Core.Path.{◌≡◌, refl, sym, ap, subst}
use mathlib.Core.Bool.{Bool, true, false, not, cond, ◌&&◌, ◌||◌}
use mathlib.Core.List.{List, [], ◌∷◌}
use mathlib.Core.Option.{Option, none, some}
use Prim.Native.Nat.{ℕ, zero, suc, ◌*◌, ◌/◌, ◌%◌, ◌≤◌, ◌<◌}
use native.Mathlib.Nat.{le_trans}
use native.Mathlib.Omega.{arith}
use lib.Dec.{T, eqb, lit≤}
use Rattle.armv4t.specs.declared.AluOp.{AluOp}
use Rattle.armv4t.specs.declared.ShiftKind.{ShiftKind}
use Rattle.armv4t.specs.declared.ShiftKind.TheVariants.{Lsl, Lsr, Asr, Ror}
use Rattle.armv4t.specs.declared.Shift.{Shift}
use Rattle.armv4t.specs.declared.Operand2.{Operand2}
use Rattle.armv4t.specs.declared.MemWidth.{MemWidth}
use Rattle.armv4t.specs.declared.MemOffset.{MemOffset}
use Rattle.armv4t.specs.declared.Op.TheVariants.{Alu, Mul, MulLong, Mem}
use Rattle.armv4t.specs.declared.Instr.{Instr}
use Rattle.armv4t.specs.Instr.{pc_value}
use Rattle.c_tree.specs.Expr.{word, x-base, x-ob, x-addr, Expr, lit, par, bin}
use Rattle.c_tree.specs.Stmt.{Plain}
use Rattle.c_tree.specs.Preamble.{v32}
use Rattle.c_meaning.specs.State.{State, enter}
use Rattle.lower_forms.specs.Forms.{Lines}
use Rattle.lower_forms.specs.Operands.{reg_expr, op2_exprs}
use Rattle.lower_forms.specs.InlineBody.{each_on_line, let32, alu_body, mul_body, base_expr}
use Rattle.lower_forms.specs.InlineBody.{shifted_offset, offset_expr, add_or_sub, access, mem_body}
use Rattle.armv4t_manual.specs.Machine.{Machine, R, Sound}
use Rattle.armv4t.specs.InRange.{OperandInRange, OffsetInRange, InRange}
use Rattle.armv4t_manual.specs.Shifter.{shift, shifter}
use Rattle.armv4t_manual.specs.DataProcessing.{is_add, is_word_offset, data_processing}
use Rattle.armv4t_manual.specs.Multiply.{multiply, multiply_long}
use Rattle.armv4t_manual.specs.Transfer.{offset_value, base, load, store}
use Rattle.armv4t_manual.specs.Execute.{onward}
use Rattle.lower_forms.specs.Agree.{Agrees}
use Rattle.lower_forms.specs.Means.{Makes, statements, Leads, OpMeans}
use Rattle.lower_forms.proofs.Gives.{Reads, r_word, r_uhex, r_par}
use Rattle.lower_forms.proofs.Operands.{same_of, under, pc_lt, operand_reads, shifted_reads}
use Rattle.lower_forms.proofs.Operands.{value_carries, shifted_carries}
use Rattle.lower_forms.proofs.Alu.{Always, alu_ok}
use Rattle.lower_forms.proofs.Multiply.{multiply_ok}
use Rattle.lower_forms.proofs.Long.{multiply_long_ok}
use Rattle.lower_forms.proofs.Transfer.{place, store_access, load_access}

-- what is some is that
from_some : {A : Type 0} → A → Option A → A
from_some d none = d
from_some d (some x) = x

pub some_same : {A : Type 0} {x y : A} → ◌≡◌ {A = Option A} (some x) (some y) → x ≡ y
unfolding from_some
some_same {x = x} q = ap (from_some x) q

is_some : {A : Type 0} → Option A → Type 0
is_some none = ⊥
is_some (some x) = Unit {0}

pub not_none : {A : Type 0} {x : A} → ◌≡◌ {A = Option A} none (some x) → ⊥
unfolding is_some
not_none q = subst is_some (sym q) tt

-- neither of two tests holds
pub or_l : (x y : Bool) → (x || y) ≡ false → x ≡ false
or_l true y q = q
or_l false y q = refl

pub or_r : (x y : Bool) → (x || y) ≡ false → y ≡ false
or_r true y q = absurd (subst T q tt)
or_r false y q = q

-- statements each in a line of its own
pub all_of : (ps : List Plain) → statements (each_on_line ps) ≡ ps
all_of [] = refl
all_of (p ∷ ps) = ap (λ (qs : List Plain). p ∷ qs) (all_of ps)

-- lines of one statement each do what the statements do
each_on_line_makes : (ps : List Plain) {z : State} {m : Machine} → Makes ps z m
    → Makes (statements (each_on_line ps)) z m
each_on_line_makes ps {z} {m} h = subst (λ (qs : List Plain). Makes qs z m) (sym (all_of ps)) h

module _ (i : Instr) {z : State} {m : Machine} (s : Sound m) (a : Agrees z m) (op : AluOp)
    (w : Bool) (rd rn : ℕ) (hd : rd < 15) (hn : rn ≤ 15) where
  -- Alu by its second operand
  alu_lines : (op2 : Operand2) → OperandInRange op2 → (ls : Lines)
      → alu_body op w rd (reg_expr i rn) (op2_exprs i op2) ≡ some ls
      → Makes (statements ls) (enter z) (data_processing op w rd rn op2 (pc_value i) m)
  alu_lines (Operand2.Imm value rot) h ls q =
      subst (λ (ls : Lines). Makes (statements ls) (enter z)
      (data_processing op w rd rn (Operand2.Imm value rot) (pc_value i) m)) (some_same q)
      (each_on_line_makes _
      (alu_ok s a rd hd op w _ _ _ (R m (pc_value i) rn) value
      (shifter m (pc_value i) (Operand2.Imm value rot)).1
      (λ u g. operand_reads u m s i g.regs rn hn) (λ u g. r_word h)
      (λ u g. value_carries u m s i g value rot)))
  alu_lines (Operand2.Reg rm (Shift.Imm kind n)) h ls q =
      subst (λ (ls : Lines). Makes (statements ls) (enter z)
      (data_processing op w rd rn (Operand2.Reg rm (Shift.Imm kind n)) (pc_value i) m))
      (some_same q)
      (each_on_line_makes _
      (alu_ok s a rd hd op w _ _ _ (R m (pc_value i) rn)
      (shift kind (R m (pc_value i) rm) n m.c).0
      (shift kind (R m (pc_value i) rm) n m.c).1
      (λ u g. operand_reads u m s i g.regs rn hn)
      (λ u g. shifted_reads u m s i g.regs g.flags rm kind n h.0 h.1)
      (λ u g. shifted_carries u m s i g rm kind n h.0 h.1)))
  alu_lines (Operand2.Reg rm (Shift.Reg kind rs)) h ls q = absurd (not_none q)

  -- Alu, whose rd is not R15 where it is lowered
  alu_outcome : (op2 : Operand2) → OperandInRange op2 → (ls : Lines)
      → alu_body op w rd (reg_expr i rn) (op2_exprs i op2) ≡ some ls
      → (next : Machine × ℕ)
      → some (onward i (data_processing op w rd rn op2 (pc_value i) m)) ≡ some next
      → Leads i ls z next
  alu_outcome op2 h ls q next o =
      subst (λ (n : Machine × ℕ). Leads i ls z n) (some_same o) ((alu_lines op2 h ls q), refl)

-- what R15 reads as is PC itself, where the text is no named difference
aligned_same : (b : Bool) (x : ℕ) → (b && not (eqb (x % 4) 0)) ≡ false → cond b (x / 4 * 4) x ≡ x
aligned_same false x q = refl
aligned_same true x q = go (eqb (x % 4) 0) refl q
  where
    whole : (x : ℕ) → x % 4 ≡ 0 → x / 4 * 4 ≡ x
    whole x e = omega arith

    go : (c : Bool) → eqb (x % 4) 0 ≡ c → not c ≡ false → x / 4 * 4 ≡ x
    go true e q = whole x (same_of (x % 4) 0 e)
    go false e q = absurd (subst T q tt)

-- Alu
pub alu_means : (i : Instr) (op : AluOp) (w : Bool) (rd rn : ℕ) (op2 : Operand2)
    → InRange (Alu op w rd rn op2) → OpMeans i (Alu op w rd rn op2)
alu_means i op w rd rn op2 r ls q z m s a bad d next o =
    go (eqb rd 15) refl q
    (subst (λ (pc : ℕ). cond (eqb rd 15) none (some (onward i (data_processing op w rd rn op2 pc m)))
    ≡ some next)
    (aligned_same (i.thumb && is_add op && eqb rn 15 && is_word_offset op2) (pc_value i) d) o)
  where
    go : (b : Bool) → eqb rd 15 ≡ b
        → cond b none (alu_body op w rd (reg_expr i rn) (op2_exprs i op2)) ≡ some ls
        → cond b none (some (onward i (data_processing op w rd rn op2 (pc_value i) m))) ≡ some next
        → Leads i ls z next
    go true e q o = absurd (not_none q)
    go false e q o = alu_outcome i s a op w rd rn (under rd r.0 e) r.1 op2 r.2 ls q next o

-- Mul
pub mul_means : (i : Instr) (acc w : Bool) (rd rn rs rm : ℕ) → InRange (Mul acc w rd rn rs rm)
    → OpMeans i (Mul acc w rd rn rs rm)
mul_means i acc w rd rn rs rm r ls q z m s a bad d next o = go (eqb rd 15) refl q
  where
    no : (eqb rd 15 || eqb rs 15 || eqb rm 15) ≡ false
    no = or_l (eqb rd 15 || eqb rs 15 || eqb rm 15) (acc && eqb rn 15) bad

    hs : rs < 15
    hs =
        under rs r.2
        (or_r (eqb rd 15) (eqb rs 15) (or_l (eqb rd 15 || eqb rs 15) (eqb rm 15) no))

    hm : rm < 15
    hm = under rm r.3 (or_r (eqb rd 15 || eqb rs 15) (eqb rm 15) no)

    hn : acc ≡ true → rn < 15
    hn e =
        under rn r.1
        (subst (λ (b : Bool). (b && eqb rn 15) ≡ false) e
        (or_r (eqb rd 15 || eqb rs 15 || eqb rm 15) (acc && eqb rn 15) bad))

    go : (b : Bool) → eqb rd 15 ≡ b
        → cond b none (some (each_on_line (mul_body acc w rd rn rs rm))) ≡ some ls → Leads i ls z next
    go true e q = absurd (not_none q)
    go false e q =
        subst (λ (n : Machine × ℕ). Leads i ls z n) (some_same o) (
          (subst (λ (ls : Lines). Makes (statements ls) (enter z) (multiply acc w rd rn rs rm m))
              (some_same q)
              (each_on_line_makes _
              (multiply_ok s a rd rn rs rm (under rd r.0 e) hs hm acc w hn))),
          refl,
        )

-- MulLong
pub mul_long_means : (i : Instr) (sig acc w : Bool) (hi lo rs rm : ℕ)
    → InRange (MulLong sig acc w hi lo rs rm) → OpMeans i (MulLong sig acc w hi lo rs rm)
mul_long_means i sig acc w hi lo rs rm r ls q z m s a bad d next o =
    let no3 : (eqb hi 15 || eqb lo 15 || eqb rs 15) ≡ false =
    or_l (eqb hi 15 || eqb lo 15 || eqb rs 15) (eqb rm 15) bad in
    let no2 : (eqb hi 15 || eqb lo 15) ≡ false = or_l (eqb hi 15 || eqb lo 15) (eqb rs 15) no3 in
    let hh : hi < 15 = under hi r.0 (or_l (eqb hi 15) (eqb lo 15) no2) in
    let hl : lo < 15 = under lo r.1 (or_r (eqb hi 15) (eqb lo 15) no2) in
    let hs : rs < 15 = under rs r.2 (or_r (eqb hi 15 || eqb lo 15) (eqb rs 15) no3) in
    let hm : rm < 15 =
    under rm r.3 (or_r (eqb hi 15 || eqb lo 15 || eqb rs 15) (eqb rm 15) bad) in
    subst (λ (n : Machine × ℕ). Leads i ls z n) (some_same o) (
      (subst (λ (ls : Lines). Makes (statements ls) (enter z)
          (multiply_long sig acc w hi lo rs rm m)) (some_same q)
          (each_on_line_makes _ (multiply_long_ok s a hi lo rs rm hh hl hs hm sig acc w))),
      refl,
    )

-- what an expression gives, an equal one gives
same_expr : {d e : Expr} {u : State} {x : ℕ} → d ≡ e → Reads d u x → Reads e u x
same_expr {u = u} {x = x} q p = subst (λ (e : Expr). Reads e u x) q p

pub aligned_lt : (x : ℕ) → x < 4294967296 → x / 4 * 4 < 4294967296
aligned_lt x h = omega arith

-- the base of a Mem, PC word-aligned in Thumb
module _ (i : Instr) {m : Machine} (s : Sound m) where
  base_always : (rn : ℕ) → rn ≤ 15
      → Always (base_expr i.thumb i rn) m (base i.thumb m (pc_value i) rn)
  base_always rn h u g = go (i.thumb && eqb rn 15)
    where
      go : (b : Bool)
          → Reads (cond b (par (lit word (pc_value i / 4 * 4))) (reg_expr i rn)) u
          (cond b (pc_value i / 4 * 4) (R m (pc_value i) rn))
      go true = r_par (r_word (aligned_lt (pc_value i) (pc_lt i)))
      go false = operand_reads u m s i g.regs rn h

  -- its offset
  shifted_always : (rm : ℕ) (k : ShiftKind) (n : ℕ) → rm ≤ 15 → n < 32 → (e : Expr)
      → shifted_offset (reg_expr i rm) k n ≡ some e
      → Always e m (shift k (R m (pc_value i) rm) n m.c).0
  shifted_always rm Lsl n h l e q u g =
      same_expr (some_same q) (shifted_reads u m s i g.regs g.flags rm Lsl n h l)
  shifted_always rm Lsr n h l e q u g =
      same_expr (some_same q) (shifted_reads u m s i g.regs g.flags rm Lsr n h l)
  shifted_always rm Asr n h l e q u g =
      same_expr (some_same q) (shifted_reads u m s i g.regs g.flags rm Asr n h l)
  shifted_always rm Ror zero h l e q u g = absurd (not_none q)
  shifted_always rm Ror (suc n) h l e q u g =
      same_expr (some_same q) (shifted_reads u m s i g.regs g.flags rm Ror (suc n) h l)

  offset_always : (offset : MemOffset) → OffsetInRange offset → (e : Expr)
      → offset_expr i offset ≡ some e → Always e m (offset_value m (pc_value i) offset)
  offset_always (MemOffset.Imm value) h e q u g =
      same_expr (some_same q) (r_uhex (le_trans h (lit≤ tt)))
  offset_always (MemOffset.Reg rm (Shift.Imm k n)) h e q u g =
      shifted_always rm k n h.0 h.1 e q u g
  offset_always (MemOffset.Reg rm (Shift.Reg k rs)) h e q u g = absurd (not_none q)

-- where a Mem is lowered, its offset is too
mem_offset : (b : Expr) (up pre : Bool) (rest : List Plain) (off : Option Expr) (ls : Lines)
    → mem_body b up pre rest off ≡ some ls
    → (e : Expr) × (off ≡ some e)
    × (each_on_line
    (let32 x-base b ∷ let32 x-ob (bin (add_or_sub up) (v32 x-base) e)
    ∷ let32 x-addr (v32 (cond pre x-ob x-base)) ∷ rest) ≡ ls)
mem_offset b up pre rest none ls q = absurd (not_none q)
mem_offset b up pre rest (some e) ls q = (e, refl, some_same q)

-- Mem
module _ (i : Instr) (ld : Bool) (width : MemWidth) (sig : Bool) (rd rn : ℕ) (offset : MemOffset)
    (pre up writeback : Bool)
    (r : InRange (Mem ld width sig rd rn offset pre up writeback)) where
  mem_makes : {z : State} {m : Machine} → Sound m → Agrees z m → rd < 15
      → (ls : Lines)
      → mem_body (base_expr i.thumb i rn) up pre
      (access ld width sig rd rn (not pre || writeback)) (offset_expr i offset) ≡ some ls
      → Makes (statements ls) (enter z)
      (let x : ℕ = base i.thumb m (pc_value i) rn in
      let off : ℕ = offset_value m (pc_value i) offset in
      cond ld (load width sig rd rn x off pre up writeback m)
      (store width rd rn x off pre up writeback m))
  mem_makes {z} {m} s a hd ls q =
      let t =
      mem_offset (base_expr i.thumb i rn) up pre
      (access ld width sig rd rn (not pre || writeback)) (offset_expr i offset) ls q in
      subst (λ (ls : Lines). Makes (statements ls) (enter z)
      (cond ld (load width sig rd rn x off pre up writeback m)
      (store width rd rn x off pre up writeback m))) t.2
      (each_on_line_makes _ (go ld t.0 (offset_always i s offset r.2 t.0 t.1)))
    where
      x : ℕ
      x = base i.thumb m (pc_value i) rn

      off : ℕ
      off = offset_value m (pc_value i) offset

      wb : Bool
      wb = not pre || writeback

      go : (l : Bool) (e : Expr) → Always e m off
          → Makes (let32 x-base (base_expr i.thumb i rn)
          ∷ let32 x-ob (bin (add_or_sub up) (v32 x-base) e)
          ∷ let32 x-addr (v32 (cond pre x-ob x-base)) ∷ access l width sig rd rn wb) (enter z)
          (cond l (load width sig rd rn x off pre up writeback m)
          (store width rd rn x off pre up writeback m))
      go true e o =
          place s a (base_expr i.thumb i rn) x (base_always i s rn r.1) pre up e off o
          (load_access s a (base_expr i.thumb i rn) x (base_always i s rn r.1) pre up e off o
          width sig wb rd rn hd r.1)
      go false e o =
          place s a (base_expr i.thumb i rn) x (base_always i s rn r.1) pre up e off o
          (store_access s a (base_expr i.thumb i rn) x (base_always i s rn r.1) pre up e off o
          width sig wb rd rn hd r.1)

  pub mem_means : OpMeans i (Mem ld width sig rd rn offset pre up writeback)
  mem_means ls q z m s a bad d next o = go (eqb rd 15) refl q o
    where
      n : Machine
      n =
          let x : ℕ = base i.thumb m (pc_value i) rn in
          let off : ℕ = offset_value m (pc_value i) offset in
          cond ld (load width sig rd rn x off pre up writeback m)
          (store width rd rn x off pre up writeback m)

      go : (b : Bool) → eqb rd 15 ≡ b
          → cond b none
          (mem_body (base_expr i.thumb i rn) up pre
          (access ld width sig rd rn (not pre || writeback)) (offset_expr i offset)) ≡ some ls
          → cond b none (some (onward i n)) ≡ some next → Leads i ls z next
      go true e q o = absurd (not_none q)
      go false e q o =
          subst (λ (n : Machine × ℕ). Leads i ls z n) (some_same o)
          ((mem_makes s a (under rd r.0 e) ls q), refl)
