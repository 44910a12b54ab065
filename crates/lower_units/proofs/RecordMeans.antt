-- Every native record: the manual says what it does, but for those that Unsaid names, and its text
-- acts so, named differences aside.
use Prim.Native.Nat.{ℕ, ◌+◌}
use mathlib.Core.Path.{◌≡◌, refl, sym, ◌∙◌, subst}
use mathlib.Core.Bool.{Bool, true, false, not, cond, ◌&&◌, ◌||◌, true≢false}
use mathlib.Core.List.{List}
use mathlib.Core.Option.{Option, none, some}
use lib.Dec.{eqb}
use Rattle.base_words.specs.Word.{bit}
use Rattle.armv4t.specs.declared.Op.{Op}
use Rattle.armv4t.specs.declared.Op.TheVariants.{Alu, Mul, MulLong, Swap, Bx, Branch, ThumbBlHigh}
use Rattle.armv4t.specs.declared.Op.TheVariants.{ThumbBlLow, Mem, BlockMem, Mrs, MsrReg, MsrImm}
use Rattle.armv4t.specs.declared.Op.TheVariants.{Swi, Undefined}
use Rattle.armv4t.specs.declared.Instr.{Instr}
use Rattle.armv4t.specs.Cond.{is_al}
use Rattle.file_instrs.specs.declared.decode.TimedInstr.{TimedInstr}
use Rattle.c_tree.specs.Stmt.{Owner}
use Rattle.c_meaning.specs.State.{State}
use Rattle.lower_forms.specs.Forms.{Lines, Native, bx, native}
use Rattle.lower_forms.specs.Operands.{reg_expr}
use Rattle.lower_forms.specs.InlineBody.{listed, op_body, inline_body}
use Rattle.lower_forms.specs.Block.{flush_ticks, native_exit, is_pop, emit_pop, emit_straight, emit_op}
use Rattle.lower_forms.specs.Block.{emit_instr}
use Rattle.lower_forms.specs.Agree.{Agrees}
use Rattle.lower_units.specs.Block.{native_text}
use Rattle.armv4t_manual.specs.Machine.{Machine, Sound}
use Rattle.armv4t.specs.InRange.{InRange}
use Rattle.armv4t_manual.specs.Conditions.{passed}
use Rattle.armv4t_manual.specs.Execute.{operation, execute, load_multiple_pc, key_after}
use Rattle.armv4t_manual.proofs.Kept.{WrittenOut, execute_said}
use Rattle.lower_forms.proofs.Operands.{ne_of, under}
use Rattle.lower_forms.proofs.Body.{some_same, not_none, or_l, or_r}
use Rattle.lower_forms.proofs.OpMeans.{op_means}
use Rattle.lower_units.specs.Text.{Leaves, Acts, continues, leaves}
use Rattle.lower_units.specs.Records.{is_transfer, is_taken, is_named_difference, RecordMeans}
use Rattle.lower_units.proofs.Outcome.{al_passes, always}
use Rattle.lower_units.proofs.Straight.{native_same, not_shell, lowered, straight_means}
use Rattle.lower_units.proofs.Branches.{branch_means}
use Rattle.lower_units.proofs.Exchange.{bx_leaves}
use Rattle.lower_units.proofs.Pop.{pop_leaves}

-- what is not none was not refused by the test before it
unless : {A : Type 0} (b : Bool) (o : Option A) {x : A} → cond b none o ≡ some x → b ≡ false
unless true o q = absurd (not_none q)
unless false o q = refl

-- what is lowered to lines is written out in the manual's operations
body_written : (i : Instr) (op : Op) (ls : Lines) → op_body i.thumb i op ≡ some ls → WrittenOut op
body_written i (Alu op s rd rn op2) ls q = ne_of rd 15 (unless (eqb rd 15) _ q)
body_written i (Mul acc s rd rn rs rm) ls q = tt
body_written i (MulLong signed acc s hi lo rs rm) ls q = tt
body_written i (Swap b rd rm rn) ls q = not_none q
body_written i (Bx rm) ls q = tt
body_written i (Branch link target) ls q = tt
body_written i (ThumbBlHigh lr) ls q = tt
body_written i (ThumbBlLow off) ls q = tt
body_written i (Mem ld width signed rd rn offset pre up writeback) ls q =
    ne_of rd 15 (unless (eqb rd 15) _ q)
body_written i (BlockMem ld rn rlist pre up s_bit writeback) ls q =
    or_l s_bit (eqb rlist 0)
    (or_l (s_bit || eqb rlist 0) (eqb rn 15)
    (or_l (s_bit || eqb rlist 0 || eqb rn 15) (ld && bit rlist 15)
    (unless (s_bit || eqb rlist 0 || eqb rn 15 || (ld && bit rlist 15)) _ q)))
body_written i (Mrs spsr rd) ls q = not_none q
body_written i (MsrReg spsr fields rm) ls q = not_none q
body_written i (MsrImm spsr fields value) ls q = not_none q
body_written i (Swi imm) ls q = not_none q
body_written i (Undefined raw) ls q = not_none q

-- what is lowered to lines is no transfer
body_onward : (i : Instr) (op : Op) (ls : Lines) → op_body i.thumb i op ≡ some ls
    → is_transfer op ≡ false
body_onward i (Alu op s rd rn op2) ls q = refl
body_onward i (Mul acc s rd rn rs rm) ls q = refl
body_onward i (MulLong signed acc s hi lo rs rm) ls q = refl
body_onward i (Swap b rd rm rn) ls q = refl
body_onward i (Bx rm) ls q = absurd (not_none q)
body_onward i (Branch link target) ls q = absurd (not_none q)
body_onward i (ThumbBlHigh lr) ls q = refl
body_onward i (ThumbBlLow off) ls q = refl
body_onward i (Mem ld width signed rd rn offset pre up writeback) ls q = refl
body_onward i (BlockMem ld rn rlist pre up s_bit writeback) ls q =
    or_r (s_bit || eqb rlist 0 || eqb rn 15) (ld && bit rlist 15)
    (unless (s_bit || eqb rlist 0 || eqb rn 15 || (ld && bit rlist 15)) _ q)
body_onward i (Mrs spsr rd) ls q = refl
body_onward i (MsrReg spsr fields rm) ls q = refl
body_onward i (MsrImm spsr fields value) ls q = refl
body_onward i (Swi imm) ls q = refl
body_onward i (Undefined raw) ls q = refl

-- not both, where the second test fails
not_both : (x y : Bool) → y ≡ false → (x && y) ≡ false
not_both true y q = q
not_both false y q = refl

-- both tests hold
both : (x y : Bool) → (x && y) ≡ true → (x ≡ true) × (y ≡ true)
both true y q = (refl, q)
both false y q = absurd (true≢false (sym q))

-- what makes a BlockMem a native pop of PC: it loads, after, upwards, without S and with writeback;
-- PC is listed, Rn is not R15, and indirect exits are native
pop_tests : (ld pre up s_bit writeback listed pc exit : Bool)
    → (ld && not pre && up && not s_bit && writeback && listed && not pc && exit) ≡ true
    → (ld ≡ true) × (pre ≡ false) × (up ≡ true) × (s_bit ≡ false) × (writeback ≡ true)
    × (listed ≡ true) × (pc ≡ false) × (exit ≡ true)
pop_tests true false true false true true false true q =
    (refl, refl, refl, refl, refl, refl, refl, refl)
pop_tests true false true false true true false false q = absurd (true≢false (sym q))
pop_tests true false true false true true true exit q = absurd (true≢false (sym q))
pop_tests true false true false true false pc exit q = absurd (true≢false (sym q))
pop_tests true false true false false listed pc exit q = absurd (true≢false (sym q))
pop_tests true false true true writeback listed pc exit q = absurd (true≢false (sym q))
pop_tests true false false s_bit writeback listed pc exit q = absurd (true≢false (sym q))
pop_tests true true up s_bit writeback listed pc exit q = absurd (true≢false (sym q))
pop_tests false pre up s_bit writeback listed pc exit q = absurd (true≢false (sym q))

module _ (region : ℕ) (x : TimedInstr) (cycles : ℕ) (r : Native) where
  abbrev i : Instr
  i = x.instr

  -- an indirect exit that is native by a test, and else a straight-line instruction
  exit_or_straight : (P : Native → Type 0) (b : Bool) (n : Native) (touchesBus : Bool)
      → (b ≡ true → P n) → ((emit_straight i.thumb touchesBus cycles x).0 ≡ native r → P r)
      → (cond b (native n, 0) (emit_straight i.thumb touchesBus cycles x)).0 ≡ native r → P r
  exit_or_straight P true n touchesBus f h e = subst P (native_same e) (f refl)
  exit_or_straight P false n touchesBus f h e = h e

  -- where a record is native its operation is written out
  straight_written : (touchesBus : Bool) → (emit_straight i.thumb touchesBus cycles x).0 ≡ native r
      → (op : Op) → i.op ≡ op → WrittenOut op
  unfolding inline_body
  straight_written touchesBus e op q = let w = lowered i.thumb touchesBus cycles x r e in
      subst WrittenOut q (body_written i i.op w.0 w.1)

  -- a straight-line instruction is no transfer
  straight_onward : (touchesBus : Bool) → (emit_straight i.thumb touchesBus cycles x).0 ≡ native r
      → is_transfer i.op ≡ false
  unfolding inline_body
  straight_onward touchesBus e =
      let w = lowered i.thumb touchesBus cycles x r e in body_onward i i.op w.0 w.1

  op_written : (op : Op) → i.op ≡ op → (emit_op i.thumb region cycles x op).0 ≡ native r
      → WrittenOut op
  op_written (Alu op s rd rn op2) q e = straight_written false e (Alu op s rd rn op2) q
  op_written (Mul acc s rd rn rs rm) q e = straight_written false e (Mul acc s rd rn rs rm) q
  op_written (MulLong signed acc s hi lo rs rm) q e =
      straight_written false e (MulLong signed acc s hi lo rs rm) q
  op_written (Swap b rd rm rn) q e = straight_written false e (Swap b rd rm rn) q
  op_written (Bx rm) q e = tt
  op_written (Branch link target) q e = tt
  op_written (ThumbBlHigh lr) q e = tt
  op_written (ThumbBlLow off) q e = tt
  op_written (Mem ld width signed rd rn offset pre up writeback) q e =
      straight_written true e (Mem ld width signed rd rn offset pre up writeback) q
  op_written (BlockMem ld rn rlist pre up s_bit writeback) q e =
      exit_or_straight (λ r. s_bit ≡ false) (is_pop region i ld rn rlist pre up s_bit writeback) _
      true
      (λ t. (pop_tests ld pre up s_bit writeback (bit rlist 15) (eqb rn 15) (native_exit region i) t
      ).3)
      (λ e. straight_written true e (BlockMem ld rn rlist pre up s_bit writeback) q) e
  op_written (Mrs spsr rd) q e = straight_written false e (Mrs spsr rd) q
  op_written (MsrReg spsr fields rm) q e = straight_written false e (MsrReg spsr fields rm) q
  op_written (MsrImm spsr fields value) q e = straight_written false e (MsrImm spsr fields value) q
  op_written (Swi imm) q e = straight_written false e (Swi imm) q
  op_written (Undefined raw) q e = straight_written false e (Undefined raw) q

  module _ (ks : List ℕ) (at : ℕ) (range : InRange i.op) (o : Owner) {z : State} {m : Machine}
      (s : Sound m) (g : Agrees z m)
      (d : is_named_difference i m ≡ false) (next : Machine × ℕ) (ex : execute i m ≡ some next) where
    Result : Native → Type 0
    Result r = Acts (native_text ks at o r) (is_taken i m) z next (key_after i)

    in_range : (op : Op) → i.op ≡ op → InRange op
    in_range op q = subst InRange q range

    straight_acts : (touchesBus : Bool) → (emit_straight i.thumb touchesBus cycles x).0 ≡ native r
        → Result r
    unfolding Result
    straight_acts touchesBus e = let w =
        straight_means x (op_means i i.op range) ks at o s g d next ex touchesBus cycles r e in
        continues
        (not_both (passed i.cond m) (is_transfer i.op) (straight_onward touchesBus e)) w.1
        w.0

    bx_acts : (rm : ℕ) → i.op ≡ Bx rm → is_al i.cond ≡ true
        → Result (bx (flush_ticks (cycles + x.cost)) (reg_expr i rm))
    unfolding Result
    bx_acts rm q al =
        leaves (rw (al_passes i.cond al m, q))
        (subst (Leaves _ z) (some_same (always i m next al ex (Bx rm) q))
        (bx_leaves i rm (in_range (Bx rm) q) ks at o (cycles + x.cost) s g))

    pop_acts : (ld : Bool) (rn rlist : ℕ) (pre up s_bit writeback : Bool)
        → i.op ≡ BlockMem ld rn rlist pre up s_bit writeback
        → is_pop region i ld rn rlist pre up s_bit writeback ≡ true
        → Result (emit_pop i.thumb (cycles + x.cost) rn (listed rlist 15))
    unfolding Result
    pop_acts ld rn rlist pre up s_bit writeback q t =
        let op : Op = BlockMem ld rn rlist pre up s_bit writeback in
        let w =
        pop_tests ld pre up s_bit writeback (bit rlist 15) (eqb rn 15) (native_exit region i)
        t in
        let popped : operation i op m ≡ some (load_multiple_pc i true false true rn rlist m) =
        rw (w.0, w.1, w.2, w.3, w.4, w.5) in
        let al : is_al i.cond ≡ true = (both (is_al i.cond) (not (eqb region 0)) w.7).0 in
        let taken : is_taken i m ≡ true = rw (al_passes i.cond al m, q, w.0, w.5) in
        leaves taken
        (subst (Leaves _ z) (some_same (sym popped ∙ always i m next al ex op q))
        (pop_leaves i rn rlist (under rn (in_range op q).0 w.6) w.5 (cycles + x.cost) ks at
        o s g))

    op_acts : (op : Op) → i.op ≡ op → (emit_op i.thumb region cycles x op).0 ≡ native r → Result r
    unfolding Result
    op_acts (Alu op s rd rn op2) q e = straight_acts false e
    op_acts (Mul acc s rd rn rs rm) q e = straight_acts false e
    op_acts (MulLong signed acc s hi lo rs rm) q e = straight_acts false e
    op_acts (Swap b rd rm rn) q e = straight_acts false e
    op_acts (Bx rm) q e =
        exit_or_straight Result (native_exit region i) _ false
        (λ t. bx_acts rm q (both (is_al i.cond) (not (eqb region 0)) t).0) (straight_acts false)
        e
    op_acts (Branch link target) q e =
        subst Result (native_same e)
        (branch_means i link target q (in_range (Branch link target) q) (cycles + x.cost) ks at o s
        g d next ex)
    op_acts (ThumbBlHigh lr) q e = absurd (not_shell e)
    op_acts (ThumbBlLow off) q e = straight_acts false e
    op_acts (Mem ld width signed rd rn offset pre up writeback) q e = straight_acts true e
    op_acts (BlockMem ld rn rlist pre up s_bit writeback) q e =
        exit_or_straight Result (is_pop region i ld rn rlist pre up s_bit writeback) _ true
        (pop_acts ld rn rlist pre up s_bit writeback q) (straight_acts true) e
    op_acts (Mrs spsr rd) q e = straight_acts false e
    op_acts (MsrReg spsr fields rm) q e = straight_acts false e
    op_acts (MsrImm spsr fields value) q e = straight_acts false e
    op_acts (Swi imm) q e = straight_acts false e
    op_acts (Undefined raw) q e = straight_acts false e

pub record_means : (ks : List ℕ) (at region : ℕ) (x : TimedInstr) → InRange x.instr.op
    → RecordMeans ks at region x
unfolding emit_instr Result
record_means ks at region x range =
    record {
      said =
          λ cycles r e n u m. execute_said x.instr m
          (op_written region x cycles r x.instr.op refl e) n u;
      acts =
          λ cycles r e o z m s g d next ex. op_acts region x cycles r ks at range o s g d next ex
          x.instr.op refl e;
    }
