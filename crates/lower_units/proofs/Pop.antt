-- The pop of PC: its text leaves to the address loaded.
use Prim.Native.Nat.{ℕ, ◌+◌, ◌*◌, ◌/◌, ◌%◌, ◌≤◌, ◌<◌}
use mathlib.Core.Path.{◌≡◌, refl, sym, ap, ◌∙◌, subst}
use mathlib.Core.Bool.{Bool, true, false, cond}
use mathlib.Core.List.{List, [], ◌∷◌, ◌++◌}
use mathlib.Core.Option.{Option, some}
use native.Mathlib.Nat.{mod-lt}
use native.Mathlib.Omega.{arith}
use lib.Dec.{eqb, lit<, lit≤}
use lib.ListN.{length, length-append}
use Rattle.base_words.specs.Word.{bit}
use Rattle.base_words.proofs.Bits.{or_shifted, or_zero_r}
use Rattle.armv4t.specs.declared.Instr.{Instr}
use Rattle.c_tree.specs.Expr.{u32, udec, x-addr, reg, var, compl, add, band, bor, w32, lit, get, un}
use Rattle.c_tree.specs.Expr.{bin, read}
use Rattle.c_tree.specs.Stmt.{Plain, Owner, plain, Code, end, ◌⨾◌, braces}
use Rattle.c_meaning.specs.State.{bind, State, Scope, empty, index, value, set_c, load, enter, leave}
use Rattle.c_meaning.specs.State as S
use Rattle.c_meaning.specs.Exec.{back, step, runs}
use Rattle.c_meaning.specs.Perform.{execs, perform}
use Rattle.c_meaning.specs.Helpers.{run}
use Rattle.lower_forms.specs.Forms.{Lines}
use Rattle.lower_forms.specs.InlineBody.{each_on_line, let32, set_reg, aligned, listed, loads}
use Rattle.lower_forms.specs.Block.{emit_pop}
use Rattle.lower_units.specs.Block.{nl, sp, lines, native_text}
use Rattle.lower_units.specs.Block as L
use Rattle.armv4t_manual.specs.Machine.{Machine, update, set_regs, Sound}
use Rattle.armv4t_manual.specs.Machine as M
use Rattle.armv4t_manual.specs.Transfer.{Memory4}
use Rattle.armv4t_manual.specs.Multiple.{load_all, address_after}
use Rattle.armv4t_manual.specs.Multiple as MM
use Rattle.armv4t_manual.specs.Execute.{key, load_multiple_pc}
use Rattle.lower_forms.specs.Agree.{Agrees}
use Rattle.lower_forms.specs.Means.{statements}
use Rattle.lower_units.specs.Text.{Leaves}
use Rattle.lower_forms.proofs.Gives.{Reads, to, r_reg, r_udec, r_add, r_var, r_or}
use Rattle.lower_forms.proofs.Memory.{r_read, r_even, r_aligned, load_small}
use Rattle.lower_forms.proofs.Multiply.{reg_reads}
use Rattle.lower_forms.proofs.Listed.{listed_same, Named, listed_named, listed_length}
use Rattle.lower_forms.proofs.Multiple.{in_scope}
use Rattle.lower_units.proofs.Lines.{run_plain, run_lines}
use Rattle.lower_units.proofs.Wrapped.{after_ticks}
use Rattle.lower_units.proofs.Exits.{with_pc, closed_out}
use Rattle.lower_units.proofs.Exchange.{leave_back}
use Rattle.lower_forms.proofs.Steps.{exec1, opened, given, within, do_declare, do_plus, do_reg}
use Rattle.lower_forms.proofs.Steps.{with_scopes, with_reg}
use Rattle.base_lists.proofs.Each.{Each, each_map}
use Rattle.lower_units.proofs.Aligned.{plus_zero, twos, two_lt, zeros}
use Rattle.lower_forms.proofs.Body.{aligned_lt}

-- plain statements end in a state of which P holds
record Reaches (ps : List Plain) (z : State) (P : State → Type 0) : Type 0 where
  end : State
  ends : perform ps z ≡ some end
  holds : P end

go_on : {p : Plain} {ps : List Plain} {z y : State} {P : State → Type 0} → exec1 p z ≡ some y
    → Reaches ps y P → Reaches (p ∷ ps) z P
unfolding perform execs
go_on p q = record { end = q.end; ends = rw p q.ends; holds = q.holds }

arrive : {z : State} {P : State → Type 0} → P z → Reaches [] z P
unfolding perform execs
arrive {z} h = record { end = z; ends = refl; holds = h }

-- the loads, and then what stands after them
loads_reach : (is : List ℕ) (f : Scope) (fs : List Scope) (u : State) (m : Machine) (k : ℕ)
    (tail : Lines) {P : State → Type 0} → Each (λ i. i < 15) is
    → ((a : ℕ) → m.mem a < 256) → Agrees u m → f (index x-addr) ≡ some (u32, some k)
    → k < 4294967296
    → ((h : Scope) (y : State) → Agrees y (set_regs (load_all is k m.mem m.r) m)
    → h (index x-addr) ≡ some (u32, some (address_after is k)) → address_after is k < 4294967296
    → Reaches (statements tail) (within h fs y) P)
    → Reaches (statements (loads is ++ tail)) (within f fs u) P
loads_reach [] f fs u m k tail h b a q l next =
    next f u (record { regs = a.regs; flags = a.flags; memory = a.memory }) q l
loads_reach (i ∷ is) f fs u m k tail h b a q l next =
    let x : ℕ = Memory4 m.mem k in
    go_on
    (do_reg
    (to (ap (λ (f : ℕ → ℕ). load w32 f (k / 4 * 4)) a.memory)
    (r_read (r_aligned (r_var (u32, x-addr) refl (in_scope x-addr f fs u q) l))
    (λ j. subst (λ (f : ℕ → ℕ). f j < 256) (sym a.memory) (b j)))) i (omega (arith, h.0)))
    (go_on (do_plus x-addr f fs (set_c i x u) q (r_udec (lit< tt)))
    (loads_reach is (S.update (index x-addr) (some (u32, some ((k + 4) % 4294967296))) f) fs
    (set_c i x u) (M.set_reg i x m) ((k + 4) % 4294967296) tail h.1 b
    (with_reg a i x h.0) refl (mod-lt (k + 4) (lit< tt)) next))

-- a loaded register is a word
loaded_lt : (rn : ℕ) (is : List ℕ) (k : ℕ) (f r : ℕ → ℕ) → ((a : ℕ) → f a < 256) → r rn < 4294967296
    → load_all is k f r rn < 4294967296
loaded_lt rn [] k f r b h = h
loaded_lt rn (i ∷ is) k f r b h =
    loaded_lt rn is ((k + 4) % 4294967296) f (update i (Memory4 f k) r) b (go (eqb rn i))
  where
    go : (c : Bool) → cond c (Memory4 f k) (r rn) < 4294967296
    go true = load_small f b (k / 4 * 4)
    go false = h

module _ {z : State} {m : Machine} (s : Sound m) (a : Agrees z m) (rn : ℕ) (hn : rn < 15)
    (is : List ℕ) (hl : length is ≤ 15) (hi : Each (λ i. i < 15) is) where
  -- the registers loaded, the base moved from there, the word loaded for PC, and the machine
  abbrev regs : ℕ → ℕ
  regs = load_all is (m.r rn) m.mem m.r

  abbrev moved : ℕ
  moved = (regs rn + (length is + 1) * 4) % 4294967296

  abbrev loaded : ℕ
  loaded = Memory4 m.mem (address_after is (m.r rn))

  abbrev popped : Machine
  popped = set_regs (update rn moved regs) m

  few : (k : ℕ) → k ≤ 15 → (k + 1) * 4 < 4294967296
  few k h = omega arith

  -- what the state after the lines has
  PopReady : State → Type 0
  PopReady y = Agrees y popped × (value (var (u32, x-addr)) y ≡ some (address_after is (m.r rn)))
      × (address_after is (m.r rn) < 4294967296)

  lines_reach : Reaches
      (statements
      (loads is
      ++ each_on_line (set_reg rn (bin add (get (reg rn)) (lit udec ((length is + 1) * 4))) ∷ [])))
      (within (given x-addr (m.r rn) empty) z.scopes z) PopReady
  unfolding PopReady
  lines_reach =
      loads_reach is (given x-addr (m.r rn) empty) z.scopes z m (m.r rn)
      (each_on_line (set_reg rn (bin add (get (reg rn)) (lit udec ((length is + 1) * 4))) ∷ [])) hi
      s.bytes a refl (s.words rn hn)
      λ h y b q l.
      go_on
      (do_reg
      (r_add (r_reg {z = within h z.scopes y} rn (omega (arith, hn)) (b.regs rn hn)
      (loaded_lt rn is (m.r rn) m.mem m.r s.bytes (s.words rn hn)))
      (r_udec (few (length is) hl))) rn (omega (arith, hn)))
      (arrive (
        with_reg (with_scopes b (h ∷ z.scopes)) rn moved hn,
        in_scope x-addr h z.scopes y
            q,
        l,
      ))

  -- what is read for PC
  word_reads : (y : State) → PopReady y → Reads (read w32 (aligned 3)) y loaded
  unfolding PopReady
  word_reads y r =
      to (ap (λ (f : ℕ → ℕ). load w32 f (address_after is (m.r rn) / 4 * 4)) r.0.memory)
      (r_read (r_aligned (r_var (u32, x-addr) refl r.1 r.2))
      (λ j. subst (λ (f : ℕ → ℕ). f j < 256) (sym r.0.memory) (s.bytes j)))

  module _ (ks : List ℕ) (at : ℕ) (o : Owner) (n : ℕ) where
    -- the text, where c[15] becomes v and k is returned
    pop_text : (thumb : Bool) (v k : ℕ)
        → ((y : State) → PopReady y
        → Reads (bin band (read w32 (aligned 3)) (un compl (lit udec (cond thumb 1 3)))) y v)
        → ((y : State) → y.c 15 ≡ v
        → Reads (bin bor (get (reg 15)) (lit udec (cond thumb 1 0))) y k) → v ≡ k / 2 * 2
        → Leaves (native_text ks at o (emit_pop thumb n rn is)) z (popped, k)
    unfolding PopReady native_text run runs step
    pop_text thumb v k p e h =
        let r = lines_reach in
        let y : State = set_c 15 v r.end in
        record {
          end = leave y;
          exit = back k;
          ends = λ c.
              after_ticks o 4 n
              (sp 4 ⨾ braces (sp 1 ⨾ plain o (let32 x-addr (get (reg rn))) ⨾ rest) (nl ⨾ end)) z
              ∙ closed_out (sp 1 ⨾ plain o (let32 x-addr (get (reg rn))) ⨾ rest) (nl ⨾ end) z
              (back k) refl
              (run_plain o (let32 x-addr (get (reg rn))) rest (enter z)
              ∙ ap (λ (q : Option State). bind q (run rest))
              (do_declare x-addr empty z.scopes z refl
              (reg_reads {z = within (opened x-addr empty) z.scopes z} s (with_scopes a _) rn
              hn))
              ∙ run_lines o 6 ls out (within (given x-addr (m.r rn) empty) z.scopes z)
              ∙ ap (λ (q : Option State). bind q (run out)) r.ends
              ∙ run_plain o
              (set_reg 15
              (bin band (read w32 (aligned 3)) (un compl (lit udec (cond thumb 1 3)))))
              (L.leave o (bin bor (get (reg 15)) (lit udec (cond thumb 1 0)))) r.end
              ∙ ap (λ (q : Option State). bind q
              (run (L.leave o (bin bor (get (reg 15)) (lit udec (cond thumb 1 0))))))
              (do_reg (p r.end r.holds) 15 (lit≤ tt))
              ∙ leave_back (e y refl) o);
          leads = refl;
          pc = h;
          same = with_scopes (with_pc r.holds.0 v) _;
        }
      where
        ls : Lines
        ls =
            loads is
            ++ each_on_line (set_reg rn (bin add (get (reg rn)) (lit udec ((length is + 1) * 4))) ∷ [])

        out : Code
        out =
            sp 6 ⨾ plain o
            (set_reg 15 (bin band (read w32 (aligned 3)) (un compl (lit udec (cond thumb 1 3)))))
            ⨾ L.leave o (bin bor (get (reg 15)) (lit udec (cond thumb 1 0)))

        rest : Code
        rest = nl ⨾ lines o 6 ls out

-- with R15 the list of 16 has one more
with_pc_length : (rlist : ℕ) → bit rlist 15 ≡ true
    → length (MM.listed rlist 16) ≡ length (MM.listed rlist 15) + 1
unfolding MM.listed
with_pc_length rlist q = ap (λ (b : Bool). length (MM.listed rlist 15 ++ cond b (15 ∷ []) [])) q
    ∙ length-append (MM.listed rlist 15) (15 ∷ [])

-- the pop of PC, LDMIA Rn!, {.., pc}: the text leaves as the manual does
pub pop_leaves : (i : Instr) (rn rlist : ℕ) → rn < 15 → bit rlist 15 ≡ true
    → (cycles : ℕ) (ks : List ℕ) (a : ℕ) (o : Owner) {z : State} {m : Machine} → Sound m
    → Agrees z m
    → Leaves (native_text ks a o (emit_pop i.thumb cycles rn (listed rlist 15))) z
    (load_multiple_pc i true false true rn rlist m)
pop_leaves i rn rlist hn h15 n ks a o {z} {m} s g =
    subst (λ (js : List ℕ). Leaves (native_text ks a o (emit_pop i.thumb n rn js)) z
    (load_multiple_pc i true false true rn rlist m)) (sym (listed_same rlist 15))
    (subst (λ (k : ℕ). Leaves (native_text ks a o (emit_pop i.thumb n rn is)) z (made k))
    (sym (with_pc_length rlist h15)) (go i.thumb))
  where
    is : List ℕ
    is = MM.listed rlist 15

    x : ℕ
    x = Memory4 m.mem (address_after is (m.r rn))

    r1 : ℕ → ℕ
    r1 = load_all is (m.r rn) m.mem m.r

    made : ℕ → Machine × ℕ
    made k = (
      set_regs (update rn ((r1 rn + k * 4) % 4294967296) r1) m,
      key i.thumb
          (cond i.thumb (x / 2 * 2) (x / 4 * 4)),
    )

    lt : x < 4294967296
    lt = load_small m.mem s.bytes (address_after is (m.r rn) / 4 * 4)

    hi : Each (λ j. j < 15) is
    hi = each_map (Named rlist 15) (λ j. j < 15) (λ j h. h.0) is (listed_named rlist 15)

    go : (t : Bool)
        → Leaves (native_text ks a o (emit_pop t n rn is)) z
        (popped s g rn hn is (listed_length rlist 15) hi, key t (cond t (x / 2 * 2) (x / 4 * 4)))
    go true =
        pop_text s g rn hn is (listed_length rlist 15) hi ks a o n true (x / 2 * 2) (x / 2 * 2 + 1)
        (λ y r. r_even (word_reads s g rn hn is (listed_length rlist 15) hi y r))
        (λ y e. to (or_shifted (x / 2) 1 1 (lit< tt))
        (r_or (r_reg 15 (lit≤ tt) e (two_lt x lt)) (r_udec (lit< tt)))) (twos x)
    go false =
        pop_text s g rn hn is (listed_length rlist 15) hi ks a o n false (x / 4 * 4) (x / 4 * 4 + 0)
        (λ y r. r_aligned (word_reads s g rn hn is (listed_length rlist 15) hi y r))
        (λ y e. to (or_zero_r (x / 4 * 4) ∙ plus_zero (x / 4 * 4))
        (r_or (r_reg 15 (lit≤ tt) e (aligned_lt x lt)) (r_udec (lit< tt)))) (zeros x)
