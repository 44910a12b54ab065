-- The text of records one after the other carries them out in order, up to where it leaves the
-- block.
use Rattle.std.proofs.Common.{Some, None}
use Prim.Native.Nat.{ℕ, suc, ◌+◌, ◌%◌, ◌<◌}
use mathlib.Core.Path.{◌≡◌, refl, sym, ap, ◌∙◌, subst}
use mathlib.Core.Bool.{Bool, true, false, cond}
use mathlib.Core.List.{List, [], ◌∷◌, ◌++◌, Memᴰ}
use mathlib.Core.Option.{some}
use native.Mathlib.Nat.{add-zero, zero-add, mod-lt}
use native.Mathlib.Omega.{arith}
use borrow.Author.Tests.{eqb-true, eqb-false}
use lib.Dec.{eqb, lit<}
use Rattle.armv4t.specs.Bit0.{clear_bit0}
use Rattle.armv4t.specs.Instr.{size_of}
use Rattle.armv4t.specs.Fused.{Fused, fuse}
use Rattle.file_instrs.specs.declared.decode.TimedInstr.{TimedInstr}
use Rattle.file_blocks.specs.Parse.{Block}
use Rattle.file_blocks.specs.Address.{region, key_of, fall_through}
use Rattle.c_tree.specs.Expr.{u32, x-pc}
use Rattle.c_tree.specs.Stmt.{Owner, Code, end, ◌⨾◌}
use Rattle.c_meaning.specs.State.{Scope, Interpreter, State, set_c, set_scopes, interp_answer}
use Rattle.c_meaning.specs.State.{after_interp, Declares}
use Rattle.c_meaning.specs.Exec.{Goes, Outcome, back, on, runs}
use Rattle.c_meaning.specs.Helpers.{run}
use Rattle.c_meaning.proofs.Kept.{Quiet, run_quiet, run_declares}
use Rattle.armv4t_manual.specs.Machine.{Machine, Sound}
use Rattle.armv4t.specs.InRange.{InRange}
use Rattle.armv4t_manual.specs.Conditions.{passed}
use Rattle.armv4t_manual.specs.Execute.{key, execute, key_after}
use Rattle.armv4t_manual.proofs.Kept.{execute_sound, execute_said}
use Rattle.lower_forms.specs.Forms.{is_native}
use Rattle.lower_forms.specs.Forms.{Native, Form, records_in}
use Rattle.lower_forms.specs.Block.{emit_shell, emit_pair, emit_instr, fused_or, cons_form, emit_instrs}
use Rattle.lower_forms.specs.Block.{body_of}
use Rattle.lower_forms.specs.Agree.{Agrees}
use Rattle.lower_forms.proofs.Steps.{with_scopes}
use Rattle.lower_units.specs.Block.{body_key, nl, native_text, closing, code_from}
use Rattle.lower_units.specs.Text.{Continues, Leaves, Acts, continues, leaves}
use Rattle.lower_units.specs.Records.{is_taken, RecordMeans, PairMeans, ClosingMeans}
use Rattle.claim_meaning.specs.Block.{ActsAsStep, Interprets, is_covered, Alone}
use Rattle.claim_meaning.specs.Block.{leaves_by, final, away, transfers, CarriedOut, by_manual}
use Rattle.claim_meaning.specs.Block.{by_interpreter, Sequence, last, pair, more}
use Rattle.lower_units.proofs.Exits.{with_pc}
use Rattle.claim_meaning.proofs.Closing.{after_even}
use Rattle.claim_meaning.proofs.Shells.{Emitted, as_native, as_shell, emitted, some_form}
use Rattle.claim_meaning.proofs.Shells.{Half, halves, after_address, run_return, GoesOn}
use Rattle.claim_meaning.proofs.Shells.{goes_on}
use Rattle.claim_meaning.proofs.Quiet.{closing_quiet, native_quiet}
use Rattle.claim_meaning.proofs.Covered.{Said, covered_native, covered_half}
use Rattle.lower_units.proofs.Thumbs.{neither}

-- an even address with the Thumb bit
pub even_key_of : (t : Bool) (a : ℕ) → a % 2 ≡ 0 → key_of a t ≡ key t a
even_key_of true a e = omega arith
even_key_of false a e = omega arith

pub key_of_lt : (t : Bool) (a : ℕ) → a < 4294967296 → key_of a t < 4294967296
key_of_lt true a h = omega arith
key_of_lt false a h = omega arith

module _ (b : Block) (x : TimedInstr) where
  -- the key that a shell of an instruction compares with, in a block of the instruction's own set
  pub fall : x.instr.thumb ≡ b.thumb → x.instr.addr % size_of b.thumb ≡ 0
      → fall_through b.thumb x.instr ≡ key_after x.instr
  fall set aligned =
      rw set
      (even_key_of b.thumb ((x.instr.addr + size_of b.thumb) % 4294967296)
      (after_even b.thumb x.instr.addr aligned))

  pub fall_lt : fall_through b.thumb x.instr < 4294967296
  fall_lt = key_of_lt b.thumb _ (mod-lt (x.instr.addr + size_of x.instr.thumb) (lit< tt))

  -- its form there is that of its own set
  pub own_set_lem : x.instr.thumb ≡ b.thumb → (cycles : ℕ)
      → (emit_instr x.instr.thumb (region b.addr) cycles x).0
      ≡ (emit_instr b.thumb (region b.addr) cycles x).0
  own_set_lem set cycles = ap (λ (t : Bool). (emit_instr t (region b.addr) cycles x).0) set

-- text that does what other text does from another state leaves as that does
abbrev pub through : {text other : Code → Code} {z y : State} {out : Machine × ℕ}
    → ((c : Code) → run (text c) z ≡ run (other c) y) → Leaves other y out → Leaves text z out
through p l =
    record {
      end = l.end;
      exit = l.exit;
      ends = λ c. p c
          ∙ l.ends c;
      leads = l.leads;
      pc = l.pc;
      same = l.same;
    }

-- what is known of a record of a block
pub record Known (ks : List ℕ) (b : Block) (x : TimedInstr) : Type 0 where
  pub means : RecordMeans ks b.addr (region b.addr) x
  pub covered : is_covered (region b.addr) x ≡ true
  pub ranged : InRange x.instr.op
  pub set : x.instr.thumb ≡ b.thumb
  pub aligned : x.instr.addr % size_of b.thumb ≡ 0
  pub below : x.instr.addr < 4294967296

-- and of its records from one on
pub record KnownFrom (multiplier : ℕ) (ks : List ℕ) (b : Block) (xs : List TimedInstr) : Type 0
  where
    pub each : (x : TimedInstr) → Memᴰ x xs → Known ks b x
    pub pairs : (us vs : List TimedInstr) (x y : TimedInstr) → xs ≡ us ++ (x ∷ y ∷ vs)
        → PairMeans ks b.addr x y
    pub closing : (us : List TimedInstr) (x : TimedInstr) → xs ≡ us ++ (x ∷ [])
        → ClosingMeans ks (body_of multiplier b) x.instr

module _ {multiplier : ℕ} {ks : List ℕ} {b : Block} {x : TimedInstr} {xs : List TimedInstr}
    (k : KnownFrom multiplier ks b (x ∷ xs)) where
  first : Known ks b x
  first = k.each x (Memᴰ.head refl)

  others : KnownFrom multiplier ks b xs
  others =
      record {
        each = λ y i. k.each y (Memᴰ.tail i);
        pairs = λ us vs y z e. k.pairs (x ∷ us) vs y z (ap (λ (ys : List TimedInstr). x ∷ ys) e);
        closing = λ us y e. k.closing (x ∷ us) y (ap (λ (ys : List TimedInstr). x ∷ ys) e);
      }

-- the calls of the interpreter that are to come from a state are the steps from a number on
pub record Left (step : ℕ → ℕ → Machine → Machine × ℕ) (n : ℕ) (z : State) : Type 0 where
  pub each : (k : ℕ) → Interprets (step (n + k)) (z.interpreter k)

-- at the start they are all the steps
pub left_all : {step : ℕ → ℕ → Machine → Machine × ℕ} {z : State}
    → ((k : ℕ) → Interprets (step k) (z.interpreter k)) → Left step 0 z
left_all {step} {z} h =
    record {
      each =
          λ k. subst (λ (i : ℕ). Interprets (step i) (z.interpreter k)) (sym (zero-add k)) (h k);
    }

module _ {step : ℕ → ℕ → Machine → Machine × ℕ} {n : ℕ} {z : State} (l : Left step n z) where
  -- the next of them
  pub left_now : Interprets (step n) (z.interpreter 0)
  left_now = subst (λ (i : ℕ). Interprets (step i) (z.interpreter 0)) (add-zero n) (l.each 0)

  -- those after it
  pub left_later : {y : State} → y.interpreter ≡ (λ (k : ℕ). z.interpreter (suc k))
      → Left step (suc n) y
  left_later {y} e = record {
    each = λ k.
        let shift : n + suc k ≡ suc n + k = omega arith in
        subst (λ (f : ℕ → Interpreter). Interprets (step (suc n + k)) (f k)) (sym e)
        (subst (λ (i : ℕ). Interprets (step i) (z.interpreter (suc k))) shift (l.each (suc k)));
  }

  -- those from after code that does not call
  left_after : (c : Code) → Quiet c → {y : State} (w : Goes) → run c z ≡ some (y, w) → Left step n y
  left_after c q {y} w e =
      record {
        each =
            λ k. subst (λ (f : ℕ → Interpreter). Interprets (step (n + k)) (f k))
            (sym (run_quiet c q z y w e)) (l.each k);
      }

-- a state and a machine between two records, and the number of calls before
pub record AtRecord (step : ℕ → ℕ → Machine → Machine × ℕ) (n : ℕ) (z : State) (m : Machine) : Type
    0
  where
    pub left : Left step n z
    pub declares : Declares z.scopes (u32, x-pc)
    pub sound : Sound m
    pub agrees : Agrees z m

-- after text that continues
pub ready_after : {step : ℕ → ℕ → Machine → Machine × ℕ} {n : ℕ} {text : Code → Code} {z : State}
    {m next : Machine} → AtRecord step n z m → Sound next
    → Quiet (text end) → (c : Continues text z next) → AtRecord step n c.end next
unfolding run runs
ready_after {step} {n} {text} {z} q s quiet c =
    record {
      left = left_after q.left (text end) quiet on (c.goes end);
      declares = run_declares (text end) z c.end on (u32, x-pc) (c.goes end) q.declares;
      sound = s;
      agrees = c.same;
    }

-- the text of forms, from the record with index i on, carries records out and leaves; before: the
-- number of calls before it
pub record Done (step : ℕ → ℕ → Machine → Machine × ℕ) (before multiplier : ℕ) (ks : List ℕ)
    (b : Block) (xs : List TimedInstr) (m : Machine) (i : ℕ)
    (fs : List Form) (z : State) : Type 0 where
  pub out : Machine × ℕ
  pub after : ℕ
  pub sequence : Sequence step (region b.addr) before after xs m out
  pub sound : Sound out.0
  pub leaves : Leaves (λ c. code_from ks (body_of multiplier b) i fs) z out
  pub left : Left step after leaves.end

-- the interpreter at an address, from a state that agrees with a machine
module _ {step : ℕ → Machine → Machine × ℕ} (a : ℕ) (z : State) (m : Machine)
    (interprets : Interprets step (z.interpreter 0))
    (sound : Sound m) (agrees : Agrees z m) where
  pub stepped : ActsAsStep step (set_c 15 a z) m
  stepped = interprets (set_c 15 a z) m refl sound (with_pc agrees a)

  -- text that returns its answer
  abbrev pub interpreter_leaves : {text : Code → Code} {y : State} (fs : List Scope)
      → ((c : Code)
      → run (text c) y
      ≡ some (set_scopes fs (after_interp (set_c 15 a z)), back (interp_answer (set_c 15 a z))))
      → Leaves text y (step a m)
  interpreter_leaves fs ends =
      record {
        end = set_scopes fs (after_interp (set_c 15 a z));
        exit = back (interp_answer (set_c 15 a z));
        ends = ends;
        leads = ap some stepped.answers;
        pc = stepped.pc;
        same = with_scopes stepped.same fs;
      }

module _ (multiplier : ℕ) (ks : List ℕ) (b : Block) (step : ℕ → ℕ → Machine → Machine × ℕ) where
  -- what the forms after a record do, if that leads to them
  abbrev After : TimedInstr → List TimedInstr → List Form → Type 0
  After x xs fs =
      (before after : ℕ) (m : Machine) (next : Machine × ℕ)
      → CarriedOut step (region b.addr) x m next before after
      → leaves_by (region b.addr) x m ≡ false → next.1 ≡ key_after x.instr
      → (i : ℕ) (z : State) → AtRecord step after z next.0
      → Done step before multiplier ks b (x ∷ xs) m i fs z

  module _ (x : TimedInstr) (k : Known ks b x) where
    -- a native record
    module _ (natively : is_native (emit_instr b.thumb (region b.addr) 0 x).0 ≡ true) where
      said : Said x.instr
      said =
          covered_native (region b.addr) x (ap is_native (own_set_lem b x k.set 0) ∙ natively)
          k.covered

      native_done : (xs : List TimedInstr) (fs : List Form) → Alone x xs → After x xs fs
          → (i cycles : ℕ) (r : Native)
          → (emit_instr b.thumb (region b.addr) cycles x).0 ≡ Form.native r
          → (before : ℕ) (z : State) (m : Machine) → AtRecord step before z m
          → Done step before multiplier ks b (x ∷ xs) m i (Form.native r ∷ fs) z
      unfolding body_of code_from run runs
      native_done xs fs alone onward i cycles r e before z m q =
          go (k.means.acts cycles r (own_set_lem b x k.set cycles ∙ e) owner z m q.sound
          q.agrees
          (neither _ (passed x.instr.cond m) _ said.condition said.same) next
          outcome.1)
        where
          owner : Owner
          owner = Owner.native_of (body_key (body_of multiplier b))

          outcome : (next : Machine × ℕ) × (execute x.instr m ≡ some next)
          outcome =
              k.means.said cycles r (own_set_lem b x k.set cycles ∙ e) said.instruction
              said.predictable m

          next : Machine × ℕ
          next = outcome.0

          carried : CarriedOut step (region b.addr) x m next before before
          carried = by_manual before (ap is_native (own_set_lem b x k.set 0) ∙ natively) outcome.1

          still : Sound next.0
          still = execute_sound x.instr m k.ranged q.sound next outcome.1

          -- it leaves the block where it is a transfer that is taken
          leaving : is_taken x.instr m ≡ true → leaves_by (region b.addr) x m ≡ true
          leaving t = rw (ap is_native (own_set_lem b x k.set 0) ∙ natively) t

          stays : is_taken x.instr m ≡ false → leaves_by (region b.addr) x m ≡ false
          stays t = rw (ap is_native (own_set_lem b x k.set 0) ∙ natively) t

          go : Acts (native_text ks b.addr owner r) (is_taken x.instr m) z next
              (key_after x.instr)
              → Done step before multiplier ks b (x ∷ xs) m i (Form.native r ∷ fs) z
          go (continues t to-next c) =
              let d =
              onward before before m next carried (stays t) to-next (i + records_in r) c.end
              (ready_after q still (native_quiet ks b.addr owner r end tt) c) in
              record {
                out = d.out;
                after = d.after;
                sequence = d.sequence;
                sound = d.sound;
                leaves =
                    through (λ d. c.goes (code_from ks (body_of multiplier b) (i + records_in r) fs))
                    d.leaves;
                left = d.left;
              }
          go (leaves t l) =
              record {
                out = next;
                after = before;
                sequence = last before before x xs m next alone carried (transfers (leaving t));
                sound = still;
                leaves =
                    record {
                      end = l.end;
                      exit = l.exit;
                      ends = λ c. l.ends (code_from ks (body_of multiplier b) (i + records_in r) fs);
                      leads = l.leads;
                      pc = l.pc;
                      same = l.same;
                    };
                left =
                    left_after q.left (native_text ks b.addr owner r end)
                    (native_quiet ks b.addr owner r end tt) l.exit (l.ends end);
              }

    -- a shell
    module _ (not-native : is_native (emit_instr b.thumb (region b.addr) 0 x).0 ≡ false) where
      shell_carried : (n : ℕ) (m : Machine)
          → CarriedOut step (region b.addr) x m (step n x.instr.addr m) n (suc n)
      shell_carried n m = by_interpreter n (ap is_native (own_set_lem b x k.set 0) ∙ not-native) refl

      shell_stays : (m : Machine) → leaves_by (region b.addr) x m ≡ false
      shell_stays m = rw (ap is_native (own_set_lem b x k.set 0) ∙ not-native)

      module _ (high : Bool) (i cycles before : ℕ) (z : State) (m : Machine)
          (q : AtRecord step before z m) where
        -- what the interpreter makes of it
        abbrev by_step : ActsAsStep (step before) (set_c 15 x.instr.addr z) m
        by_step = stepped x.instr.addr z m (left_now q.left) q.sound q.agrees

        shell_last : Done step before multiplier ks b (x ∷ []) m i
            (emit_shell b.thumb high cycles x.instr ∷ []) z
        unfolding code_from
        shell_last =
            record {
              out = step before x.instr.addr m;
              after = suc before;
              sequence =
                  last before (suc before) x [] m (step before x.instr.addr m) tt
                  (shell_carried before m) (final refl);
              sound = by_step.sound;
              leaves =
                  interpreter_leaves x.instr.addr z m (left_now q.left) q.sound
                  q.agrees z.scopes λ c.
                  after_address cycles x.instr.addr _ z k.below
                  ∙ run_return (body_key (body_of multiplier b)) i
                  (nl ⨾ cond high (closing ks (body_of multiplier b)) end)
                  (set_c 15 x.instr.addr z);
              left = left_later q.left refl;
            }

        shell_done : (xs : List TimedInstr) (r : Form) (rs : List Form) → Alone x xs
            → After x xs (r ∷ rs)
            → Done step before multiplier ks b (x ∷ xs) m i
            (emit_shell b.thumb high cycles x.instr ∷ r ∷ rs) z
        unfolding code_from
        shell_done xs r rs alone onward =
            go (eqb (interp_answer (set_c 15 x.instr.addr z)) (fall_through b.thumb x.instr))
            refl
          where
            g : GoesOn (set_c 15 x.instr.addr z)
            g = goes_on (set_c 15 x.instr.addr z) q.declares

            after : State
            after = set_scopes g.scopes (after_interp (set_c 15 x.instr.addr z))

            -- by whether the interpreter answers the key after the record
            branches : Bool → Outcome
            branches t =
                cond t (run (code_from ks (body_of multiplier b) (i + 1) (r ∷ rs)) after)
                (some (after, back (interp_answer (set_c 15 x.instr.addr z))))

            starts : (t : Bool)
                → eqb (interp_answer (set_c 15 x.instr.addr z))
                (fall_through b.thumb x.instr) ≡ t
                → run (code_from ks (body_of multiplier b) i
                (emit_shell b.thumb high cycles x.instr ∷ r ∷ rs)) z ≡ branches t
            starts t e =
                after_address cycles x.instr.addr _ z k.below
                ∙ g.goes (body_of multiplier b) i (fall_through b.thumb x.instr)
                (code_from ks (body_of multiplier b) (i + 1) (r ∷ rs)) (fall_lt b x)
                ∙ ap branches e

            go : (t : Bool)
                → eqb (interp_answer (set_c 15 x.instr.addr z))
                (fall_through b.thumb x.instr) ≡ t
                → Done step before multiplier ks b (x ∷ xs) m i
                (emit_shell b.thumb high cycles x.instr ∷ r ∷ rs) z
            go true e =
                let to-next =
                sym by_step.answers ∙ eqb-true _ _ e ∙ fall b x k.set k.aligned in
                let d =
                onward before (suc before) m (step before x.instr.addr m)
                (shell_carried before m) (shell_stays m) to-next (i + 1) after
                (record {
                  left = left_later q.left refl;
                  declares = g.declares;
                  sound = by_step.sound;
                  agrees = with_scopes by_step.same g.scopes;
                })
                in
                record {
                  out = d.out;
                  after = d.after;
                  sequence = d.sequence;
                  sound = d.sound;
                  leaves = through (λ c. starts true e) d.leaves;
                  left = d.left;
                }
            go false e =
                record {
                  out = step before x.instr.addr m;
                  after = suc before;
                  sequence =
                      last before (suc before) x xs m (step before x.instr.addr m) alone
                      (shell_carried before m)
                      (away (λ p. eqb-false _ _ e
                      (by_step.answers ∙ p ∙ sym (fall b x k.set k.aligned))));
                  sound = by_step.sound;
                  leaves =
                      interpreter_leaves x.instr.addr z m (left_now q.left) q.sound
                      q.agrees g.scopes (λ c. starts false e);
                  left = left_later q.left refl;
                }

  -- a fused pair, whatever stands after it
  pair_done : (x y : TimedInstr) → Known ks b x → Known ks b y → PairMeans ks b.addr x y
      → (target ret : ℕ) → fuse x.instr y.instr ≡ Some (target, ret)
      → (xs : List TimedInstr) (fs : List Form) (i cycles before : ℕ) (z : State) (m : Machine)
      → AtRecord step before z m
      → Done step before multiplier ks b (x ∷ y ∷ xs) m i
      (Form.native (emit_pair cycles target ret) ∷ fs) z
  unfolding body_of code_from run runs
  pair_done x y k l means target ret e xs fs i cycles before z m q =
      let o : Owner = Owner.native_of (body_key (body_of multiplier b)) in
      let t =
      means target ret e cycles o z m q.sound q.agrees half.0 next.0 half.1
      next.1 in
      record {
        out = next.0;
        after = before;
        sequence = pair before x y xs target ret m half.0 next.0 e half.1 next.1;
        sound = execute_sound y.instr half.0.0 l.ranged still next.0 next.1;
        leaves =
            record {
              end = t.end;
              exit = t.exit;
              ends = λ c. t.ends (code_from ks (body_of multiplier b) (i + 2) fs);
              leads = t.leads;
              pc = t.pc;
              same = t.same;
            };
        left =
            let r : Native = emit_pair cycles target ret in
            left_after q.left (native_text ks b.addr o r end)
            (native_quiet ks b.addr o r end tt) t.exit (t.ends end);
      }
    where
      both : Half x.instr.op × Half y.instr.op
      both = halves x.instr y.instr target ret e

      said-x : Said x.instr
      said-x = covered_half (region b.addr) x both.0.half k.covered

      said-y : Said y.instr
      said-y = covered_half (region b.addr) y both.1.half l.covered

      half : (next : Machine × ℕ) × (execute x.instr m ≡ some next)
      half =
          execute_said x.instr m both.0.written said-x.instruction said-x.predictable

      next : (next : Machine × ℕ) × (execute y.instr half.0.0 ≡ some next)
      next =
          execute_said y.instr half.0.0 both.1.written said-y.instruction
          said-y.predictable

      still : Sound half.0.0
      still = execute_sound x.instr m k.ranged q.sound half.0 half.1

  -- after the last record stands the closing transfer
  after_last : (x : TimedInstr) → ClosingMeans ks (body_of multiplier b) x.instr → After x [] []
  unfolding code_from
  after_last x means before after m next carried stays to-next i z q =
      let l = means z next.0 q.agrees in
      record {
        out = next;
        after = after;
        sequence = last before after x [] m next tt carried (final refl);
        sound = q.sound;
        leaves =
            record {
              end = l.end;
              exit = l.exit;
              ends = l.ends;
              leads = l.leads
                  ∙ ap some (sym to-next);
              pc = l.pc ∙ ap clear_bit0 (sym to-next);
              same = l.same;
            };
        left =
            left_after q.left (closing ks (body_of multiplier b))
            (closing_quiet ks (body_of multiplier b)) l.exit (l.ends end);
      }

  -- after another stand those that follow
  after_more : (x y : TimedInstr) (ys : List TimedInstr) (fs : List Form) → Alone x (y ∷ ys)
      → ((i before : ℕ) (z : State) (m : Machine) → AtRecord step before z m
      → Done step before multiplier ks b (y ∷ ys) m i fs z) → After x (y ∷ ys) fs
  after_more x y ys fs alone follow before after m next carried stays to-next i z q =
      let d = follow i after z next.0 q in
      record {
        out = d.out;
        after = d.after;
        sequence =
            more before after d.after x (y ∷ ys) m next d.out alone carried stays to-next
            d.sequence;
        sound = d.sound;
        leaves = d.leaves;
        left = d.left;
      }

  module _ (x : TimedInstr) (k : Known ks b x) (i cycles before : ℕ) (z : State) (m : Machine)
      (q : AtRecord step before z m) where
    -- the last record
    last_done : ClosingMeans ks (body_of multiplier b) x.instr
        → Done step before multiplier ks b (x ∷ []) m i
        ((emit_instr b.thumb (region b.addr) cycles x).0 ∷ []) z
    last_done means = go (emitted b.thumb (region b.addr) cycles x) refl refl
      where
        go : {f : Form} {n : Bool} → Emitted b.thumb cycles x.instr f n
            → (emit_instr b.thumb (region b.addr) cycles x).0 ≡ f
            → is_native (emit_instr b.thumb (region b.addr) 0 x).0 ≡ n
            → Done step before multiplier ks b (x ∷ []) m i (f ∷ []) z
        go (as_native r) e t =
            native_done x k t [] [] tt (after_last x means) i cycles r e before z m q
        go (as_shell high) e t = shell_last x k t high i cycles before z m q

    -- another that is not fused
    alone_done : (y : TimedInstr) (ys : List TimedInstr) (r : Form) (rs : List Form)
        → Alone x (y ∷ ys) → After x (y ∷ ys) (r ∷ rs)
        → Done step before multiplier ks b (x ∷ y ∷ ys) m i
        ((emit_instr b.thumb (region b.addr) cycles x).0 ∷ r ∷ rs) z
    alone_done y ys r rs alone onward =
        go (emitted b.thumb (region b.addr) cycles x) refl refl
      where
        go : {f : Form} {n : Bool} → Emitted b.thumb cycles x.instr f n
            → (emit_instr b.thumb (region b.addr) cycles x).0 ≡ f
            → is_native (emit_instr b.thumb (region b.addr) 0 x).0 ≡ n
            → Done step before multiplier ks b (x ∷ y ∷ ys) m i (f ∷ r ∷ rs) z
        go (as_native s) e t =
            native_done x k t (y ∷ ys) (r ∷ rs) alone onward i cycles s e before z m q
        go (as_shell high) e t =
            shell_done x k t high i cycles before z m q (y ∷ ys) r rs alone onward

  -- the text of records, from one on
  pub carries : (xs : List TimedInstr) (x : TimedInstr) → KnownFrom multiplier ks b (x ∷ xs)
      → (i cycles before : ℕ) (z : State) (m : Machine) → AtRecord step before z m
      → Done step before multiplier ks b (x ∷ xs) m i
      (emit_instrs b.thumb (region b.addr) cycles (x ∷ xs)).0 z
  unfolding emit_instrs
  carries [] x k i cycles before z m q =
      last_done x (first k) i cycles before z m q (k.closing [] x refl)
  carries (y ∷ ys) x k i cycles before z m q =
      go (carries ys y (others k)) (fuse x.instr y.instr) refl
    where
      s : Form × ℕ
      s = emit_instr b.thumb (region b.addr) cycles x

      fs : List Form × ℕ
      fs = emit_instrs b.thumb (region b.addr) s.1 (y ∷ ys)

      go : ((i cycles before : ℕ) (z : State) (m : Machine) → AtRecord step before z m
          → Done step before multiplier ks b (y ∷ ys) m i
          (emit_instrs b.thumb (region b.addr) cycles (y ∷ ys)).0 z)
          → (f : Fused) → fuse x.instr y.instr ≡ f
          → Done step before multiplier ks b (x ∷ y ∷ ys) m i
          (fused_or f (cons_form s.0 fs)
          (λ target ret. cons_form (Form.native (emit_pair (cycles + (x.cost + y.cost)) target ret))
          (emit_instrs b.thumb (region b.addr) 0 ys))).0 z
      go follow None e =
          let f = some_form b.thumb (region b.addr) s.1 y ys in
          subst (λ (rs : List Form). Done step before multiplier ks b (x ∷ y ∷ ys) m i (s.0 ∷ rs)
          z) (sym f.2)
          (alone_done x (first k) i cycles before z m q y ys f.0 f.1 e
          (subst (λ (rs : List Form). After x (y ∷ ys) rs) f.2
          (after_more x y ys fs.0 e (λ j n u. follow j s.1 n u))))
      go follow (Some (target, ret)) e =
          pair_done x y (first k) (first (others k)) (k.pairs [] ys x y refl) target ret e ys
          (emit_instrs b.thumb (region b.addr) 0 ys).0 i
          (cycles + (x.cost + y.cost)) before z m q
