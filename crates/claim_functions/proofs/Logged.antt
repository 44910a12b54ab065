-- What is counted where the text of a block is run is what is carried out by its records_in, one
-- after the other.
use Rattle.std.proofs.Common.{Some}
use Prim.Native.Nat.{ℕ, suc, ◌+◌, ◌%◌, ◌<◌}
use mathlib.Core.Path.{◌≡◌, refl, sym, ap, ◌∙◌, subst}
use mathlib.Core.Logic.{◌⊎◌, inl, inr}
use mathlib.Core.Bool.{Bool, true, false, cond, true≢false}
use mathlib.Core.List.{List, [], ◌∷◌, ◌++◌, Memᴰ}
use mathlib.Core.Option.{some}
use native.Mathlib.Omega.{arith}
use borrow.Author.Tests.{eqb-true, eqb-false}
use lib.Dec.{eqb}
use Rattle.armv4t.specs.Instr.{size_of}
use Rattle.armv4t.specs.Fused.{fuse}
use Rattle.file_instrs.specs.declared.decode.TimedInstr.{TimedInstr}
use Rattle.file_blocks.specs.Parse.{Block}
use Rattle.file_blocks.specs.Address.{region, fall_through}
use Rattle.c_tree.specs.Expr.{word, x-pc, ne, lit, bin}
use Rattle.c_tree.specs.Preamble.{v32}
use Rattle.c_tree.specs.Stmt.{other, Owner, common, ret_if, interp, Code, end, ◌⨾◌}
use Rattle.c_meaning.specs.State.{State, set_c, set_scopes, interp_answer, after_interp}
use Rattle.c_meaning.specs.Exec.{on, back, step, runs}
use Rattle.c_meaning.specs.Helpers.{run}
use Rattle.armv4t_manual.specs.Machine.{Machine, Sound}
use Rattle.armv4t_manual.specs.Conditions.{passed}
use Rattle.armv4t_manual.specs.Execute.{execute, key_after}
use Rattle.lower_forms.specs.Forms.{is_native}
use Rattle.lower_forms.specs.Forms.{Native, Form, records_in, Body}
use Rattle.lower_forms.specs.Block.{flush_ticks, pc_line, emit_shell, emit_pair, emit_instr, emit_instrs}
use Rattle.lower_forms.specs.Block.{body_of}
use Rattle.lower_forms.proofs.Steps.{with_scopes}
use Rattle.lower_forms.proofs.RecordCount.{record_count, instr_count_lem}
use Rattle.lower_units.specs.Block.{body_key, nl, sp, native_text, shell_code, code_from}
use Rattle.lower_units.specs.Text.{Leaves, Acts, continues, leaves}
use Rattle.lower_units.specs.Records.{is_taken, RecordMeans, PairMeans}
use Rattle.claim_meaning.specs.Block.{ActsAsStep, is_native_record, is_covered}
use Rattle.claim_meaning.specs.Block.{Alone, leaves_by, Ends, final, away, transfers, CarriedOut}
use Rattle.claim_meaning.specs.Block.{by_manual, by_interpreter, Sequence, last, pair, more}
use Rattle.claim_meaning.proofs.Shells.{Emitted, as_native, as_shell, emitted, some_form}
use Rattle.claim_meaning.proofs.Shells.{after_address, GoesOn, goes_on}
use Rattle.claim_meaning.proofs.Quiet.{native_quiet}
use Rattle.claim_meaning.proofs.Covered.{Said, covered_native}
use Rattle.claim_meaning.proofs.Carried.{AtRecord, left_now, left_later, stepped}
use Rattle.claim_ways.specs.Ways.{Event, native_start, interpreted}
use Rattle.claim_functions.specs.Execution.{act}
use Rattle.claim_functions.specs.Counted.{record_event, sequence_events}
use Rattle.claim_functions.proofs.Log.{led_on, log, log_append, silent_log, silent_on}
use Rattle.claim_functions.proofs.Texts.{native_goes, native_leaves, lines_log, closing_log}
use Rattle.lower_units.proofs.Thumbs.{neither}
use Rattle.claim_meaning.proofs.Carried.{fall, fall_lt, own_set_lem, ready_after}

-- what is known of a record of a block
pub record Facts (ks : List ℕ) (b : Block) (x : TimedInstr) : Type 0 where
  pub means : RecordMeans ks b.addr (region b.addr) x
  pub covered : is_covered (region b.addr) x ≡ true
  pub sound : (m : Machine) (next : Machine × ℕ) → Sound m → execute x.instr m ≡ some next
      → Sound next.0
  pub set : x.instr.thumb ≡ b.thumb
  pub aligned : x.instr.addr % size_of b.thumb ≡ 0
  pub below : x.instr.addr < 4294967296

-- and of its records_in from one on
pub record FactsFrom (ks : List ℕ) (b : Block) (xs : List TimedInstr) : Type 0 where
  pub each : (x : TimedInstr) → Memᴰ x xs → Facts ks b x
  pub pairs : (us vs : List TimedInstr) (x y : TimedInstr) → xs ≡ us ++ (x ∷ y ∷ vs)
      → PairMeans ks b.addr x y

facts_later : {ks : List ℕ} {b : Block} {x : TimedInstr} {xs : List TimedInstr}
    → FactsFrom ks b (x ∷ xs) → FactsFrom ks b xs
facts_later {x = x} k =
    record {
      each = λ y i. k.each y (Memᴰ.tail i);
      pairs = λ us vs y z e. k.pairs (x ∷ us) vs y z (ap (λ (ys : List TimedInstr). x ∷ ys) e);
    }

-- the forms of a record that is not fused, and of those after it; and of a pair
forms_alone : (t : Bool) (region cycles : ℕ) (x : TimedInstr) (xs : List TimedInstr) → Alone x xs
    → (emit_instrs t region cycles (x ∷ xs)).0
    ≡ (emit_instr t region cycles x).0
    ∷ (emit_instrs t region (emit_instr t region cycles x).1 xs).0
unfolding emit_instrs
forms_alone t region cycles x [] h = refl
forms_alone t region cycles x (y ∷ ys) h = rw h

no_form : (t : Bool) (region cycles : ℕ) (xs : List TimedInstr) → xs ≡ []
    → (emit_instrs t region cycles xs).0 ≡ []
unfolding emit_instrs
no_form t region cycles [] e = refl
no_form t region cycles (x ∷ xs) e = absurd (let y : ◌≡◌ {A = ℕ} 0 1 = cc in omega arith)

forms_pair : (t : Bool) (region cycles : ℕ) (x y : TimedInstr) (ys : List TimedInstr)
    (target ret : ℕ) → fuse x.instr y.instr ≡ Some (target, ret)
    → (emit_instrs t region cycles (x ∷ y ∷ ys)).0
    ≡ Form.native (emit_pair (cycles + (x.cost + y.cost)) target ret)
    ∷ (emit_instrs t region 0 ys).0
unfolding emit_instrs
forms_pair t region cycles x y ys target ret e = rw e

-- what is counted of a shell that others stand after
shell_alone : (b : Body) (i k : ℕ) (z : State)
    → log (shell_code b i k end) z ≡ interpreted (body_key b) i ∷ []
unfolding log step
shell_alone b i k z =
    let rest : Code =
    sp 1 ⨾ ret_if common (other (bin ne (v32 x-pc) (lit word k))) (v32 x-pc) ⨾ nl ⨾ end in
    ap (λ l. interpreted (body_key b) i ∷ l)
    (silent_on (act (interp (body_key b) i) z) (log rest)
    (silent_log rest (refl, (refl, (refl, tt)))))

shell_log : (b : Body) (i k : ℕ) (c : Code) (z : State)
    → log (shell_code b i k c) z
    ≡ interpreted (body_key b) i ∷ led_on (run (shell_code b i k end) z) (log c)
shell_log b i k c z = log_append (shell_code b i k end) c z
    ∙ ap (λ l. l ++ led_on (run (shell_code b i k end) z) (log c)) (shell_alone b i k z)

module _ (multiplier : ℕ) (ks : List ℕ) (b : Block) (step : ℕ → ℕ → Machine → Machine × ℕ) where
  -- the block as printed, and its key
  abbrev body : Body
  body = body_of multiplier b

  -- what is counted of the text of a record, whose form has fs after it, from z on: the record, and
  -- what is counted after it where the text goes on; else the record alone, and the record does not
  -- lead to one after it
  abbrev One : TimedInstr → Machine → Machine × ℕ → ℕ → Event → ℕ → Form → List Form → State
      → Type 0
  One x m next after e i f fs z =
      (w : State) × AtRecord step after w next.0 × (leaves_by (region b.addr) x m ≡ false)
      × (next.1 ≡ key_after x.instr)
      × (log (code_from ks body i (f ∷ fs)) z ≡ e ∷ log (code_from ks body (i + 1) fs) w)

  abbrev Only : TimedInstr → Machine → Machine × ℕ → Event → ℕ → Form → List Form → State → Type 0
  Only x m next e i f fs z =
      ((r : Form) (rs : List Form) → fs ≡ r ∷ rs → leaves_by (region b.addr) x m ≡ false
      → next.1 ≡ key_after x.instr → ⊥)
      × (log (code_from ks body i (f ∷ fs)) z ≡ e ∷ [])

  module _ (x : TimedInstr) (k : Facts ks b x) where
    native_one : (i cycles : ℕ) (r : Native) (fs : List Form)
        → (emit_instr b.thumb (region b.addr) cycles x).0 ≡ Form.native r
        → is_native_record (region b.addr) x ≡ true
        → (n : ℕ) (z : State) (m : Machine) → AtRecord step n z m → (next : Machine × ℕ)
        → execute x.instr m ≡ some next
        → One x m next n (native_start (body_key body) i 1) i (Form.native r) fs z
        ⊎ Only x m next (native_start (body_key body) i 1) i (Form.native r) fs z
    unfolding body_of code_from log Rattle.c_meaning.specs.Exec.step
    native_one i cycles r fs e natively n z m q next x' =
        go (k.means.acts cycles r (own_set_lem b x k.set cycles ∙ e) owner z m q.sound
        q.agrees
        (neither _ (passed x.instr.cond m) _ said.condition said.same) next x')
      where
        owner : Owner
        owner = Owner.native_of (body_key body)

        said : Said x.instr
        said = covered_native (region b.addr) x natively k.covered

        one : records_in r ≡ 1
        one = sym (ap record_count e) ∙ instr_count_lem b.thumb (region b.addr) cycles x

        go : Acts (native_text ks b.addr owner r) (is_taken x.instr m) z next
            (key_after x.instr)
            → One x m next n (native_start (body_key body) i 1) i (Form.native r) fs z
            ⊎ Only x m next (native_start (body_key body) i 1) i (Form.native r) fs z
        go (continues t to-next c) =
            inl (
              c.end,
              ready_after q (k.sound m next q.sound x')
                  (native_quiet ks b.addr owner r end tt)
                  c,
              rw natively t,
              to-next,
              ap (λ l. native_start (body_key body) i (records_in r) ∷ l)
                  (native_goes ks b.addr owner r z next.0 c
                  (code_from ks body (i + records_in r) fs))
                  ∙ ap (λ (j : ℕ). native_start (body_key body) i j
                  ∷ log (code_from ks body (i + j) fs) c.end) one,
            )
        go (leaves t l) =
            inr (
              λ r rs e s p. let y : leaves_by (region b.addr) x m ≡ true =
                  rw natively t in true≢false (sym y ∙ s),
              ap (λ l. native_start (body_key body) i (records_in r) ∷ l)
                  (native_leaves ks b.addr owner r z next l
                  (code_from ks body (i + records_in r) fs))
                  ∙ ap (λ (j : ℕ). native_start (body_key body) i j ∷ []) one,
            )

    -- a shell
    module _ (not-native : is_native_record (region b.addr) x ≡ false) (high : Bool)
        (i cycles n : ℕ) (z : State) (m : Machine) (q : AtRecord step n z m) where
      -- where C stands after the lines of a shell, and what the interpreter makes of it
      abbrev at : State
      at = set_c 15 x.instr.addr z

      abbrev by_step : ActsAsStep (step n) at m
      by_step = stepped x.instr.addr z m (left_now q.left) q.sound q.agrees

      -- the last record of the block
      last_one : log (code_from ks body i (emit_shell b.thumb high cycles x.instr ∷ [])) z
          ≡ interpreted (body_key body) i ∷ []
      unfolding code_from log Rattle.c_meaning.specs.Exec.step
      last_one =
          lines_log common 4 (flush_ticks cycles ++ pc_line x.instr.addr) _ z at
          (after_address cycles x.instr.addr end z k.below)

      -- another
      shell_one : (r : Form) (rs : List Form)
          → One x m (step n x.instr.addr m) (suc n) (interpreted (body_key body) i) i
          (emit_shell b.thumb high cycles x.instr) (r ∷ rs) z
          ⊎ Only x m (step n x.instr.addr m) (interpreted (body_key body) i) i
          (emit_shell b.thumb high cycles x.instr) (r ∷ rs) z
      unfolding code_from run runs
      shell_one r rs = go (eqb (interp_answer at) (fall_through b.thumb x.instr)) refl
        where
          g : GoesOn at
          g = goes_on at q.declares

          after : State
          after = set_scopes g.scopes (after_interp at)

          fs : Code
          fs = code_from ks body (i + 1) (r ∷ rs)

          logs : (t : Bool) → eqb (interp_answer at) (fall_through b.thumb x.instr) ≡ t
              → log (code_from ks body i (emit_shell b.thumb high cycles x.instr ∷ r ∷ rs)) z
              ≡ interpreted (body_key body) i
              ∷ led_on (cond t (some (after, on)) (some (after, back (interp_answer at))))
              (log fs)
          logs t e =
              lines_log common 4 (flush_ticks cycles ++ pc_line x.instr.addr) _ z at
              (after_address cycles x.instr.addr end z k.below)
              ∙ shell_log body i (fall_through b.thumb x.instr) fs at
              ∙ ap (λ o. interpreted (body_key body) i ∷ led_on o (log fs))
              (g.goes body i (fall_through b.thumb x.instr) end (fall_lt b x)
              ∙ ap (λ t. cond t (some (after, on)) (some (after, back (interp_answer at)))) e)

          stays : leaves_by (region b.addr) x m ≡ false
          stays = rw not-native

          go : (t : Bool) → eqb (interp_answer at) (fall_through b.thumb x.instr) ≡ t
              → One x m (step n x.instr.addr m) (suc n) (interpreted (body_key body) i) i
              (emit_shell b.thumb high cycles x.instr) (r ∷ rs) z
              ⊎ Only x m (step n x.instr.addr m) (interpreted (body_key body) i) i
              (emit_shell b.thumb high cycles x.instr) (r ∷ rs) z
          go true e =
              inl (
                after,
                record {
                  left = left_later q.left refl;
                  declares = g.declares;
                  sound = by_step.sound;
                  agrees = with_scopes by_step.same g.scopes;
                },
                stays,
                sym by_step.answers ∙ eqb-true _ _ e ∙ fall b x k.set k.aligned,
                logs true e,
              )
          go false e =
              inr (
                λ s ss p l f. eqb-false _ _ e
                    (by_step.answers ∙ f ∙ sym (fall b x k.set k.aligned)),
                logs false e,
              )

    -- a record that is not fused
    one : (i cycles : ℕ) (fs : List Form) (n after : ℕ) (z : State) (m : Machine)
        (next : Machine × ℕ) (by : CarriedOut step (region b.addr) x m next n after)
        → AtRecord step n z m
        → One x m next after (record_event (body_key body) i by) i
        (emit_instr b.thumb (region b.addr) cycles x).0 fs z
        ⊎ Only x m next (record_event (body_key body) i by) i
        (emit_instr b.thumb (region b.addr) cycles x).0 fs z
    one i cycles fs n after z m next (by_manual n' natively x') q =
        go (emitted b.thumb (region b.addr) cycles x) refl refl
      where
        go : {f : Form} {t : Bool} → Emitted b.thumb cycles x.instr f t
            → (emit_instr b.thumb (region b.addr) cycles x).0 ≡ f
            → is_native (emit_instr b.thumb (region b.addr) 0 x).0 ≡ t
            → One x m next n (native_start (body_key body) i 1) i f fs z
            ⊎ Only x m next (native_start (body_key body) i 1) i f fs z
        go (as_native r) e t = native_one i cycles r fs e natively n z m q next x'
        go (as_shell high) e t =
            absurd (true≢false (sym natively ∙ ap is_native (own_set_lem b x k.set 0) ∙ t))
    one i cycles fs n after z m next (by_interpreter n' not-native made) q =
        go (emitted b.thumb (region b.addr) cycles x) refl fs
      where
        go : {f : Form} {t : Bool} → Emitted b.thumb cycles x.instr f t
            → is_native (emit_instr b.thumb (region b.addr) 0 x).0 ≡ t → (fs : List Form)
            → One x m next (suc n) (interpreted (body_key body) i) i f fs z
            ⊎ Only x m next (interpreted (body_key body) i) i f fs z
        go (as_native r) t fs =
            absurd (true≢false (sym t ∙ sym (ap is_native (own_set_lem b x k.set 0)) ∙ not-native))
        go (as_shell high) t [] =
            inr (
              λ r rs e s p. (let y : ◌≡◌ {A = ℕ} 0 1 = cc in omega arith),
              last_one not-native
                  high i cycles n z m q,
            )
        go (as_shell high) t (r ∷ rs) =
            subst
            (λ next. One x m next (suc n) (interpreted (body_key body) i) i
            (emit_shell b.thumb high cycles x.instr) (r ∷ rs) z
            ⊎ Only x m next (interpreted (body_key body) i) i
            (emit_shell b.thumb high cycles x.instr) (r ∷ rs) z)
            made (shell_one not-native high i cycles n z m q r rs)

  -- a fused pair
  pair_log : (i c target ret : ℕ) (z : State) (next : Machine × ℕ) (fs : List Form)
      → Leaves (native_text ks b.addr (Owner.native_of (body_key body)) (emit_pair c target ret)) z
      next
      → log (code_from ks body i (Form.native (emit_pair c target ret) ∷ fs)) z
      ≡ native_start (body_key body) i 2 ∷ []
  unfolding body_of code_from log Rattle.c_meaning.specs.Exec.step
  pair_log i c target ret z next fs l =
      ap (λ l. native_start (body_key body) i 2 ∷ l)
      (native_leaves ks b.addr (Owner.native_of (body_key body)) (emit_pair c target ret) z next
      l (code_from ks body (i + 2) fs))

  -- a sequence has a record
  some_record : {before after : ℕ} {xs : List TimedInstr} {m : Machine} {out : Machine × ℕ}
      → Sequence step (region b.addr) before after xs m out
      → (y : TimedInstr) × (ys : List TimedInstr) × (xs ≡ y ∷ ys)
  some_record (last i j x xs m next alone by ends) = (x, xs, refl)
  some_record (pair n x y xs target ret m half next e f g) = (x, y ∷ xs, refl)
  some_record (more i j k x xs m next out alone by stays e s) = (x, xs, refl)

  -- records_in one after the other
  pub logged : {before after : ℕ} {xs : List TimedInstr} {m : Machine} {out : Machine × ℕ}
      (s : Sequence step (region b.addr) before after xs m out) → FactsFrom ks b xs
      → (i cycles : ℕ) (z : State) → AtRecord step before z m
      → log (code_from ks body i (emit_instrs b.thumb (region b.addr) cycles xs).0) z
      ≡ sequence_events (body_key body) i s
  unfolding code_from
  logged (last before after x xs m next alone by ends) F i cycles z q =
      ap (λ fs. log (code_from ks body i fs) z)
      (forms_alone b.thumb (region b.addr) cycles x xs alone)
      ∙ go (one x (F.each x (Memᴰ.head refl)) i cycles fs before after z m next by q)
    where
      fs : List Form
      fs =
          (emit_instrs b.thumb (region b.addr)
          (emit_instr b.thumb (region b.addr) cycles x).1 xs).0

      nothing-after : (w : State) → leaves_by (region b.addr) x m ≡ false
          → next.1 ≡ key_after x.instr → Ends (region b.addr) x xs m next
          → log (code_from ks body (i + 1) fs) w ≡ []
      nothing-after w stays p (final e) =
          ap (λ fs. log (code_from ks body (i + 1) fs) w)
          (no_form b.thumb (region b.addr) _ xs e) ∙ closing_log ks body w
      nothing-after w stays p (away h) = absurd (h p)
      nothing-after w stays p (transfers t) = absurd (true≢false (sym t ∙ stays))

      go : One x m next after (record_event (body_key body) i by) i
          (emit_instr b.thumb (region b.addr) cycles x).0 fs z
          ⊎ Only x m next (record_event (body_key body) i by) i
          (emit_instr b.thumb (region b.addr) cycles x).0 fs z
          → log (code_from ks body i ((emit_instr b.thumb (region b.addr) cycles x).0 ∷ fs)) z
          ≡ record_event (body_key body) i by ∷ []
      go (inl r) = r.4
          ∙ ap (λ l. record_event (body_key body) i by ∷ l) (nothing-after r.0 r.2 r.3 ends)
      go (inr r) = r.1
  logged (pair n x y xs target ret m half next e f g) F i cycles z q =
      let c : ℕ = cycles + (x.cost + y.cost) in
      let o : Owner = Owner.native_of (body_key body) in
      ap (λ fs. log (code_from ks body i fs) z)
      (forms_pair b.thumb (region b.addr) cycles x y xs target ret e)
      ∙ pair_log i c target ret z next (emit_instrs b.thumb (region b.addr) 0 xs).0
      (F.pairs [] xs x y refl target ret e c o z m q.sound q.agrees half next f g)
  logged (more before mid after x xs m next out alone by stays e s) F i cycles z q =
      ap (λ fs. log (code_from ks body i fs) z)
      (forms_alone b.thumb (region b.addr) cycles x xs alone)
      ∙ go (λ w r. logged s (facts_later F) (i + 1)
      (emit_instr b.thumb (region b.addr) cycles x).1 w r)
      (one x (F.each x (Memᴰ.head refl)) i cycles fs before mid z m next by q)
    where
      fs : List Form
      fs =
          (emit_instrs b.thumb (region b.addr)
          (emit_instr b.thumb (region b.addr) cycles x).1 xs).0

      a-form : (r : Form) × (rs : List Form) × (fs ≡ r ∷ rs)
      a-form =
          let a = some_record s in
          let c : ℕ = (emit_instr b.thumb (region b.addr) cycles x).1 in
          let f = some_form b.thumb (region b.addr) c a.0 a.1 in
          (f.0, f.1, ap (λ ys. (emit_instrs b.thumb (region b.addr) c ys).0) a.2 ∙ f.2)

      go : ((w : State) → AtRecord step mid w next.0
          → log (code_from ks body (i + 1) fs) w ≡ sequence_events (body_key body) (i + 1) s)
          → One x m next mid (record_event (body_key body) i by) i
          (emit_instr b.thumb (region b.addr) cycles x).0 fs z
          ⊎ Only x m next (record_event (body_key body) i by) i
          (emit_instr b.thumb (region b.addr) cycles x).0 fs z
          → log (code_from ks body i ((emit_instr b.thumb (region b.addr) cycles x).0 ∷ fs)) z
          ≡ record_event (body_key body) i by ∷ sequence_events (body_key body) (i + 1) s
      go follow (inl r) =
          r.4 ∙ ap (λ l. record_event (body_key body) i by ∷ l) (follow r.0 r.1)
      go follow (inr r) = absurd (r.0 a-form.0 a-form.1 a-form.2 stays e)
