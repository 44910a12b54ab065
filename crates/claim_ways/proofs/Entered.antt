-- From each block's function a way goes through the text of the records that the block prints.
use Prim.Native.Nat.{ℕ, suc, ◌+◌, ◌≤◌}
use mathlib.Core.Path.{◌≡◌, refl, sym, ap, ◌∙◌, subst}
use mathlib.Core.Bool.{Bool, true, false, cond, true≢false}
use mathlib.Core.List.Memᴰ
use mathlib.Core.List.{List, [], ◌∷◌, map, Memᴰ}
use mathlib.Core.Option.{Option, none, some}
use native.Mathlib.Omega.{arith}
use borrow.Author.Tests.{eq-eqb}
use lib.Dec.{ltb}
use Rattle.c_tree.specs.Expr.{Expr}
use Rattle.c_tree.specs.Stmt.{Plain, Owner, common, gap, plain, Code, end, ◌⨾◌, when, braces, ◌⧺◌}
use Rattle.c_tree.specs.Stmt.{block, group, Top, function, guard, gate, other}
use Rattle.lower_forms.specs.Forms.{Lines, Native, straight, straight_if, branch_if, jump, pair, bx}
use Rattle.lower_forms.specs.Forms.{pop, Form, shell, records_in, Body}
use Rattle.lower_forms.specs.Operands.{flags}
use Rattle.lower_forms.proofs.RecordCount.{record_counts}
use Rattle.lower_units.specs.Block.{body_key, body_length, nl, sp, line, lines, conditional}
use Rattle.lower_units.specs.Block.{native_text, code_from, under_guard, block_code}
use Rattle.file_blocks.specs.Address.{outside_rom_bios}
use Rattle.lower_units.specs.Units.{with_locals, emit_block, labelled, group_code, forwarders}
use Rattle.lower_units.specs.Units.{emit_group}
use Rattle.claim_ways.specs.Ways.{LabelAt, here, later, past_when, past_braces, Event, reach}
use Rattle.claim_ways.specs.Ways.{said, native_start, interpreted, negated, taken, Way, stop}
use Rattle.claim_ways.specs.Ways.{w_gap}
use Rattle.claim_ways.specs.Ways.{w_record, w_plain, w_label, w_goto, w_lost, w_ret, w_leave}
use Rattle.claim_ways.specs.Ways.{w_stay, w_unsaid, w_call, w_interp, w_ret_interp, w_entry}
use Rattle.claim_ways.specs.Ways.{w_default, w_past, w_when, w_unanswered, w_braces}
use Rattle.claim_ways.specs.Claim.{times_carried}
use Rattle.claim_ways.specs.Applies.{leaves, form_events, guarded_events, body_events}
use Rattle.claim_ways.specs.Applies.{answers_and_records}
use Rattle.claim_ways.proofs.Functions.{forwarder}
use Rattle.c_tree.proofs.Laws.{append_assoc}

taken_append : (x : Bool) (b c d : Code) → taken x b c ⧺ d ≡ taken x b (c ⧺ d)
taken_append true b c d = append_assoc b c d
taken_append false b c d = refl

-- a way is one with other code after
extend : {ts : List Top} {f c : Code} {xs : List Bool} {es : List Event} (d : Code)
    → Way ts f c xs es → Way ts f (c ⧺ d) xs es
extend d stop = stop
extend d (w_gap w) = w_gap (extend d w)
extend d (w_record w) = w_record (extend d w)
extend d (w_plain w) = w_plain (extend d w)
extend d (w_label w) = w_label (extend d w)
extend d (w_goto p w) = w_goto p w
extend d w_lost = w_lost
extend d w_ret = w_ret
extend d w_leave = w_leave
extend d (w_stay w) = w_stay (extend d w)
extend d w_unsaid = w_unsaid
extend {ts} d (w_when {f = f} {b = b} {c = c} {xs = xs} {es = es} {n = n} {x = x} w) =
    w_when (subst (λ e. Way ts f e xs es) (taken_append (negated n x) b c d) (extend d w))
extend d w_unanswered = w_unanswered
extend {ts} d (w_braces {f = f} {b = b} {c = c} {xs = xs} {es = es} w) =
    w_braces (subst (λ e. Way ts f e xs es) (append_assoc b c d) (extend d w))
extend d (w_call m w) = w_call m w
extend d (w_interp w) = w_interp (extend d w)
extend d w_ret_interp = w_ret_interp
extend d (w_entry m p w) = w_entry m p w
extend d w_default = w_default
extend d (w_past w) = w_past (extend d w)

-- a place after other code
past : {k : ℕ} (c d e : Code) → LabelAt k d e → LabelAt k (c ⧺ d) e
past end d e p = p
past (s ⨾ c) d e p = later (past c d e p)
past (when o n t b c) d e p = past_when (past c d e p)
past (braces b c) d e p = past_braces (past c d e p)

-- lines, and what stands after the code after them
pub line_append : (o : Owner) (ps : List Plain) (c d : Code) → line o ps (c ⧺ d) ≡ line o ps c ⧺ d
line_append o [] c d = refl
line_append o (p ∷ []) c d = refl
line_append o (p ∷ q ∷ ps) c d = ap (λ x. plain o p ⨾ sp 1 ⨾ x) (line_append o (q ∷ ps) c d)

pub lines_append : (o : Owner) (n : ℕ) (ls : Lines) (c d : Code)
    → lines o n ls (c ⧺ d) ≡ lines o n ls c ⧺ d
lines_append o n [] c d = refl
lines_append o n (l ∷ ls) c d = ap (λ x. sp n ⨾ line o l (nl ⨾ x)) (lines_append o n ls c d)
    ∙ ap (λ x. sp n ⨾ x) (line_append o l (nl ⨾ lines o n ls c) d)

module _ (ts : List Top) (f : Code) (ls : List Event) where
  -- some way from c on of which guard and gate say, and is carried out, what ls has
  abbrev pub Through : Code → Type 0
  Through c =
      (xs : List Bool) × (es : List Event) × Way ts f c xs es × (answers_and_records es ≡ ls)

  over_gap : (l : Bool) (n : ℕ) (c : Code) → Through c → Through (gap l n ⨾ c)
  over_gap l n c r = (r.0, r.1, w_gap r.2, r.3)

  over_plain : (o : Owner) (p : Plain) (c : Code) → Through c → Through (plain o p ⨾ c)
  over_plain o p c r = (r.0, _, w_plain r.2, r.3)

  over_line : (o : Owner) (ps : List Plain) (c : Code) → Through c → Through (line o ps c)
  over_line o [] c r = r
  over_line o (p ∷ []) c r = over_plain o p c r
  over_line o (p ∷ q ∷ ps) c r = over_plain o p _ (over_gap false 1 _ (over_line o (q ∷ ps) c r))

  over_lines : (o : Owner) (n : ℕ) (ls : Lines) (c : Code) → Through c → Through (lines o n ls c)
  over_lines o n [] c r = r
  over_lines o n (l ∷ ls) c r =
      over_gap false n _
      (over_line o l (nl ⨾ lines o n ls c) (over_gap true 0 _ (over_lines o n ls c r)))

  over_braces : (b c : Code) → Through (b ⧺ c) → Through (braces b c)
  over_braces b c r = (r.0, r.1, w_braces r.2, r.3)

  -- past a condition of the text's own that does not hold
  over_when : (o : Owner) (e : Expr) (b c : Code) → Through c → Through (when o false (other e) b c)
  over_when o e b c r = (false ∷ r.0, _, w_when r.2, r.3)

  over_conditional : (o : Owner) (e : Expr) (b c : Code) → Through c
      → Through (conditional o e b c)
  over_conditional o e b c r =
      over_gap false 4 _
      (over_braces _ _
      (over_gap false 1 _
      (subst Through
      (line_append o flags (gap true 6 ⨾ when o false (other e) b (sp 1 ⨾ end)) (nl ⨾ c))
      (over_line o flags _
      (over_gap true 6 _ (over_when o e b _ (over_gap false 1 _ (over_gap true 0 c r))))))))

  -- past a native form that does not leave
  over_native : (ks : List ℕ) (a : ℕ) (o : Owner) (r : Native) (c : Code) → leaves r ≡ false
      → Through c → Through (native_text ks a o r c)
  unfolding native_text
  over_native ks a o (straight t l) c h r =
      over_lines o 4 t _
      (over_gap false 4 _
      (over_braces _ _
      (over_gap true 0 _
      (subst Through (lines_append o 8 l (sp 4 ⨾ end) (nl ⨾ c))
      (over_lines o 8 l _ (over_gap false 4 _ (over_gap true 0 c r)))))))
  over_native ks a o (straight_if t e l) c h r = over_lines o 4 t _ (over_conditional o e _ c r)
  over_native ks a o (branch_if t e l k) c h r = over_lines o 4 t _ (over_conditional o e _ c r)
  over_native ks a o (jump t k) c h r = absurd (true≢false h)
  over_native ks a o (pair t k) c h r = absurd (true≢false h)
  over_native ks a o (bx t e) c h r = absurd (true≢false h)
  over_native ks a o (pop t p l q e) c h r = absurd (true≢false h)

  before : (c d : Code) → Through c → Through (c ⧺ d)
  before c d r = (r.0, r.1, extend d r.2, r.3)

  over_locals : (c : Code) → Through c → Through (with_locals c)
  unfolding with_locals
  over_locals c r =
      over_gap true 4 _
      (over_plain common _ _
      (over_gap true 4 _
      (over_plain common _ _
      (over_gap false 1 _ (over_plain common _ _ (over_gap true 0 c r))))))

module _ (ts : List Top) (f : Code) (ks : List ℕ) (b : Body) where
  from_code : (i : ℕ) (rs : List Form)
      → Through ts f (form_events (body_key b) i rs) (code_from ks b i rs)
  unfolding code_from form_events
  from_code i [] = ([], [], stop, refl)
  from_code i (Form.native r ∷ rs) = go (from_code (i + records_in r) rs) (leaves r) refl
    where
      go : Through ts f (form_events (body_key b) (i + records_in r) rs)
          (code_from ks b (i + records_in r) rs) → (x : Bool) → leaves r ≡ x
          → Through ts f
          (native_start (body_key b) i (records_in r)
          ∷ cond x [] (form_events (body_key b) (i + records_in r) rs))
          (code_from ks b i (Form.native r ∷ rs))
      go rest true e = ([], _, w_record stop, refl)
      go rest false e =
          let w =
          over_native ts f (form_events (body_key b) (i + records_in r) rs) ks b.addr
          (Owner.native_of (body_key b)) r _ e rest in
          (w.0, _, w_record w.2, ap (λ l. native_start (body_key b) i (records_in r) ∷ l) w.3)
  from_code i (shell x t e ∷ []) =
      over_lines ts f (form_events (body_key b) i (shell x t e ∷ [])) common 4 t _
      ([], _, w_gap w_ret_interp, refl)
  from_code i (shell x t e ∷ r ∷ rs) =
      let w = from_code (i + 1) (r ∷ rs) in
      over_lines ts f (form_events (body_key b) i (shell x t e ∷ r ∷ rs)) common 4 t _ (
        false ∷ w.0,
        _,
        w_gap (w_interp (w_gap (w_stay (w_gap w.2)))),
        ap (λ l. interpreted (body_key b) i ∷ l) w.3,
      )

  -- the guard says yes where there is one
  from_block : Through ts f (body_events b) (block_code ks b)
  unfolding block_code under_guard body_events
  from_block = go (outside_rom_bios b.addr)
    where
      under : (y : Option ℕ) → Through ts f (guarded_events b y) (under_guard ks b y)
      under none = ([], _, w_gap (w_plain (w_gap w_ret_interp)), refl)
      under (some y) =
          let all = from_code 0 b.forms in (
            true ∷ all.0,
            _,
            w_gap (w_when (w_gap all.2)),
            ap (λ l. said (guard b.addr (body_length b) y) true ∷ l) all.3,
          )

      go : (x : Bool)
          → Through ts f
          (cond x (guarded_events b b.hash) (form_events (body_key b) 0 b.forms))
          (cond x (under_guard ks b b.hash) (code_from ks b 0 b.forms))
      go true = under b.hash
      go false = from_code 0 b.forms

-- records are counted alike where other events are left out
counted_alike : (h j : ℕ) (es : List Event)
    → times_carried h j (answers_and_records es) ≡ times_carried h j es
counted_alike h j [] = refl
counted_alike h j (reach o ∷ es) = counted_alike h j es
counted_alike h j (said (guard a l e) x ∷ es) = counted_alike h j es
counted_alike h j (said gate x ∷ es) = counted_alike h j es
counted_alike h j (said (other e) x ∷ es) = counted_alike h j es
counted_alike h j (native_start k i n ∷ es) = omega (arith, counted_alike h j es)
counted_alike h j (interpreted k i ∷ es) = omega (arith, counted_alike h j es)

-- a block with records carries out the first
first_native : (k : ℕ) (r : Native) (es : List Event)
    → 1 ≤ times_carried k 0 (native_start k 0 (records_in r) ∷ es)
first_native k r es = rw (eq-eqb k k refl) (go r)
  where
    go : (r : Native) → 1 ≤ cond (ltb 0 (0 + records_in r)) 1 0 + times_carried k 0 es
    go (straight t l) = omega arith
    go (straight_if t e l) = omega arith
    go (branch_if t e l k) = omega arith
    go (jump t k) = omega arith
    go (pair t k) = omega arith
    go (bx t e) = omega arith
    go (pop t p l q e) = omega arith

first_shell : (k : ℕ) (es : List Event) → 1 ≤ times_carried k 0 (interpreted k 0 ∷ es)
first_shell k es = rw (eq-eqb k k refl) (omega arith)

first_form : (k : ℕ) (rs : List Form) → 1 ≤ record_counts rs
    → 1 ≤ times_carried k 0 (form_events k 0 rs)
unfolding form_events
first_form k [] h = absurd (omega arith)
first_form k (Form.native r ∷ rs) h =
    first_native k r (cond (leaves r) [] (form_events k (0 + records_in r) rs))
first_form k (shell x t e ∷ rs) h = first_shell k (form_events k 1 rs)

first_event : (b : Body) → 1 ≤ record_counts b.forms
    → 1 ≤ times_carried (body_key b) 0 (body_events b)
unfolding body_events
first_event b h = go (outside_rom_bios b.addr) b.hash
  where
    go : (x : Bool) (y : Option ℕ)
        → 1 ≤ times_carried (body_key b) 0
        (cond x (guarded_events b y) (form_events (body_key b) 0 b.forms))
    go true none = first_shell (body_key b) []
    go true (some y) = first_form (body_key b) b.forms h
    go false y = first_form (body_key b) b.forms h

pub first_carried : (b : Body) (es : List Event) → 1 ≤ record_counts b.forms
    → answers_and_records es ≡ body_events b → 1 ≤ times_carried (body_key b) 0 es
first_carried b es h e =
    omega (
      arith,
      first_event b h,
      counted_alike (body_key b) 0 es,
      ap (times_carried (body_key b) 0) e,
    )

-- the label of a member, and the code from there on
to_label : (ks : List ℕ) (b : Body) (bs : List Body) → Memᴰ b bs
    → (d : Code) × LabelAt (body_key b) (labelled ks bs) (nl ⨾ (block_code ks b ⧺ d))
unfolding labelled
to_label ks b [] m = elim m [ ]
to_label ks b (c ∷ bs) (Memᴰ.head e) =
    subst (λ x. (d : Code) × LabelAt (body_key x) (labelled ks (c ∷ bs)) (nl ⨾ (block_code ks x ⧺ d)))
    (sym e) (nl ⨾ labelled ks bs, here)
to_label ks b (c ∷ bs) (Memᴰ.tail m) =
    let r = to_label ks b bs m in
    (r.0, later (later (past (block_code ks c) (nl ⨾ labelled ks bs) _ (later r.1))))

module _ (ts : List Top) (b : Body) where
  -- through the switch of its group
  from_group : (g : List Body) → Memᴰ b g
      → Through ts (group_code g) (body_events b) (group_code g)
  unfolding group_code with_locals
  from_group g m =
      let p = to_label (map body_key g) b g m in
      let r =
      before ts (group_code g) (body_events b) (block_code (map body_key g) b) p.0
      (from_block ts (group_code g) (map body_key g) b) in
      over_locals ts (group_code g) (body_events b) _ (
        r.0,
        r.1,
        w_gap
            (w_entry (Memᴰ.map body_key m)
            (later (later (later (later (later (later (later (later (later (later p.1))))))))))
            (w_gap r.2)),
        r.3,
      )

  forwards : (g : List Body) → Memᴰ b g → (k : ℕ)
      → Memᴰ (function (group k) (group_code g)) ts → (n : ℕ)
      → Through ts (forwarder k n) (body_events b) (forwarder k n)
  forwards g m k q n = let r = from_group g m in (r.0, r.1, w_gap (w_call q r.2), r.3)

  has_forwarder : (k n : ℕ) (bs : List Body) → Memᴰ b bs
      → (j : ℕ) × Memᴰ (function (block (body_key b)) (forwarder k j)) (forwarders k n bs)
  unfolding forwarders
  has_forwarder k n [] m = elim m [ ]
  has_forwarder k n (c ∷ bs) (Memᴰ.head e) =
      (n, Memᴰ.head (ap (λ x. function (block (body_key x)) (forwarder k n)) e))
  has_forwarder k n (c ∷ bs) (Memᴰ.tail m) =
      let r = has_forwarder k (suc n) bs m in (r.0, Memᴰ.tail r.1)

  -- its function in its group, and a way from there through the block's text
  pub entered : (g : List Body) → Memᴰ b g
      → ((t : Top) → Memᴰ t (emit_group g) → Memᴰ t ts)
      → (c : Code) × Memᴰ (function (block (body_key b)) c) (emit_group g)
      × Through ts c (body_events b) c
  unfolding emit_group emit_block
  entered [] m all = elim m [ ]
  entered (a ∷ []) (Memᴰ.head e) all = (
    with_locals (block_code [] b),
    Memᴰ.head (ap (λ x. function (block (body_key x)) (with_locals (block_code [] x))) e),
    over_locals ts (with_locals (block_code [] b)) (body_events b) (block_code [] b)
        (from_block ts (with_locals (block_code [] b)) [] b),
  )
  entered (a ∷ []) (Memᴰ.tail m) all = absurd (Memᴰ.not-nil m)
  entered (a ∷ d ∷ g) m all =
      let r = has_forwarder (body_key a) 0 (a ∷ d ∷ g) m in (
        forwarder (body_key a) r.0,
        Memᴰ.tail (Memᴰ.tail r.1),
        forwards (a ∷ d ∷ g) m (body_key a) (all _ (Memᴰ.head refl)) r.0,
      )
