-- An execution that returns, followed from block to block.
use Prim.Native.Nat.{ℕ, ◌+◌}
use mathlib.Core.Path.{◌≡◌, refl, sym, ap, ◌∙◌, subst}
use mathlib.Core.Logic.{◌⊎◌, inl, inr}
use mathlib.Core.Bool.{Bool, true, false, beq}
use mathlib.Core.List.{List, [], ◌∷◌, ◌++◌, append_assoc, Memᴰ}
use mathlib.Core.Option.{Option, none, some}
use native.Mathlib.Omega.{arith}
use Rattle.armv4t.specs.Bit0.{clear_bit0}
use Rattle.file_instrs.specs.declared.decode.TimedInstr.{TimedInstr}
use Rattle.file_blocks.specs.Parse.{Block, block_key}
use Rattle.file_blocks.specs.Address.{region}
use Rattle.c_tree.specs.Expr.{u32, x-pc}
use Rattle.c_tree.specs.Stmt.{Test, Owner, Simple, ret_if, call, switch, Code, end, ◌⨾◌, when, braces}
use Rattle.c_tree.specs.Stmt.{◌⧺◌, Top}
use Rattle.c_meaning.specs.State.{State, bind, enter, leave, Declares}
use Rattle.c_meaning.specs.Exec.{Goes, on, to, back, Outcome, next, step, runs}
use Rattle.c_meaning.specs.Helpers.{run, rotated, called}
use Rattle.c_meaning.proofs.Append.{runs_append}
use Rattle.armv4t_manual.specs.Machine.{Machine, Sound}
use Rattle.lower_forms.specs.Block.{body_of}
use Rattle.lower_forms.specs.Agree.{Agrees}
use Rattle.lower_units.specs.Block.{nl, block_code}
use Rattle.lower_units.specs.Text.{Leaves, destination}
use Rattle.claim_meaning.specs.Block.{Interprets, is_covered, Carries, BlockLeaves, BlockMeans}
use Rattle.claim_ways.specs.Ways.{Event, reach, said}
use Rattle.claim_functions.specs.Execution.{Result, underway, returned, LabelIn, ask, act}
use Rattle.claim_functions.specs.Execution.{told, leave_all, Execution, x_stop, x_in, x_asking}
use Rattle.claim_functions.specs.Execution.{x_asking_ret, x_on, x_to, x_back, x_when, x_else}
use Rattle.claim_functions.specs.Execution.{x_open, x_close, x_call, x_case, x_default}
use Rattle.claim_functions.proofs.Outcomes.{state_of, goes_of}
use Rattle.lower_forms.proofs.Body.{not_none}
use Rattle.claim_functions.specs.Chain.{Reaches, Chain, c_last, c_more}
use Rattle.claim_functions.specs.Counted.{counted, block_events, chain_events, last_events}
use Rattle.claim_functions.proofs.Log.{counts, log, log_then, log_all, append_nil}
use Rattle.claim_functions.proofs.Log.{counted_told, told_counts, log_on, log_to, log_back}
use Rattle.claim_functions.proofs.Log.{log_in, log_when, log_else, log_open, log_close}
use Rattle.claim_functions.proofs.Log.{log_append}
use Rattle.claim_functions.proofs.Texts.{elsewhere}

-- what stands after braces does with an outcome inside them
abbrev pub and_then : List Code → Outcome → Outcome
and_then [] o = o
and_then (d ∷ ds) o = and_then ds (bind o λ q. next q.1 (leave q.0) (run d))

-- what leads elsewhere leaves all braces
left_to : (ds : List Code) (z : State) (k : ℕ)
    → and_then ds (some (z, to k)) ≡ some (leave_all ds z, to k)
left_to [] z k = refl
left_to (d ∷ ds) z k = left_to ds (leave z) k

left_back : (ds : List Code) (z : State) (v : ℕ)
    → and_then ds (some (z, back v)) ≡ some (leave_all ds z, back v)
left_back [] z v = refl
left_back (d ∷ ds) z v = left_back ds (leave z) v

left_none : (ds : List Code) → and_then ds none ≡ none
left_none [] = refl
left_none (d ∷ ds) = left_none ds

-- statements by `run`
run_on : (s : Simple) (c : Code) (z u : State) → act s z ≡ some (u, on) → run (s ⨾ c) z ≡ run c u
unfolding run runs
run_on s c z u e = rw e

run_to : (s : Simple) (c : Code) (z u : State) (k : ℕ) → act s z ≡ some (u, to k)
    → run (s ⨾ c) z ≡ some (u, to k)
unfolding run runs
run_to s c z u k e = rw e

run_back : (s : Simple) (c : Code) (z u : State) (v : ℕ) → act s z ≡ some (u, back v)
    → run (s ⨾ c) z ≡ some (u, back v)
unfolding run runs
run_back s c z u v e = rw e

run_call : (k n : ℕ) (c : Code) (z : State) → run (call k n ⨾ c) z ≡ none
unfolding run runs step
run_call k n c z = refl

run_switch : (ks : List ℕ) (c : Code) (z : State) → run (switch ks ⨾ c) z ≡ none
unfolding run runs step
run_switch ks c z = refl

run_when : (o : Owner) (x : Bool) (t : Test) (b c : Code) (z u : State) (y : Bool)
    → ask t z ≡ some (y, u) → beq x y ≡ false
    → run (when o x t b c) z ≡ bind (run b (enter u)) (λ q. next q.1 (leave q.0) (run c))
unfolding run runs
run_when o x t b c z u y e h = rw (e, h)

run_else : (o : Owner) (x : Bool) (t : Test) (b c : Code) (z u : State) (y : Bool)
    → ask t z ≡ some (y, u) → beq x y ≡ true
    → run (when o x t b c) z ≡ run c u
unfolding run runs
run_else o x t b c z u y e h = rw (e, h)

run_braces : (b c : Code) (z : State)
    → run (braces b c) z ≡ bind (run b (enter z)) (λ q. next q.1 (leave q.0) (run c))
unfolding run runs
run_braces b c z = refl

run_end : (z : State) → run end z ≡ some (z, on)
unfolding run runs
run_end z = refl

-- the key that an exit leads to
led_to : (g : Goes) (k l : ℕ) → g ≡ to k → destination g ≡ some l → k ≡ l
led_to g k l e h = let same : some k ≡ some l = ap destination (sym e) ∙ h in cc

led_back : (g : Goes) (k l : ℕ) → g ≡ back k → destination g ≡ some l → k ≡ l
led_back g k l e h = let same : some k ≡ some l = ap destination (sym e) ∙ h in cc

-- code that leads elsewhere does so whatever stands after it
run_leads : (c d : Code) (z u : State) (g : Goes) (k : ℕ) → run c z ≡ some (u, g)
    → destination g ≡ some k → run (nl ⨾ (c ⧺ d)) z ≡ some (u, g)
unfolding run runs step
run_leads c d z u g k e h = runs_append rotated called c d z ∙ rw e (elsewhere g h)
  where
    elsewhere : (g : Goes) → destination g ≡ some k → next g u (runs rotated called d) ≡ some (u, g)
    elsewhere on h = absurd (not_none h)
    elsewhere (to l) h = refl
    elsewhere (back v) h = refl

-- and what is counted is what is counted of it
log_leads : (c d : Code) (z u : State) (g : Goes) (k : ℕ) → run c z ≡ some (u, g)
    → destination g ≡ some k → log (nl ⨾ (c ⧺ d)) z ≡ log c z
unfolding log step
log_leads c d z u g k e h = log_append c d z
    ∙ rw e (ap (λ l. log c z ++ l) (elsewhere g k u (log d) h) ∙ append_nil (log c z))

-- what is counted up to a goto, and after it
joined : {ls ps es cs : List Event} (qs rest : List Event) → ls ≡ ps → es ≡ ps ++ qs
    → cs ≡ qs ++ rest → ls ++ cs ≡ es ++ rest
joined {ps = ps} qs rest p e q = rw (p, e, q) (sym (append_assoc ps qs rest))

-- where an execution has returned it has done so with a key, in a state
abbrev EndsAt : Result → State → ℕ → Type 0
EndsAt underway u k = Unit {0}
EndsAt (returned y v) u k = (v ≡ k) × (y ≡ u)

-- so, with the key and in a state of what blocks led to
abbrev pub Ended : Result → Machine × ℕ → Type 0
Ended underway out = Unit {0}
Ended (returned y v) out = (v ≡ out.1) × Reaches y out

-- and nothing is to come
abbrev pub ToCome : Result → List Event → Type 0
ToCome underway rest = Unit {0}
ToCome (returned y v) rest = rest ≡ []

ended_at : (r : Result) (u : State) (out : Machine × ℕ) → EndsAt r u out.1 → Reaches u out
    → Ended r out
ended_at underway u out h p = tt
ended_at (returned y v) u out h p = (h.0, subst (λ s. Reaches s out) (sym h.1) p)

pub add_assoc₃ : (a b c : ℕ) → a + (b + c) ≡ a + b + c
add_assoc₃ a b c = omega arith

module _ (step : ℕ → ℕ → Machine → Machine × ℕ) where
  -- a state in which the text of a block may start, or that it ends in, with n calls of interp_one
  -- made
  pub record Ready (n : ℕ) (z : State) (m : Machine) : Type 0 where
    pub left : (i : ℕ) → Interprets (step (n + i)) (z.interpreter i)
    pub declares : Declares z.scopes (u32, x-pc)
    pub sound : Sound m
    pub agrees : Agrees z m

module _ (step : ℕ → ℕ → Machine → Machine × ℕ) (multiplier : ℕ) (Member : Block → Type 0)
    (ts : List Top) (f : Code) (ks : List ℕ)
    (means : (b : Block) → Member b → BlockMeans multiplier ks b)
    (covered : (b : Block) → Member b → (x : TimedInstr) → Memᴰ x b.instrs
    → is_covered (region b.addr) x ≡ true)
    (logs : (b : Block) → Member b
    → (n : ℕ) (z : State) (m : Machine) (out : Machine × ℕ) (used : ℕ) → Ready step n z m
    → (by : Carries (λ i. step (n + i)) (region b.addr) multiplier b z m out used)
    → log (block_code ks (body_of multiplier b)) z ≡ block_events (block_key b) by)
    (labels : (k : ℕ) (d : Code) → LabelIn k f d
    → (b : Block) × Member b × (block_key b ≡ k)
    × ((rest : Code) × (d ≡ nl ⨾ (block_code ks (body_of multiplier b) ⧺ rest)))) where
  -- blocks are carried out from the one with the key k on, and the execution comes to r
  abbrev pub Carried : ℕ → ℕ → State → Machine → Result → List Event → Type 0
  Carried n k z m r es =
      (out : Machine × ℕ) × (c : Chain step multiplier Member out n k z m) × Sound out.0
      × Ended r out
      × ((rest : List Event) × ToCome r rest × (chain_events c ≡ counted es ++ rest)
      × ((part : List Event) × (last_events c ≡ part ++ rest)))

  -- a block leads to a key, and ls is counted of it: the execution ends there, or in it, or blocks
  -- are carried out from there on
  abbrev Onward : ℕ → State → Machine × ℕ → Result → List Event → List Event → Type 0
  Onward n u mid r ls es =
      (EndsAt r u mid.1 × ((rest : List Event) × ToCome r rest × (ls ≡ counted es ++ rest)))
      ⊎ ((out : Machine × ℕ) × (c : Chain step multiplier Member out n mid.1 u mid.0)
      × Sound out.0 × Ended r out
      × ((rest : List Event) × ToCome r rest × (ls ++ chain_events c ≡ counted es ++ rest)
      × ((part : List Event) × (last_events c ≡ part ++ rest))))

  -- what is known of C standing at the code c, with ds after the braces around it, in a block that
  -- will lead to a key
  record Within (n : ℕ) (c : Code) (ds : List Code) (z u : State) (mid : Machine × ℕ) : Type 0 where
    exit : Goes
    ends : and_then ds (run c z) ≡ some (u, exit)
    leads : destination exit ≡ some mid.1
    pc : u.c 15 ≡ clear_bit0 mid.1
    ready : Ready step n u mid.0

  -- the same from another place
  moved : {n : ℕ} {c d : Code} {ds ds' : List Code} {z w u : State} {mid : Machine × ℕ}
      → Within n c ds z u mid → and_then ds (run c z) ≡ and_then ds' (run d w)
      → Within n d ds' w u mid
  moved h e =
      record {
        exit = h.exit;
        ends = sym e
            ∙ h.ends;
        leads = h.leads;
        pc = h.pc;
        ready = h.ready;
      }

  -- and with what is counted before
  before : (n : ℕ) (u : State) (mid : Machine × ℕ) (r : Result) (ps ls ls' es es' : List Event)
      → counted es ≡ ps ++ counted es' → ls ≡ ps ++ ls'
      → Onward n u mid r ls' es' → Onward n u mid r ls es
  before n u mid r ps ls ls' es es' p q (inl h) =
      inl (
        h.0,
        (
          h.1.0,
          h.1.1,
          q ∙ ap (λ l. ps ++ l) h.1.2
              ∙ sym (append_assoc ps (counted es') h.1.0) ∙ ap (λ l. l ++ h.1.0) (sym p),
        ),
      )
  before n u mid r ps ls ls' es es' p q (inr h) =
      inr (
        h.0,
        h.1,
        h.2,
        h.3,
        (
          h.4.0,
          h.4.1,
          ap (λ l. l ++ chain_events h.1) q
              ∙ append_assoc ps ls' (chain_events h.1)
              ∙ ap (λ l. ps ++ l) h.4.2
              ∙ sym (append_assoc ps (counted es') h.4.0)
              ∙ ap (λ l. l ++ h.4.0) (sym p),
          h.4.3,
        ),
      )

  -- code that does what the text of a block does where that leads elsewhere, and of which the same
  -- is counted
  record Does (b : Block) (c : Code) : Type 0 where
    runs_so : (u : State) (g : Goes) (k : ℕ) (z : State)
        → run (block_code ks (body_of multiplier b)) z ≡ some (u, g) → destination g ≡ some k
        → run c z ≡ some (u, g)
    logs_so : (u : State) (g : Goes) (k : ℕ) (z : State)
        → run (block_code ks (body_of multiplier b)) z ≡ some (u, g) → destination g ≡ some k
        → log c z ≡ log (block_code ks (body_of multiplier b)) z

  -- from the text of a block on, by what follows it
  begun : (n k : ℕ) (b : Block) → Member b → block_key b ≡ k → (c : Code) → Does b c
      → (z : State) (m : Machine) → Ready step n z m → (q : Result) (es : List Event)
      → ((n : ℕ) (u : State) (mid : Machine × ℕ) → Within n c [] z u mid
      → Onward n u mid q (log_all c [] z) es) → Carried n k z m q es
  unfolding log_then
  begun n k b i e c same z m r q es follow =
      go
      (follow (n + d.used) l.end d.out
      (record {
        exit = l.exit;
        ends = same.runs_so l.end l.exit d.out.1 z (l.ends end) l.leads;
        leads = l.leads;
        pc = l.pc;
        ready = after;
      }))
    where
      d : BlockLeaves (λ i. step (n + i)) multiplier ks b z m
      d = means b i (covered b i) (λ i. step (n + i)) z m r.left r.declares r.sound
          r.agrees

      l : Leaves (λ c. block_code ks (body_of multiplier b)) z d.out
      l = d.text

      after : Ready step (n + d.used) l.end d.out.0
      after =
          record {
            left =
                λ j. subst (λ s. Interprets (step s) (l.end.interpreter j))
                (add_assoc₃ n d.used j) (d.left j);
            declares = d.declares;
            sound = d.sound;
            agrees = l.same;
          }

      reached : Reaches l.end d.out
      reached = record { same = l.same; pc = l.pc }

      -- what is counted of it
      mine : log_all c [] z ≡ block_events (block_key b) d.by
      mine = append_nil (log c z)
          ∙ same.logs_so l.end l.exit d.out.1 z (l.ends end) l.leads
          ∙ logs b i n z m d.out d.used r d.by

      go : Onward (n + d.used) l.end d.out q (log_all c [] z) es → Carried n k z m q es
      go (inl h) = (
        d.out,
        c_last b d.used i e d.by,
        d.sound,
        ended_at q l.end d.out h.0 reached,
        (h.1.0, h.1.1, sym mine ∙ h.1.2, (counted es, sym mine ∙ h.1.2)),
      )
      go (inr h) = (
        h.0,
        c_more b d.used d.out l.end i e d.by
            d.later reached h.1,
        h.2,
        h.3,
        (h.4.0, h.4.1, ap (λ l. l ++ chain_events h.1) (sym mine) ∙ h.4.2, h.4.3),
      )

  -- from a label on
  landed : (n k : ℕ) (d : Code) → LabelIn k f d → (z : State) (m : Machine) → Ready step n z m
      → (q : Result) (es : List Event)
      → ((n : ℕ) (u : State) (mid : Machine × ℕ) → Within n d [] z u mid
      → Onward n u mid q (log_all d [] z) es) → Carried n k z m q es
  landed n k d p z m r q es follow =
      let a = labels k d p in
      let c : Code = block_code ks (body_of multiplier a.0) in
      begun n k a.0 a.1 a.2 d
      (subst (Does a.0) (sym a.3.1)
      (record {
        runs_so = λ u g l w. run_leads c a.3.0 w u g l;
        logs_so = λ u g l w. log_leads c a.3.0 w u g l;
      }))
      z m r q es follow

  -- an execution, from inside a block
  follow : {p : Option ℕ} {c : Code} {ds : List Code} {z : State} {r : Result} {xs : List Bool}
      {es : List Event} → Execution ts f p c ds z xs es r
      → (n : ℕ) (u : State) (mid : Machine × ℕ) → Within n c ds z u mid
      → Onward n u mid r (log_all c ds z) es
  follow {c = c} {ds = ds} {z = z} x_stop n u mid h = inl (tt, (log_all c ds z, tt, refl))
  follow {ds = ds} (x_in {s = s} {c = c} {z = z}) n u mid h =
      let l = log_in s c ds z in
      inl (tt, (l.0, tt, l.1 ∙ ap (λ k. k ++ l.0) (sym (told_counts s z))))
  follow {ds = ds} {z = z} (x_asking {o = o} {x = x} {t = t} {b = b} {c = c}) n u mid h =
      inl (tt, (log_all (when o x t b c) ds z, tt, refl))
  follow {ds = ds} {z = z} (x_asking_ret {o = o} {t = t} {e = e} {c = c}) n u mid h =
      inl (tt, (log_all (ret_if o t e ⨾ c) ds z, tt, refl))
  follow {ds = ds} {r = r} (x_on {s = s} {c = c} {z = z} {u = w} {es = es} e x) n u mid h =
      before n u mid r (counts s) (log_all (s ⨾ c) ds z) (log_all c ds w) ((told s z).1 ++ es) es
      (counted_told s z es) (log_on s c ds z w e)
      (follow x n u mid (moved h (ap (and_then ds) (run_on s c z w e))))
  follow {ds = ds} {r = r} (x_to {s = s} {c = c} {d = d} {z = z} {u = w} {k = k} {es = es} e p x) n
      u mid h =
      let q : ◌≡◌ {A = Outcome} (some (leave_all ds w, to k)) (some (u, h.exit)) =
      sym (left_to ds w k) ∙ sym (ap (and_then ds) (run_to s c z w k e)) ∙ h.ends in
      let same : leave_all ds w ≡ u = ap (state_of u) q in
      let key : k ≡ mid.1 = led_to h.exit k mid.1 (sym (ap goes_of q)) h.leads in
      let a =
      landed n k d p (leave_all ds w) mid.0
      (subst (λ s. Ready step n s mid.0) (sym same) h.ready) r es
      (λ n u mid g. follow x n u mid g) in
      let t =
      subst (λ l. Carried n l u mid.0 r es) key
      (subst (λ s. Carried n k s mid.0 r es) same a) in
      inr (
        t.0,
        t.1,
        t.2,
        t.3,
        (
          t.4.0,
          t.4.1,
          joined (counted es) t.4.0 (log_to s c ds z w k e)
              (counted_told s z es) t.4.2,
          t.4.3,
        ),
      )
  follow {ds = ds} (x_back {s = s} {c = c} {z = z} {u = w} {v = v} e) n u mid h =
      let q : ◌≡◌ {A = Outcome} (some (leave_all ds w, back v)) (some (u, h.exit)) =
      sym (left_back ds w v) ∙ sym (ap (and_then ds) (run_back s c z w v e)) ∙ h.ends in
      inl (
        (led_back h.exit v mid.1 (sym (ap goes_of q)) h.leads, ap (state_of u) q),
        (
          [],
          refl,
          log_back s c ds z w v e ∙ sym (told_counts s z)
              ∙ sym (append_nil (counted (told s z).1)),
        ),
      )
  follow {ds = ds} {r = r}
      (x_when {o = o} {x = x} {t = t} {b = b} {c = c} {z = z} {u = w} {y = a} {es = es} e g x') n u
      mid h =
      before n u mid r [] _ _ (reach o ∷ said t a ∷ es) es refl (log_when o x t b c ds z w a e g)
      (follow x' n u mid (moved h (ap (and_then ds) (run_when o x t b c z w a e g))))
  follow {ds = ds} {r = r}
      (x_else {o = o} {x = x} {t = t} {b = b} {c = c} {z = z} {u = w} {y = a} {es = es} e g x') n u
      mid h =
      before n u mid r [] _ _ (reach o ∷ said t a ∷ es) es refl (log_else o x t b c ds z w a e g)
      (follow x' n u mid (moved h (ap (and_then ds) (run_else o x t b c z w a e g))))
  follow {ds = ds} {r = r} (x_open {b = b} {c = c} {z = z} {es = es} x) n u mid h =
      before n u mid r [] _ _ es es refl (log_open b c ds z)
      (follow x n u mid (moved h (ap (and_then ds) (run_braces b c z))))
  follow {r = r} (x_close {d = d} {ds = ds} {z = z} {es = es} x) n u mid h =
      before n u mid r [] _ _ es es refl (log_close d ds z)
      (follow x n u mid (moved h (ap (and_then (d ∷ ds)) (run_end z))))
  follow {ds = ds} (x_call {k = k} {i = i} {c = c} {z = z} m x) n u mid h =
      absurd (not_none (sym (left_none ds) ∙ sym (ap (and_then ds) (run_call k i c z)) ∙ h.ends))
  follow {ds = ds} (x_case {ks = ks'} {c = c} {z = z} e p x) n u mid h =
      absurd (not_none (sym (left_none ds) ∙ sym (ap (and_then ds) (run_switch ks' c z)) ∙ h.ends))
  follow {ds = ds} (x_default {ks = ks'} {c = c} {z = z} e) n u mid h =
      absurd (not_none (sym (left_none ds) ∙ sym (ap (and_then ds) (run_switch ks' c z)) ∙ h.ends))

  -- from a label, and from the text of a block
  pub from_label : {p : Option ℕ} {d : Code} {z : State} {q : Result} {xs : List Bool}
      {es : List Event} → Execution ts f p d [] z xs es q
      → (n k : ℕ) (m : Machine) → LabelIn k f d → Ready step n z m → Carried n k z m q es
  from_label {d = d} {z = z} {q = q} {es = es} x n k m p r = landed n k d p z m r q es (follow x)

  pub from_block : {p : Option ℕ} {z : State} {q : Result} {xs : List Bool} {es : List Event}
      (b : Block) → Member b
      → Execution ts f p (block_code ks (body_of multiplier b)) [] z xs es q → (n k : ℕ) (m : Machine)
      → block_key b ≡ k → Ready step n z m → Carried n k z m q es
  from_block {z = z} {q = q} {es = es} b i x n k m e r =
      begun n k b i e (block_code ks (body_of multiplier b))
      (record { runs_so = λ u g l w e h. e; logs_so = λ u g l w e h. refl }) z m r q es
      (follow x)
