-- From the text of a block C gets on: it returns, or carries out as many instructions as is wished.
use Prim.Native.Nat.{ℕ, zero, suc, ◌+◌, ◌≤◌}
use mathlib.Core.Path.{◌≡◌, refl, sym, ap, ◌∙◌, subst}
use mathlib.Core.Logic.{◌⊎◌, inl, inr}
use mathlib.Core.Bool.{Bool, true}
use mathlib.Core.List.{List, [], ◌∷◌, ◌++◌, Memᴰ}
use mathlib.Core.Option.{Option, some}
use native.Mathlib.Omega.{arith}
use lib.Dec.{T}
use lib.ListN.{get_elem?}
use Rattle.claim_ways.proofs.Functions.{forwarder}
use Rattle.claim_functions.proofs.Entering.{in_function}
use Rattle.file_instrs.specs.declared.decode.TimedInstr.{TimedInstr}
use Rattle.file_blocks.specs.Parse.{Block, block_key}
use Rattle.file_blocks.specs.Address.{region}
use Rattle.base_lists.specs.Lists.{among}
use Rattle.c_tree.specs.Expr.{u32, x-pc}
use Rattle.c_tree.specs.Stmt.{registers, local, discard, common, Simple, gap, plain, call, switch}
use Rattle.c_tree.specs.Stmt.{Code, end, ◌⨾◌, ◌⧺◌, group, Top, function}
use Rattle.c_meaning.specs.State.{State}
use Rattle.c_meaning.specs.Exec.{Goes, on, to, back, exec, step}
use Rattle.c_meaning.specs.Helpers.{run}
use Rattle.armv4t_manual.specs.Machine.{Machine}
use Rattle.lower_forms.specs.Block.{body_of}
use Rattle.lower_units.specs.Block.{nl, sp, block_code}
use Rattle.lower_units.specs.Units.{with_locals}
use Rattle.lower_units.specs.Text.{Leaves, destination}
use Rattle.claim_meaning.specs.Block.{Interprets, is_covered, CarriedOut, by_manual, by_interpreter}
use Rattle.claim_meaning.specs.Block.{Sequence, last, pair, more, Carries, in_order, granted, absent}
use Rattle.claim_meaning.specs.Block.{refused, BlockLeaves, BlockMeans}
use Rattle.claim_ways.specs.Ways.{Event, reach, said, native_start, interpreted}
use Rattle.claim_ways.specs.Claim.{carried}
use Rattle.claim_functions.specs.Execution.{underway, returned, LabelIn, act, told, at_start}
use Rattle.claim_functions.specs.Execution.{parameter}
use Rattle.claim_functions.specs.Execution.{Execution, x_stop, x_on, x_call, x_case}
use Rattle.claim_functions.specs.Counted.{counted, record_event, sequence_events, block_events}
use Rattle.lower_forms.proofs.Body.{not_none}
use Rattle.claim_functions.proofs.Log.{log}
use Rattle.claim_functions.proofs.Gotos.{in_block, run_to_inside}
use Rattle.claim_functions.proofs.Forward.{executed}
use Rattle.claim_functions.proofs.Follow.{Ready, add_assoc₃}

-- how many instructions two parts carry out
carried_append : (es fs : List Event) → carried (es ++ fs) ≡ carried es + carried fs
carried_append [] fs = omega arith
carried_append (reach o ∷ es) fs = carried_append es fs
carried_append (said t x ∷ es) fs = carried_append es fs
carried_append (native_start k i n ∷ es) fs = omega (arith, carried_append es fs)
carried_append (interpreted k i ∷ es) fs = omega (arith, carried_append es fs)

-- those that are counted
pub carried_counted : (es : List Event) → carried (counted es) ≡ carried es
carried_counted [] = refl
carried_counted (reach o ∷ es) = carried_counted es
carried_counted (said t x ∷ es) = carried_counted es
carried_counted (native_start k i n ∷ es) = omega (arith, carried_counted es)
carried_counted (interpreted k i ∷ es) = omega (arith, carried_counted es)

-- a block carries out one at least
record_one : {step : ℕ → ℕ → Machine → Machine × ℕ} {region : ℕ} {x : TimedInstr} {m : Machine}
    {next : Machine × ℕ} {before after : ℕ} (k i : ℕ) (fs : List Event)
    (by : CarriedOut step region x m next before after) → 1 ≤ carried (record_event k i by ∷ fs)
record_one k i fs (by_manual n e f) = omega arith
record_one k i fs (by_interpreter n e f) = omega arith

sequence_one : {step : ℕ → ℕ → Machine → Machine × ℕ} {region before after : ℕ}
    {xs : List TimedInstr} {m : Machine} {out : Machine × ℕ} (k i : ℕ)
    (s : Sequence step region before after xs m out) → 1 ≤ carried (sequence_events k i s)
sequence_one k i (last a b x xs m next alone by ends) = record_one k i [] by
sequence_one k i (pair n x y xs target ret m half next e f g) = omega arith
sequence_one k i (more a b c x xs m next out alone by stays e s) =
    record_one k i (sequence_events k (i + 1) s) by

block_one : {step : ℕ → ℕ → Machine → Machine × ℕ} {region multiplier : ℕ} {b : Block} {z : State}
    {m : Machine} {out : Machine × ℕ} {used : ℕ} (k : ℕ)
    (by : Carries step region multiplier b z m out used) → 1 ≤ carried (block_events k by)
block_one k (in_order n e s) = sequence_one k 0 s
block_one k (granted n h e f g s) = sequence_one k 0 s
block_one k (absent e f s) = omega arith
block_one k (refused h e f g s) = omega arith

-- C gets on from some code: it returns, or carries out n instructions
abbrev pub Gets : List Top → Code → Option ℕ → ℕ → Code → State → Type 0
Gets ts f p n c z =
    ((xs : List Bool) × (es : List Event) × (y : State) × (v : ℕ)
    × Execution ts f p c [] z xs es (returned y v))
    ⊎ ((xs : List Bool) × (es : List Event) × Execution ts f p c [] z xs es underway
    × (n ≤ carried es))

-- through a statement
pub gets_over : {ts : List Top} {f : Code} {p : Option ℕ} (n : ℕ) (s : Simple) {c : Code}
    (z w : State) → act s z ≡ some (w, on) → Gets ts f p n c w → Gets ts f p n (s ⨾ c) z
gets_over n s z w e (inl r) = inl (_, _, r.2, r.3, x_on e r.4)
gets_over n s z w e (inr r) =
    inr (_, _, x_on e r.2, omega (arith, carried_append (told s z).1 r.1, r.3))

pub gets_stop : {ts : List Top} {f : Code} {p : Option ℕ} {c : Code} {z : State} → Gets ts f p 0 c z
gets_stop = inr ([], [], x_stop, omega arith)

-- white space, the head of a function, a forwarder and the switch
pub gets_gap : {ts : List Top} {f : Code} {p : Option ℕ} (n : ℕ) {l : Bool} {k : ℕ} {c : Code}
    (z : State) → Gets ts f p n c z → Gets ts f p n (gap l k ⨾ c) z
unfolding step
gets_gap n {l} {k} z r = gets_over n (gap l k) z z refl r

pub gets_head : {ts : List Top} {f : Code} {p : Option ℕ} (n : ℕ) {c : Code} (z : State)
    → Gets ts f p n c (in_function z) → Gets ts f p n (with_locals c) (at_start z)
unfolding with_locals step exec
gets_head n z r =
    gets_over n (gap true 4) (at_start z) (at_start z) refl
    (gets_over n (plain common registers) (at_start z) (at_start z) refl
    (gets_over n (gap true 4) (at_start z) (at_start z) refl
    (gets_over n (plain common (local (u32, x-pc))) (at_start z) (in_function z) refl
    (gets_over n (sp 1) (in_function z) (in_function z) refl
    (gets_over n (plain common (discard (u32, x-pc))) (in_function z) (in_function z) refl
    (gets_over n nl (in_function z) (in_function z) refl r))))))

gets_call : {ts : List Top} {f g : Code} {p : Option ℕ} (n : ℕ) {k i : ℕ} {c : Code} (z : State)
    → Memᴰ (function (group k) g) ts → Gets ts g (parameter i) n g (at_start z)
    → Gets ts f p n (call k i ⨾ c) (at_start z)
gets_call n z m (inl r) = inl (r.0, r.1, r.2, r.3, x_call m r.4)
gets_call n z m (inr r) = inr (r.0, r.1, x_call m r.2, r.3)

pub gets_forwarder : {ts : List Top} {f g : Code} {p : Option ℕ} (n : ℕ) {k i : ℕ} (z : State)
    → Memᴰ (function (group k) g) ts → Gets ts g (parameter i) n g (at_start z)
    → Gets ts f p n (forwarder k i) (at_start z)
gets_forwarder n z m r = gets_gap n (at_start z) (gets_call n z m r)

pub gets_case : {ts : List Top} {f : Code} (n : ℕ) {i k : ℕ} {ks : List ℕ} {c d : Code} (z : State)
    → get_elem? ks i ≡ some k → LabelIn k f d → Gets ts f (some i) n d z
    → Gets ts f (some i) n (switch ks ⨾ c) z
gets_case n z e p (inl r) = inl (r.0, r.1, r.2, r.3, x_case e p r.4)
gets_case n z e p (inr r) = inr (r.0, r.1, x_case e p r.2, r.3)

module _ (step : ℕ → ℕ → Machine → Machine × ℕ) (multiplier : ℕ) (Member : Block → Type 0)
    (ts : List Top) (f : Code) (p : Option ℕ) (ks : List ℕ)
    (means : (b : Block) → Member b → BlockMeans multiplier ks b)
    (covered : (b : Block) → Member b → (x : TimedInstr) → Memᴰ x b.instrs
    → is_covered (region b.addr) x ≡ true)
    (logs : (b : Block) → Member b
    → (n : ℕ) (z : State) (m : Machine) (out : Machine × ℕ) (used : ℕ) → Ready step n z m
    → (by : Carries (λ i. step (n + i)) (region b.addr) multiplier b z m out used)
    → log (block_code ks (body_of multiplier b)) z ≡ block_events (block_key b) by)
    (labels : (k : ℕ) → T (among k ks)
    → (b : Block) × Member b
    × ((rest : Code) × LabelIn k f (nl ⨾ (block_code ks (body_of multiplier b) ⧺ rest)))) where
  -- by what follows a block
  further : (n calls : ℕ) (b : Block) → Member b → (rest : Code) (z : State) (m : Machine)
      → Ready step calls z m
      → ((calls : ℕ) (b : Block) → Member b → (rest : Code) (z : State) (m : Machine)
      → Ready step calls z m → Gets ts f p n (block_code ks (body_of multiplier b) ⧺ rest) z)
      → Gets ts f p (suc n) (block_code ks (body_of multiplier b) ⧺ rest) z
  unfolding Rattle.c_meaning.specs.Exec.step
  further n calls b i rest z m r follow = go l.exit (l.ends end) l.leads
    where
      d : BlockLeaves (λ i. step (calls + i)) multiplier ks b z m
      d = means b i (covered b i) (λ i. step (calls + i)) z m r.left r.declares r.sound
          r.agrees

      l : Leaves (λ c. block_code ks (body_of multiplier b)) z d.out
      l = d.text

      after : Ready step (calls + d.used) l.end d.out.0
      after =
          record {
            left =
                λ j. subst (λ s. Interprets (step s) (l.end.interpreter j))
                (add_assoc₃ calls d.used j) (d.left j);
            declares = d.declares;
            sound = d.sound;
            agrees = l.same;
          }

      -- it carries out one at least
      one : (es fs : List Event)
          → counted es ≡ log (block_code ks (body_of multiplier b)) z ++ counted fs → n ≤ carried fs
          → suc n ≤ carried es
      one es fs e h =
          let by = logs b i calls z m d.out d.used r d.by in
          let sum : carried es ≡ carried (block_events (block_key b) d.by) + carried fs
          = sym (carried_counted es) ∙ ap carried (e ∙ ap (λ l. l ++ counted fs) by)
          ∙ carried_append (block_events (block_key b) d.by) (counted fs)
          ∙ ap (λ k. carried (block_events (block_key b) d.by) + k) (carried_counted fs) in
          omega (arith, sum, block_one (block_key b) d.by)

      go : (g : Goes) → run (block_code ks (body_of multiplier b)) z ≡ some (l.end, g)
          → destination g ≡ some d.out.1
          → Gets ts f p (suc n) (block_code ks (body_of multiplier b) ⧺ rest) z
      go on e h = absurd (not_none h)
      go (back v) e h =
          let a =
          executed ts f p (block_code ks (body_of multiplier b)) rest [] z l.end (back v) e []
          [] (returned l.end v) (refl, refl, refl) in
          inl (a.0, a.1, l.end, v, a.3)
      go (to k) e h =
          on-to (gets_over n nl l.end l.end refl
          (follow (calls + d.used) t.0 t.1 t.2.0 l.end d.out.0 after))
        where
          t : (b : Block) × Member b
              × ((rest : Code) × LabelIn k f (nl ⨾ (block_code ks (body_of multiplier b) ⧺ rest)))
          t = labels k
              (run_to_inside ks (block_code ks (body_of multiplier b))
              (in_block ks (body_of multiplier b)) z l.end k e)

          at : Code
          at = nl ⨾ (block_code ks (body_of multiplier t.0) ⧺ t.2.0)

          on-to : Gets ts f p n at l.end
              → Gets ts f p (suc n) (block_code ks (body_of multiplier b) ⧺ rest) z
          on-to (inl q) =
              let a =
              executed ts f p (block_code ks (body_of multiplier b)) rest [] z l.end (to k) e
              q.0 q.1 (returned q.2 q.3) (at, t.2.1, q.4) in
              inl (a.0, a.1, q.2, q.3, a.3)
          on-to (inr q) =
              let a =
              executed ts f p (block_code ks (body_of multiplier b)) rest [] z l.end (to k) e
              q.0 q.1 underway (at, t.2.1, q.2) in
              inr (a.0, a.1, a.3, one a.1 q.1 a.2 q.3)

  pub gets : (n calls : ℕ) (b : Block) → Member b → (rest : Code) (z : State) (m : Machine)
      → Ready step calls z m → Gets ts f p n (block_code ks (body_of multiplier b) ⧺ rest) z
  gets zero calls b i rest z m r = gets_stop
  gets (suc n) calls b i rest z m r = further n calls b i rest z m r (gets n)
