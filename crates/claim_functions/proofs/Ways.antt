-- Each execution is a way.
use Prim.Native.Nat.{ℕ, zero, suc}
use mathlib.Core.Path.{◌≡◌, refl, sym, ap, subst}
use mathlib.Core.Bool.{Bool, true, false, cond, beq}
use mathlib.Core.List.{List, [], ◌∷◌, ◌++◌, Memᴰ}
use mathlib.Core.Option.{Option, none, some}
use lib.ListN.{get_elem?}
use Rattle.c_tree.specs.Expr.{u32, x-pc, var, Expr}
use Rattle.c_tree.specs.Stmt.{Test, Owner, Simple, gap, record_mark, plain, label, goto, ret, ret_if}
use Rattle.c_tree.specs.Stmt.{interp, ret_interp, call, switch, Code, end, ◌⨾◌, ◌⧺◌, Top}
use Rattle.c_meaning.specs.State.{State, bind, put, interp_answer, after_interp}
use Rattle.c_meaning.specs.Eval.{eval_as}
use Rattle.c_meaning.specs.Exec.{Goes, on, to, back, exec, returns, step}
use Rattle.c_meaning.specs.Helpers.{rotated, called}
use Rattle.claim_ways.specs.Ways.{LabelAt, here, later, past_when, past_braces, Event, reach, said}
use Rattle.claim_ways.specs.Ways.{negated, taken, Way, stop, w_gap, w_record, w_plain, w_label}
use Rattle.claim_ways.specs.Ways.{w_goto, w_lost, w_ret, w_leave, w_stay, w_unsaid, w_when}
use Rattle.claim_ways.specs.Ways.{w_unanswered, w_braces, w_call, w_interp, w_ret_interp, w_entry}
use Rattle.claim_ways.specs.Ways.{w_default}
use Rattle.claim_functions.proofs.Outcomes.{goes_of}
use Rattle.lower_forms.proofs.Body.{not_none}
use Rattle.claim_functions.specs.Execution.{Result, LabelIn, l_here, l_later, l_when}
use Rattle.claim_functions.specs.Execution.{l_braces, heard, ask, act, told, Execution}
use Rattle.claim_functions.specs.Execution.{x_stop, x_in, x_asking, x_asking_ret, x_on}
use Rattle.claim_functions.specs.Execution.{x_to, x_back, x_when, x_else, x_open, x_close}
use Rattle.claim_functions.specs.Execution.{x_call, x_case, x_default}
use Rattle.c_tree.proofs.Laws.{append_end}

-- the code after the braces around a statement
abbrev pub after_all : List Code → Code
after_all [] = end
after_all (d ∷ ds) = d ⧺ after_all ds

-- a label inside no braces is one, with what stands after the function's code
pub label_at : {k : ℕ} {f d : Code} → LabelIn k f d → LabelAt k f d
label_at l_here = here
label_at (l_later p) = later (label_at p)
label_at (l_when p) = past_when (label_at p)
label_at (l_braces p) = past_braces (label_at p)

-- a statement that can lead only on, and one that can only return
only_on : (o : Option State) (u : State) (g : Goes)
    → bind {B = State × Goes} o (λ v. some (v, on)) ≡ some (u, g) → g ≡ on
only_on none u g e = absurd (not_none e)
only_on (some v) u g e = ap goes_of (sym e)

only_back : (o : Option ℕ) (z u : State) (g : Goes)
    → bind {B = State × Goes} o (λ k. some (z, back k)) ≡ some (u, g) → (v : ℕ) × (g ≡ back v)
only_back none z u g e = absurd (not_none e)
only_back (some v) z u g e = (v, ap goes_of (sym e))

module _ (ts : List Top) (f : Code) where
  -- a way that goes on from where a statement led
  abbrev After : Code → Goes → List Bool → List Event → Type 0
  After c on xs es = Way ts f c xs es
  After c (to k) xs es = (d : Code) × LabelAt k f d × Way ts f d xs es
  After c (back v) xs es = (xs ≡ []) × (es ≡ [])

  -- if (t) return v, by what t says, and what v is
  over_ret_if : (o : Owner) (t : Test) (v : Expr) (c : Code) (q : Option (Bool × State)) (u : State)
      (g : Goes) (xs : List Bool) (es : List Event)
      → bind q (λ r. cond r.0 (returns rotated called v r.1) (some (r.1, on))) ≡ some (u, g)
      → After c g xs es
      → Way ts f (ret_if o t v ⨾ c) ((heard o t q).0 ++ xs) ((heard o t q).1 ++ es)
  over_ret_if o t v c none u g xs es e a = absurd (not_none e)
  over_ret_if o t v c (some r) u g xs es e a = go r.0 e
    where
      go : (x : Bool) → cond x (returns rotated called v r.1) (some (r.1, on)) ≡ some (u, g)
          → Way ts f (ret_if o t v ⨾ c) (x ∷ xs)
          (reach o ∷ said t x ∷ (cond x (reach o ∷ []) [] ++ es))
      go true e =
          let b = only_back (eval_as rotated u32 v r.1) r.1 u g e in
          let n = subst (λ h. After c h xs es) b.1 a in
          rw n.1 w_leave
      go false e = w_stay (subst (λ h. After c h xs es) (ap goes_of (sym e)) a)

  -- a statement, and a way from where it leads
  over : (s : Simple) (c : Code) (z u : State) (g : Goes) (xs : List Bool) (es : List Event)
      → act s z ≡ some (u, g) → After c g xs es
      → Way ts f (s ⨾ c) ((told s z).0 ++ xs) ((told s z).1 ++ es)
  unfolding step
  over (gap l n) c z u g xs es e a = w_gap (subst (λ h. After c h xs es) (ap goes_of (sym e)) a)
  over (record_mark k i n) c z u g xs es e a =
      w_record (subst (λ h. After c h xs es) (ap goes_of (sym e)) a)
  over (plain o p) c z u g xs es e a =
      w_plain (subst (λ h. After c h xs es) (only_on (exec rotated called p z) u g e) a)
  over (label k) c z u g xs es e a = w_label (subst (λ h. After c h xs es) (ap goes_of (sym e)) a)
  over (goto o k) c z u g xs es e a =
      let r = subst (λ h. After c h xs es) (ap goes_of (sym e)) a in w_goto r.1 r.2
  over (ret o t) c z u g xs es e a =
      let b = only_back (eval_as rotated u32 t z) z u g e in
      let n = subst (λ h. After c h xs es) b.1 a in
      rw n.1 w_ret
  over (ret_if o t v) c z u g xs es e a = over_ret_if o t v c (ask t z) u g xs es e a
  over (interp k i) c z u g xs es e a =
      w_interp
      (subst (λ h. After c h xs es)
      (only_on (put (var (u32, x-pc)) (interp_answer z) (after_interp z)) u g e) a)
  over (ret_interp k i) c z u g xs es e a =
      let n = subst (λ h. After c h xs es) (ap goes_of (sym e)) a in rw n.1 w_ret_interp
  over (call k n) c z u g xs es e a = absurd (not_none e)
  over (switch ks) c z u g xs es e a = absurd (not_none e)

  -- a statement, whatever it leads to
  within : (s : Simple) (c : Code) (z : State) → Way ts f (s ⨾ c) (told s z).0 (told s z).1
  within (gap l n) c z = stop
  within (record_mark k i n) c z = w_record stop
  within (plain o p) c z = w_plain stop
  within (label k) c z = stop
  within (goto o k) c z = w_lost
  within (ret o t) c z = w_ret
  within (ret_if o t v) c z = go (ask t z)
    where
      answer : (x : Bool)
          → Way ts f (ret_if o t v ⨾ c) (x ∷ []) (reach o ∷ said t x ∷ cond x (reach o ∷ []) [])
      answer true = w_leave
      answer false = w_stay stop

      go : (q : Option (Bool × State))
          → Way ts f (ret_if o t v ⨾ c) (heard o t q).0 (heard o t q).1
      go none = w_unsaid
      go (some q) = answer q.0
  within (interp k i) c z = w_interp stop
  within (ret_interp k i) c z = w_ret_interp
  within (call k n) c z = stop
  within (switch ks) c z = stop

-- a condition that holds, and one that does not
holds : (x y : Bool) → beq x y ≡ false → negated x y ≡ true
holds true true e = sym e
holds true false e = refl
holds false true e = refl
holds false false e = sym e

fails : (x y : Bool) → beq x y ≡ true → negated x y ≡ false
fails true true e = refl
fails true false e = sym e
fails false true e = sym e
fails false false e = refl

-- the n-th of a list is in it
found_in : (ks : List ℕ) (i k : ℕ) → get_elem? ks i ≡ some k → Memᴰ k ks
found_in [] i k e = absurd (not_none e)
found_in (l ∷ ks) zero k e = let same : k ≡ l = cc in Memᴰ.head same
found_in (l ∷ ks) (suc i) k e = Memᴰ.tail (found_in ks i k e)

-- an execution in a unit is a way through all units
module _ (ts us : List Top) (among : (t : Top) → Memᴰ t ts → Memᴰ t us) where
  pub way_of : {f : Code} {n : Option ℕ} {c : Code} {ds : List Code} {z : State} {xs : List Bool}
      {es : List Event} {r : Result}
      → Execution ts f n c ds z xs es r → Way us f (c ⧺ after_all ds) xs es
  way_of x_stop = stop
  way_of {f} {ds = ds} (x_in {s = s} {c = c} {z = z}) = within us f s (c ⧺ after_all ds) z
  way_of x_asking = w_unanswered
  way_of x_asking_ret = w_unsaid
  way_of {f} {ds = ds} (x_on {s = s} {c = c} {z = z} {u = u} {xs = xs} {es = es} e x) =
      over us f s (c ⧺ after_all ds) z u on xs es e (way_of x)
  way_of {f} {ds = ds}
      (x_to {s = s} {c = c} {d = d} {z = z} {u = u} {k = k} {xs = xs} {es = es} e p x) =
      over us f s (c ⧺ after_all ds) z u (to k) xs es e
      (d, label_at p, subst (λ b. Way us f b xs es) (append_end d) (way_of x))
  way_of {f} {ds = ds} (x_back {s = s} {c = c} {z = z} {u = u} {v = v} e) =
      within us f s (c ⧺ after_all ds) z
  way_of {f} {ds = ds}
      (x_when {o = o} {x = x} {t = t} {b = b} {c = c} {y = y} {xs = xs} {es = es} e h w) =
      w_when (subst (λ j. Way us f (taken j b (c ⧺ after_all ds)) xs es) (sym (holds x y h))
      (way_of w))
  way_of {f} {ds = ds}
      (x_else {o = o} {x = x} {t = t} {b = b} {c = c} {y = y} {xs = xs} {es = es} e h w) =
      w_when (subst (λ j. Way us f (taken j b (c ⧺ after_all ds)) xs es) (sym (fails x y h))
      (way_of w))
  way_of (x_open w) = w_braces (way_of w)
  way_of (x_close w) = way_of w
  way_of (x_call {g = g} {xs = xs} {es = es} m w) =
      w_call (among _ m) (subst (λ b. Way us g b xs es) (append_end g) (way_of w))
  way_of {f} (x_case {i = i} {k = k} {ks = ks} {d = d} {xs = xs} {es = es} e p w) =
      w_entry (found_in ks i k e) (label_at p)
      (subst (λ b. Way us f b xs es) (append_end d) (way_of w))
  way_of (x_default e) = w_default
