-- Two executions from one state are alike: as far as they have come, they are one.
use Prim.Native.Nat.{ℕ}
use mathlib.Core.Path.{◌≡◌, refl, sym, ap, ◌∙◌, subst}
use mathlib.Core.Bool.{Bool, true, cond, beq, true≢false}
use mathlib.Core.List.{List, [], ◌∷◌, ◌++◌, append-nil, append_assoc, Memᴰ}
use mathlib.Core.Option.{Option, none, some}
use Rattle.c_tree.specs.Expr.{Expr}
use Rattle.c_tree.specs.Stmt.{Test, Owner, common, Simple, ret_if, Code, ◌⨾◌, when, group, Top}
use Rattle.c_tree.specs.Stmt.{function}
use Rattle.c_meaning.specs.State.{State, enter}
use Rattle.c_meaning.specs.Exec.{to, back, step}
use Rattle.claim_ways.specs.Ways.{Event, reach, said}
use Rattle.claim_functions.specs.Execution.{Result, underway, LabelIn, heard, ask}
use Rattle.claim_functions.specs.Execution.{told, leave_all, at_start, parameter, Execution}
use Rattle.claim_functions.specs.Execution.{x_stop, x_in, x_asking, x_asking_ret, x_on, x_to}
use Rattle.claim_functions.specs.Execution.{x_back, x_when, x_else, x_open, x_close, x_call}
use Rattle.claim_functions.specs.Execution.{x_case, x_default}
use Rattle.claim_functions.specs.Determined.{Begins, Alike, same, behind, ahead}
use Rattle.claim_functions.proofs.Outcomes.{state_of, goes_of, on_not_to, on_not_back}
use Rattle.claim_functions.proofs.Outcomes.{to_not_back}
use Rattle.lower_forms.proofs.Body.{not_none}

-- a label stands once
abbrev pub Once : Code → Type 0
Once f = (k : ℕ) (d e : Code) → LabelIn k f d → LabelIn k f e → e ≡ d

-- parts of outcomes that are the same
to_key : {k l : ℕ} → to k ≡ to l → k ≡ l
to_key e = cc

back_value : {k l : ℕ} → back k ≡ back l → k ≡ l
back_value e = cc

-- of a test that has been answered
abbrev answer_of : Option (Bool × State) → Bool
answer_of none = true
answer_of (some q) = q.0

abbrev after_of : State → Option (Bool × State) → State
after_of d none = d
after_of d (some q) = q.1

-- what begins others
begins : {xs : List Bool} {es : List Event} (ys : List Bool) (fs : List Event)
    → Begins xs es (xs ++ ys) (es ++ fs)
begins ys fs = record { later_answers = ys; later_events = fs; answers = refl; events = refl }

-- and itself
itself : (xs : List Bool) (es : List Event) → Begins xs es xs es
itself xs es =
    record {
      later_answers = [];
      later_events = [];
      answers = sym (append-nil xs);
      events = sym (append-nil es);
    }

-- the same before both
begins_after : (ys : List Bool) (fs : List Event) {xs xs' : List Bool} {es es' : List Event}
    → Begins xs es xs' es' → Begins (ys ++ xs) (fs ++ es) (ys ++ xs') (fs ++ es')
begins_after ys fs {xs} {es = es} b =
    record {
      later_answers = b.later_answers;
      later_events = b.later_events;
      answers = ap (λ l. ys ++ l) b.answers ∙ sym (append_assoc ys xs b.later_answers);
      events = ap (λ l. fs ++ l) b.events ∙ sym (append_assoc fs es b.later_events);
    }

alike_after : (ys : List Bool) (fs : List Event) {xs xs' : List Bool} {es es' : List Event}
    {r r' : Result} → Alike xs es r xs' es' r'
    → Alike (ys ++ xs) (fs ++ es) r (ys ++ xs') (fs ++ es') r'
alike_after ys fs (same p q e) = same (ap (λ l. ys ++ l) p) (ap (λ l. fs ++ l) q) e
alike_after ys fs (behind e b) = behind e (begins_after ys fs b)
alike_after ys fs (ahead e b) = ahead e (begins_after ys fs b)

said_alike : (o : Owner) (t : Test) {a b : Bool} {xs xs' : List Bool} {es es' : List Event}
    {r r' : Result} → a ≡ b → Alike xs es r xs' es' r'
    → Alike (a ∷ xs) (reach o ∷ said t a ∷ es) r (b ∷ xs') (reach o ∷ said t b ∷ es') r'
said_alike o t {a} {b} {xs} {xs'} {es} {es'} {r} {r'} e q =
    subst (λ c. Alike (a ∷ xs) (reach o ∷ said t a ∷ es) r (c ∷ xs') (reach o ∷ said t c ∷ es') r')
    e (alike_after (a ∷ []) (reach o ∷ said t a ∷ []) q)

-- an `if` that returns is reached before its test answers
asked : (o : Owner) (t : Test) (q : Option (Bool × State)) (xs : List Bool) (es : List Event)
    → Begins [] (reach o ∷ []) ((heard o t q).0 ++ xs) ((heard o t q).1 ++ es)
asked o t none xs es = begins xs es
asked o t (some q) xs es =
    begins (q.0 ∷ xs) (said t q.0 ∷ (cond q.0 (reach o ∷ []) [] ++ es))

asked_alone : (o : Owner) (t : Test) (q : Option (Bool × State))
    → Begins [] (reach o ∷ []) (heard o t q).0 (heard o t q).1
asked_alone o t none = begins [] []
asked_alone o t (some q) = begins (q.0 ∷ []) (said t q.0 ∷ cond q.0 (reach o ∷ []) [])

-- an execution in its first statement, or in its test, against any other
in_alike : {ts : List Top} {f : Code} {n : Option ℕ} {s : Simple} {c : Code} {ds : List Code}
    {z : State} {xs : List Bool} {es : List Event} {r : Result}
    → Execution ts f n (s ⨾ c) ds z xs es r → Alike (told s z).0 (told s z).1 underway xs es r
in_alike {s = s} {z = z} x_stop = ahead refl (begins (told s z).0 (told s z).1)
in_alike x_in = same refl refl refl
in_alike {z = z} (x_asking_ret {o = o} {t = t}) = ahead refl (asked_alone o t (ask t z))
in_alike (x_on {xs = xs} {es = es} e x) = behind refl (begins xs es)
in_alike (x_to {xs = xs} {es = es} e p x) = behind refl (begins xs es)
in_alike {s = s} {z = z} (x_back e) = behind refl (itself (told s z).0 (told s z).1)
in_alike {xs = xs} {es = es} (x_call m x) = behind refl (begins xs es)
in_alike {xs = xs} {es = es} (x_case e p x) = behind refl (begins xs es)
in_alike (x_default e) = behind refl (begins [] (reach common ∷ []))

asking_ret_alike : {ts : List Top} {f : Code} {n : Option ℕ} {o : Owner} {t : Test} {v : Expr}
    {c : Code} {ds : List Code} {z : State} {xs : List Bool} {es : List Event} {r : Result}
    → Execution ts f n (ret_if o t v ⨾ c) ds z xs es r → Alike [] (reach o ∷ []) underway xs es r
asking_ret_alike {o = o} x_stop = ahead refl (begins [] (reach o ∷ []))
asking_ret_alike {o = o} {t = t} {z = z} x_in = behind refl (asked_alone o t (ask t z))
asking_ret_alike x_asking_ret = same refl refl refl
asking_ret_alike {o = o} {t = t} {z = z} (x_on {xs = xs} {es = es} e x) =
    behind refl (asked o t (ask t z) xs es)
asking_ret_alike {o = o} {t = t} {z = z} (x_to {xs = xs} {es = es} e p x) =
    behind refl (asked o t (ask t z) xs es)
asking_ret_alike {o = o} {t = t} {z = z} (x_back e) = behind refl (asked_alone o t (ask t z))

asking_alike : {ts : List Top} {f : Code} {n : Option ℕ} {o : Owner} {x : Bool} {t : Test}
    {b c : Code} {ds : List Code} {z : State} {xs : List Bool} {es : List Event} {r : Result}
    → Execution ts f n (when o x t b c) ds z xs es r → Alike [] (reach o ∷ []) underway xs es r
asking_alike {o = o} x_stop = ahead refl (begins [] (reach o ∷ []))
asking_alike x_asking = same refl refl refl
asking_alike (x_when {t = t} {y = y} {xs = xs} {es = es} e h x) =
    behind refl (begins (y ∷ xs) (said t y ∷ es))
asking_alike (x_else {t = t} {y = y} {xs = xs} {es = es} e h x) =
    behind refl (begins (y ∷ xs) (said t y ∷ es))

module _ (ts : List Top)
    (groups : (k : ℕ) (g : Code) → Memᴰ (function (group k) g) ts
    → Once g × ((h : Code) → Memᴰ (function (group k) h) ts → h ≡ g)) where
  pub alike : {f : Code} {n : Option ℕ} {c : Code} {ds : List Code} {z : State}
      {xs xs' : List Bool} {es es' : List Event} {r r' : Result} → Once f
      → Execution ts f n c ds z xs es r → Execution ts f n c ds z xs' es' r'
      → Alike xs es r xs' es' r'
  unfolding step
  -- where one has come no further than its first statement
  alike {xs' = xs'} {es' = es'} L x_stop x' = behind refl (begins xs' es')
  alike L x_in x' = in_alike x'
  alike L x_asking x' = asking_alike x'
  alike L x_asking_ret x' = asking_ret_alike x'
  alike {xs = xs} {es = es} L (x_on e x) x_stop = ahead refl (begins xs es)
  alike L (x_on {xs = xs} {es = es} e x) x_in = ahead refl (begins xs es)
  alike L (x_on {z = z} {xs = xs} {es = es} e x) (x_asking_ret {o = o} {t = t}) =
      ahead refl (asked o t (ask t z) xs es)
  alike {xs = xs} {es = es} L (x_to e p x) x_stop = ahead refl (begins xs es)
  alike L (x_to {xs = xs} {es = es} e p x) x_in = ahead refl (begins xs es)
  alike L (x_to {z = z} {xs = xs} {es = es} e p x) (x_asking_ret {o = o} {t = t}) =
      ahead refl (asked o t (ask t z) xs es)
  alike {xs = xs} {es = es} L (x_back e) x_stop = ahead refl (begins xs es)
  alike L (x_back {s = s} {z = z} e) x_in = ahead refl (itself (told s z).0 (told s z).1)
  alike L (x_back {z = z} e) (x_asking_ret {o = o} {t = t}) =
      ahead refl (asked_alone o t (ask t z))
  alike {xs = xs} {es = es} L (x_call m x) x_stop = ahead refl (begins xs es)
  alike {xs = xs} {es = es} L (x_call m x) x_in = ahead refl (begins xs es)
  alike {xs = xs} {es = es} L (x_case e p x) x_stop = ahead refl (begins xs es)
  alike {xs = xs} {es = es} L (x_case e p x) x_in = ahead refl (begins xs es)
  alike {xs = xs} {es = es} L (x_default e) x_stop = ahead refl (begins xs es)
  alike {xs = xs} {es = es} L (x_default e) x_in = ahead refl (begins xs es)
  alike {xs = xs} {es = es} L (x_when e h x) x_stop = ahead refl (begins xs es)
  alike L (x_when {t = t} {y = y} {xs = xs} {es = es} e h x) x_asking =
      ahead refl (begins (y ∷ xs) (said t y ∷ es))
  alike {xs = xs} {es = es} L (x_else e h x) x_stop = ahead refl (begins xs es)
  alike L (x_else {t = t} {y = y} {xs = xs} {es = es} e h x) x_asking =
      ahead refl (begins (y ∷ xs) (said t y ∷ es))
  alike {xs = xs} {es = es} L (x_open x) x_stop = ahead refl (begins xs es)
  alike {xs = xs} {es = es} L (x_close x) x_stop = ahead refl (begins xs es)
  -- where both go on
  alike {f} {n} {ds = ds} {r' = r'} L (x_on {s = s} {c = c} {z = z} {u = u} e x)
      (x_on {xs = xs'} {es = es'} e' x') =
      alike_after (told s z).0 (told s z).1
      (alike L x
      (subst (λ s. Execution ts f n c ds s xs' es' r') (ap (state_of u) (sym e' ∙ e)) x'))
  alike L (x_on e x) (x_to e' p' x') = absurd (on_not_to (ap goes_of (sym e ∙ e')))
  alike L (x_on e x) (x_back e') = absurd (on_not_back (ap goes_of (sym e ∙ e')))
  alike L (x_on e x) (x_call m' x') = absurd (not_none e)
  alike L (x_on e x) (x_case e' p' x') = absurd (not_none e)
  alike L (x_on e x) (x_default e') = absurd (not_none e)
  alike L (x_to e p x) (x_on e' x') = absurd (on_not_to (ap goes_of (sym e' ∙ e)))
  alike {f} {n} {ds = ds} {r' = r'} L
      (x_to {s = s} {d = d} {z = z} {u = u} {k = k} e p x)
      (x_to {d = d'} {xs = xs'} {es = es'} e' p' x') =
      let q : LabelIn k f d' = subst (λ k. LabelIn k f d') (to_key (ap goes_of (sym e' ∙ e))) p' in
      alike_after (told s z).0 (told s z).1
      (alike L x
      (subst (λ c. Execution ts f n c [] (leave_all ds u) xs' es' r') (L k d d' p q)
      (subst (λ s. Execution ts f n d' [] (leave_all ds s) xs' es' r')
      (ap (state_of u) (sym e' ∙ e)) x')))
  alike L (x_to e p x) (x_back e') = absurd (to_not_back (ap goes_of (sym e ∙ e')))
  alike L (x_to e p x) (x_call m' x') = absurd (not_none e)
  alike L (x_to e p x) (x_case e' p' x') = absurd (not_none e)
  alike L (x_to e p x) (x_default e') = absurd (not_none e)
  alike L (x_back e) (x_on e' x') = absurd (on_not_back (ap goes_of (sym e' ∙ e)))
  alike L (x_back e) (x_to e' p' x') = absurd (to_not_back (ap goes_of (sym e' ∙ e)))
  alike {ds = ds} L (x_back {u = u} {v = v} e) (x_back {u = u'} {v = v'} e') =
      let y : leave_all ds u ≡ leave_all ds u' = ap (λ o. leave_all ds (state_of u o)) (sym e ∙ e') in
      let w : v ≡ v' = back_value (ap goes_of (sym e ∙ e')) in
      same refl refl (cc)
  alike L (x_back e) (x_call m' x') = absurd (not_none e)
  alike L (x_back e) (x_case e' p' x') = absurd (not_none e)
  alike L (x_back e) (x_default e') = absurd (not_none e)
  alike L (x_call m x) (x_on e' x') = absurd (not_none e')
  alike L (x_call m x) (x_to e' p' x') = absurd (not_none e')
  alike L (x_call m x) (x_back e') = absurd (not_none e')
  alike {xs' = xs'} {es' = es'} {r' = r'} L (x_call {k = k} {i = i} {g = g} {z = z} m x)
      (x_call {g = g'} m' x') =
      alike (groups k g m).0 x
      (subst (λ h. Execution ts h (parameter i) h [] (at_start z) xs' es' r')
      ((groups k g m).1 g' m') x')
  alike L (x_case e p x) (x_on e' x') = absurd (not_none e')
  alike L (x_case e p x) (x_to e' p' x') = absurd (not_none e')
  alike L (x_case e p x) (x_back e') = absurd (not_none e')
  alike {f} {ds = ds} {z} {xs' = xs'} {es' = es'} {r' = r'} L
      (x_case {i = i} {k = k} {d = d} e p x) (x_case {k = k'} {d = d'} e' p' x') =
      let key : k' ≡ k = cc in
      alike L x
      (subst (λ c. Execution ts f (some i) c [] (leave_all ds z) xs' es' r')
      (L k d d' p (subst (λ k. LabelIn k f d') key p')) x')
  alike L (x_case e p x) (x_default e') = absurd (not_none (sym e' ∙ e))
  alike L (x_default e) (x_on e' x') = absurd (not_none e')
  alike L (x_default e) (x_to e' p' x') = absurd (not_none e')
  alike L (x_default e) (x_back e') = absurd (not_none e')
  alike L (x_default e) (x_case e' p' x') = absurd (not_none (sym e ∙ e'))
  alike L (x_default e) (x_default e') = same refl refl refl
  alike {f} {n} {ds = ds} {r' = r'} L
      (x_when {o = o} {t = t} {b = b} {c = c} {u = u} {y = a} {xs = xs} {es = es} e h x)
      (x_when {y = a'} {xs = xs'} {es = es'} e' h' x') =
      let w = alike L x
      (subst (λ s. Execution ts f n b (c ∷ ds) (enter s) xs' es' r')
      (ap (after_of u) (sym e' ∙ e)) x') in
      said_alike o t (ap answer_of (sym e ∙ e')) w
  alike L (x_when {x = x₀} e h x) (x_else e' h' x') =
      absurd (true≢false (sym h' ∙ ap (λ q. beq x₀ (answer_of q)) (sym e' ∙ e) ∙ h))
  alike L (x_else {x = x₀} e h x) (x_when e' h' x') =
      absurd (true≢false (sym h ∙ ap (λ q. beq x₀ (answer_of q)) (sym e ∙ e') ∙ h'))
  alike {f} {n} {ds = ds} {r' = r'} L
      (x_else {o = o} {t = t} {c = c} {u = u} {y = a} e h x)
      (x_else {y = a'} {xs = xs'} {es = es'} e' h' x') =
      let w = alike L x
      (subst (λ s. Execution ts f n c ds s xs' es' r') (ap (after_of u) (sym e' ∙ e)) x') in
      said_alike o t (ap answer_of (sym e ∙ e')) w
  alike L (x_open x) (x_open x') = alike L x x'
  alike L (x_close x) (x_close x') = alike L x x'
