-- Code that c_meaning's `run` runs is executed.
use Prim.Native.Nat.{ℕ}
use mathlib.Core.Path.{◌≡◌, refl, sym, ap, ◌∙◌, subst}
use mathlib.Core.Bool.{Bool, true, false, cond, beq}
use mathlib.Core.List.{List, [], ◌∷◌, ◌++◌, append_assoc}
use mathlib.Core.Option.{Option, none, some}
use Rattle.c_tree.specs.Stmt.{Simple, Code, end, ◌⨾◌, when, braces, ◌⧺◌, Top}
use Rattle.c_meaning.specs.State.{State, bind, enter, leave}
use Rattle.c_meaning.specs.Exec.{Goes, on, to, back, Outcome, next, runs}
use Rattle.c_meaning.specs.Helpers.{run}
use Rattle.claim_ways.specs.Ways.{Event, reach, said}
use Rattle.claim_functions.specs.Execution.{Result, returned, LabelIn, ask, act, told}
use Rattle.claim_functions.specs.Execution.{leave_all, Execution, x_on, x_to, x_back, x_when}
use Rattle.claim_functions.specs.Execution.{x_else, x_open, x_close}
use Rattle.claim_functions.specs.Counted.{counted}
use Rattle.claim_functions.proofs.Outcomes.{state_of, goes_of}
use Rattle.lower_forms.proofs.Body.{not_none}
use Rattle.claim_functions.proofs.Log.{counts, led_on, tested, log, append_nil, counted_told}
use Rattle.claim_functions.proofs.Log.{told_counts}
use Rattle.c_tree.proofs.Laws.{append_end}

module _ (ts : List Top) (f : Code) (n : Option ℕ) where
  -- an execution that goes on from where code led, with ds after the braces around it and rest
  -- after it
  abbrev pub Lands : Code → List Code → State → Goes → List Bool → List Event → Result → Type 0
  Lands rest ds u on xs es r = Execution ts f n rest ds u xs es r
  Lands rest ds u (to k) xs es r =
      (d : Code) × LabelIn k f d × Execution ts f n d [] (leave_all ds u) xs es r
  Lands rest ds u (back v) xs es r = (xs ≡ []) × (es ≡ []) × (r ≡ returned (leave_all ds u) v)

  -- an execution from c on, of which ls is counted before what is counted in es
  abbrev pub From : Code → List Code → State → List Event → List Event → Result → Type 0
  From c ds z ls es r = (xs : List Bool) × (es' : List Event) × (counted es' ≡ ls ++ counted es)
      × Execution ts f n c ds z xs es' r

  -- through a statement
  through : (s : Simple) (c : Code) (ds : List Code) (z u : State) (g : Goes) (xs : List Bool)
      (es : List Event) (r : Result) → act s z ≡ some (u, g)
      → Lands c ds u g xs es r → From (s ⨾ c) ds z (counts s) es r
  through s c ds z u on xs es r e x = (_, _, counted_told s z es, x_on e x)
  through s c ds z u (to k) xs es r e x = (_, _, counted_told s z es, x_to e x.1 x.2)
  through s c ds z u (back v) xs es r e x = (
    (told s z).0,
    (told s z).1,
    told_counts s z ∙ rw x.1 (sym (append_nil (counts s))),
    subst (λ r. Execution ts f n (s ⨾ c) ds z (told s z).0 (told s z).1 r) (sym x.2)
        (x_back e),
  )

  -- an outcome, by its parts
  parts : (o : Outcome) (u : State) (g : Goes) → o ≡ some (u, g) → (P : State → Goes → Type 0)
      → P u g → (w : State) (h : Goes) → o ≡ some (w, h) → P w h
  parts o u g e P p w h e' =
      subst (λ g. P w g) (ap goes_of (sym e ∙ e'))
      (subst (λ s. P s g) (ap (state_of u) (sym e ∙ e')) p)

  -- what is to be proved of code
  abbrev Executed : Code → Type 0
  Executed c =
      (rest : Code) (ds : List Code) (z u : State) (g : Goes) → run c z ≡ some (u, g)
      → (xs : List Bool) (es : List Event) (r : Result)
      → Lands rest ds u g xs es r → From (c ⧺ rest) ds z (log c z) es r

  -- the parts of what is counted
  on_part : {es : List Event} (ps ls ms fs : List Event) → es ≡ ps ++ fs → fs ≡ ls ++ ms
      → es ≡ (ps ++ ls) ++ ms
  on_part ps ls ms fs e h = e ∙ ap (λ l. ps ++ l) h ∙ sym (append_assoc ps ls ms)

  no_part : {es : List Event} (ps ms : List Event) → es ≡ ps ++ ms → es ≡ (ps ++ []) ++ ms
  no_part ps ms e = e ∙ ap (λ l. l ++ ms) (sym (append_nil ps))

  -- a statement and the code after it
  simple : (s : Simple) (c : Code) → Executed c
      → (rest : Code) (ds : List Code) (z u : State) (g : Goes) (xs : List Bool) (es : List Event)
      (r : Result) → Lands rest ds u g xs es r
      → (o : Outcome) → act s z ≡ o → bind o (λ q. next q.1 q.0 (run c)) ≡ some (u, g)
      → From (s ⨾ (c ⧺ rest)) ds z (counts s ++ led_on o (log c)) es r
  simple s c h rest ds z u g xs es r x none p e = absurd (not_none e)
  simple s c h rest ds z u g xs es r x (some (w, on)) p e =
      let a = h rest ds w u g e xs es r x in
      let b = through s (c ⧺ rest) ds z w on a.0 a.1 r p a.3 in
      (b.0, b.1, on_part (counts s) (log c w) (counted es) (counted a.1) b.2 a.2, b.3)
  simple s c h rest ds z u g xs es r x (some (w, to l)) p e =
      let b =
      through s (c ⧺ rest) ds z w (to l) xs es r p
      (parts (some (u, g)) u g refl (λ w h. Lands rest ds w h xs es r) x w (to l) (sym e)) in
      (b.0, b.1, no_part (counts s) (counted es) b.2, b.3)
  simple s c h rest ds z u g xs es r x (some (w, back v)) p e =
      let b =
      through s (c ⧺ rest) ds z w (back v) xs es r p
      (parts (some (u, g)) u g refl (λ w h. Lands rest ds w h xs es r) x w (back v) (sym e)) in
      (b.0, b.1, no_part (counts s) (counted es) b.2, b.3)

  -- what stands in braces and the code after them
  nested : (b c : Code) → Executed b → Executed c
      → (rest : Code) (ds : List Code) (z u : State) (g : Goes) (xs : List Bool) (es : List Event)
      (r : Result) → Lands rest ds u g xs es r
      → (o : Outcome) → run b z ≡ o → bind o (λ q. next q.1 (leave q.0) (run c)) ≡ some (u, g)
      → From b ((c ⧺ rest) ∷ ds) z (log b z ++ led_on o (λ r. log c (leave r))) es r
  nested b c h k rest ds z u g xs es r x o p e = go o p e
    where
      alone : (ls es : List Event) → From (b ⧺ end) ((c ⧺ rest) ∷ ds) z ls es r
          → From b ((c ⧺ rest) ∷ ds) z ls es r
      alone ls es a = (
        a.0,
        a.1,
        a.2,
        subst (λ d. Execution ts f n d ((c ⧺ rest) ∷ ds) z a.0 a.1 r)
            (append_end b) a.3,
      )

      go : (o : Outcome) → run b z ≡ o
          → bind o (λ q. next q.1 (leave q.0) (run c)) ≡ some (u, g)
          → From b ((c ⧺ rest) ∷ ds) z (log b z ++ led_on o (λ r. log c (leave r))) es r
      go none p e = absurd (not_none e)
      go (some (w, on)) p e =
          let a = k rest ds (leave w) u g e xs es r x in
          let d =
          alone (log b z) a.1
          (h end ((c ⧺ rest) ∷ ds) z w on p a.0 a.1 r (x_close a.3)) in (
            d.0,
            d.1,
            on_part (log b z) (log c (leave w)) (counted es) (counted a.1) d.2
                a.2,
            d.3,
          )
      go (some (w, to l)) p e =
          let d =
          alone (log b z) es
          (h end ((c ⧺ rest) ∷ ds) z w (to l) p xs es r
          (parts (some (u, g)) u g refl (λ w h. Lands rest ds w h xs es r) x (leave w) (to l)
          (sym e))) in
          (d.0, d.1, no_part (log b z) (counted es) d.2, d.3)
      go (some (w, back v)) p e =
          let d =
          alone (log b z) es
          (h end ((c ⧺ rest) ∷ ds) z w (back v) p xs es r
          (parts (some (u, g)) u g refl (λ w h. Lands rest ds w h xs es r) x (leave w) (back v)
          (sym e))) in
          (d.0, d.1, no_part (log b z) (counted es) d.2, d.3)

  -- code
  pub executed : (c : Code) → Executed c
  unfolding run runs log
  executed end rest ds z u g e xs es r x =
      (xs, es, refl, parts (some (u, g)) u g refl (λ w h. Lands rest ds w h xs es r) x z on (sym e))
  executed (s ⨾ c) rest ds z u g e xs es r x =
      simple s c (executed c) rest ds z u g xs es r x (act s z) refl e
  executed (when o b t c d) rest ds z u g e xs es r x =
      go (executed c) (executed d) (ask t z) refl e
    where
      go : Executed c → Executed d → (q : Option (Bool × State)) → ask t z ≡ q
          → bind q
          (λ q. cond (beq b q.0) (run d q.1)
          (bind (run c (enter q.1)) λ r. next r.1 (leave r.0) (run d))) ≡ some (u, g)
          → From (when o b t c (d ⧺ rest)) ds z
          (tested q
          (λ q. cond (beq b q.0) (log d q.1)
          (log c (enter q.1) ++ led_on (run c (enter q.1)) (λ r. log d (leave r))))) es r
      go h k none p e = absurd (not_none e)
      go h k (some (y, w)) p e = pick (beq b y) refl e
        where
          pick : (v : Bool) → beq b y ≡ v
              → cond v (run d w) (bind (run c (enter w)) λ r. next r.1 (leave r.0) (run d))
              ≡ some (u, g)
              → From (when o b t c (d ⧺ rest)) ds z
              (cond v (log d w)
              (log c (enter w) ++ led_on (run c (enter w)) (λ r. log d (leave r)))) es r
          pick true q e = let a = k rest ds w u g e xs es r x in
              (y ∷ a.0, reach o ∷ said t y ∷ a.1, a.2, x_else p q a.3)
          pick false q e =
              let a = nested c d h k rest ds (enter w) u g xs es r x (run c (enter w)) refl e in
              (y ∷ a.0, reach o ∷ said t y ∷ a.1, a.2, x_when p q a.3)
  executed (braces b c) rest ds z u g e xs es r x =
      let a =
      nested b c (executed b) (executed c) rest ds (enter z) u g xs es r x (run b (enter z))
      refl e in
      (a.0, a.1, a.2, x_open a.3)
