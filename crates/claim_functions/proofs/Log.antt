-- The events that demand 3 counts where code is run, computed as c_meaning's `run` is.
use Prim.Native.Nat.{ℕ}
use mathlib.Core.Path.{◌≡◌, refl, sym, ap, ◌∙◌}
use mathlib.Core.Bool.{Bool, true, false, cond, beq}
use mathlib.Core.List.{List, [], ◌∷◌, ◌++◌, append_assoc}
use mathlib.Core.Option.{Option, none, some}
use Rattle.c_tree.specs.Stmt.{Test, Owner, Simple, gap, record_mark, plain, label, goto, ret, ret_if}
use Rattle.c_tree.specs.Stmt.{interp, ret_interp, call, switch, Code, end, ◌⨾◌, when, braces, ◌⧺◌}
use Rattle.c_tree.proofs.Statements.{EachStatement}
use Rattle.c_meaning.specs.State.{State, bind, enter, leave}
use Rattle.c_meaning.specs.Exec.{Goes, on, to, back, Outcome, next, runs}
use Rattle.c_meaning.specs.Helpers.{run}
use Rattle.claim_ways.specs.Ways.{Event, reach, said, native_start, interpreted}
use Rattle.claim_functions.specs.Execution.{heard, ask, act, told}
use Rattle.claim_functions.specs.Counted.{counted}

-- those of a statement without braces
abbrev pub counts : Simple → List Event
counts (gap l n) = []
counts (record_mark k i n) = native_start k i n ∷ []
counts (plain o p) = []
counts (label k) = []
counts (goto o k) = []
counts (ret o e) = []
counts (ret_if o t e) = []
counts (interp k i) = interpreted k i ∷ []
counts (ret_interp k i) = interpreted k i ∷ []
counts (call k n) = []
counts (switch ks) = []

-- those after statements that lead on
abbrev onward : Goes → List Event → List Event
onward on es = es
onward (to k) es = []
onward (back v) es = []

abbrev pub led_on : Outcome → (State → List Event) → List Event
led_on none f = []
led_on (some q) f = onward q.1 (f q.0)

-- those after a test
abbrev pub tested : Option (Bool × State) → (Bool × State → List Event) → List Event
tested none f = []
tested (some q) f = f q

-- those of code
unfoldable pub log : Code → State → List Event
unfolding run
log end z = []
log (s ⨾ c) z = counts s ++ led_on (act s z) (log c)
log (when o n t b c) z =
    tested (ask t z) λ q. cond (beq n q.0) (log c q.1)
    (log b (enter q.1) ++ led_on (run b (enter q.1)) (λ r. log c (leave r)))
log (braces b c) z = log b (enter z) ++ led_on (run b (enter z)) (λ r. log c (leave r))

-- and of what stands after the braces around it
unfoldable pub log_then : List Code → Outcome → List Event
unfolding log
log_then [] o = []
log_then (d ∷ ds) o =
    led_on o (λ r. log d (leave r)) ++ log_then ds (bind o λ q. next q.1 (leave q.0) (run d))

abbrev pub log_all : Code → List Code → State → List Event
log_all c ds z = log c z ++ log_then ds (run c z)

pub append_nil : (es : List Event) → es ++ [] ≡ es
append_nil [] = refl
append_nil (e ∷ es) = ap (λ l. e ∷ l) (append_nil es)

-- what is counted of two parts
counted_append : (es fs : List Event) → counted (es ++ fs) ≡ counted es ++ counted fs
counted_append [] fs = refl
counted_append (reach o ∷ es) fs = counted_append es fs
counted_append (said t x ∷ es) fs = counted_append es fs
counted_append (native_start k i n ∷ es) fs = ap (λ l. native_start k i n ∷ l) (counted_append es fs)
counted_append (interpreted k i ∷ es) fs = ap (λ l. interpreted k i ∷ l) (counted_append es fs)

-- of what a statement is told
heard_none : (o : Owner) (t : Test) (q : Option (Bool × State)) → counted (heard o t q).1 ≡ []
heard_none o t none = refl
heard_none o t (some q) = go q.0
  where
    go : (x : Bool) → counted (cond x (reach o ∷ []) []) ≡ []
    go true = refl
    go false = refl

pub told_counts : (s : Simple) (z : State) → counted (told s z).1 ≡ counts s
told_counts (gap l n) z = refl
told_counts (record_mark k i n) z = refl
told_counts (plain o p) z = refl
told_counts (label k) z = refl
told_counts (goto o k) z = refl
told_counts (ret o e) z = refl
told_counts (ret_if o t e) z = heard_none o t (ask t z)
told_counts (interp k i) z = refl
told_counts (ret_interp k i) z = refl
told_counts (call k n) z = refl
told_counts (switch ks) z = refl

-- what is counted of a statement, and after it
pub counted_told : (s : Simple) (z : State) (es : List Event)
    → counted ((told s z).1 ++ es) ≡ counts s ++ counted es
counted_told s z es = counted_append (told s z).1 es ∙ ap (λ l. l ++ counted es) (told_counts s z)

-- nothing is counted after what leads elsewhere
then_to : (ds : List Code) (u : State) (k : ℕ) → log_then ds (some (u, to k)) ≡ []
unfolding log_then
then_to [] u k = refl
then_to (d ∷ ds) u k = then_to ds (leave u) k

then_back : (ds : List Code) (u : State) (v : ℕ) → log_then ds (some (u, back v)) ≡ []
unfolding log_then
then_back [] u v = refl
then_back (d ∷ ds) u v = then_back ds (leave u) v

-- a statement, by where it leads
pub log_on : (s : Simple) (c : Code) (ds : List Code) (z u : State) → act s z ≡ some (u, on)
    → log_all (s ⨾ c) ds z ≡ counts s ++ log_all c ds u
unfolding log run runs
log_on s c ds z u e = rw e (append_assoc (counts s) (log c u) (log_then ds (run c u)))

pub log_to : (s : Simple) (c : Code) (ds : List Code) (z u : State) (k : ℕ)
    → act s z ≡ some (u, to k) → log_all (s ⨾ c) ds z ≡ counts s
unfolding log run runs
log_to s c ds z u k e = rw (e, then_to ds u k) (append_nil (counts s ++ []) ∙ append_nil (counts s))

pub log_back : (s : Simple) (c : Code) (ds : List Code) (z u : State) (v : ℕ)
    → act s z ≡ some (u, back v) → log_all (s ⨾ c) ds z ≡ counts s
unfolding log run runs
log_back s c ds z u v e =
    rw (e, then_back ds u v) (append_nil (counts s ++ []) ∙ append_nil (counts s))

-- a statement that is begun
pub log_in : (s : Simple) (c : Code) (ds : List Code) (z : State)
    → (rest : List Event) × (log_all (s ⨾ c) ds z ≡ counts s ++ rest)
unfolding log
log_in s c ds z = (
  led_on (act s z) (log c)
      ++ log_then ds (run (s ⨾ c) z),
  append_assoc (counts s) (led_on (act s z) (log c))
      (log_then ds (run (s ⨾ c) z)),
)

pub log_when : (o : Owner) (x : Bool) (t : Test) (b c : Code) (ds : List Code) (z u : State)
    (y : Bool) → ask t z ≡ some (y, u) → beq x y ≡ false
    → log_all (when o x t b c) ds z ≡ log_all b (c ∷ ds) (enter u)
unfolding log log_then run runs
log_when o x t b c ds z u y e h =
    rw (e, h)
    (append_assoc (log b (enter u)) (led_on (run b (enter u)) (λ r. log c (leave r)))
    (log_then ds (bind (run b (enter u)) λ q. next q.1 (leave q.0) (run c))))

pub log_else : (o : Owner) (x : Bool) (t : Test) (b c : Code) (ds : List Code) (z u : State)
    (y : Bool) → ask t z ≡ some (y, u) → beq x y ≡ true
    → log_all (when o x t b c) ds z ≡ log_all c ds u
unfolding log log_then run runs
log_else o x t b c ds z u y e h = rw (e, h)

pub log_open : (b c : Code) (ds : List Code) (z : State)
    → log_all (braces b c) ds z ≡ log_all b (c ∷ ds) (enter z)
unfolding log log_then run runs
log_open b c ds z =
    append_assoc (log b (enter z)) (led_on (run b (enter z)) (λ r. log c (leave r)))
    (log_then ds (run (braces b c) z))

pub log_close : (d : Code) (ds : List Code) (z : State)
    → log_all end (d ∷ ds) z ≡ log_all d ds (leave z)
unfolding log log_then run runs
log_close d ds z = refl

-- code after code
continued : (f : State → State) (o : Outcome) (c d : Code)
    → ((u : State) → log (c ⧺ d) u ≡ log c u ++ led_on (run c u) (log d))
    → led_on o (λ r. log (c ⧺ d) (f r))
    ≡ led_on o (λ r. log c (f r)) ++ led_on (bind o λ q. next q.1 (f q.0) (run c)) (log d)
continued f none c d h = refl
continued f (some q) c d h = go q.1
  where
    go : (g : Goes)
        → onward g (log (c ⧺ d) (f q.0))
        ≡ onward g (log c (f q.0)) ++ led_on (next g (f q.0) (run c)) (log d)
    go on = h (f q.0)
    go (to k) = refl
    go (back v) = refl

regroup : (es fs gs hs : List Event) → fs ≡ gs ++ hs → es ++ fs ≡ (es ++ gs) ++ hs
regroup es fs gs hs e = ap (λ l. es ++ l) e ∙ sym (append_assoc es gs hs)

pub log_append : (c d : Code) (z : State) → log (c ⧺ d) z ≡ log c z ++ led_on (run c z) (log d)
unfolding log run runs
log_append end d z = refl
log_append (s ⨾ c) d z =
    regroup (counts s) _ _ _ (continued (λ r. r) (act s z) c d (log_append c d))
log_append (when o n t b c) d z = go (log_append c d) (ask t z)
  where
    go : ((u : State) → log (c ⧺ d) u ≡ log c u ++ led_on (run c u) (log d))
        → (q : Option (Bool × State))
        → tested q
        (λ q. cond (beq n q.0) (log (c ⧺ d) q.1)
        (log b (enter q.1) ++ led_on (run b (enter q.1)) (λ r. log (c ⧺ d) (leave r))))
        ≡ tested q
        (λ q. cond (beq n q.0) (log c q.1)
        (log b (enter q.1) ++ led_on (run b (enter q.1)) (λ r. log c (leave r))))
        ++ led_on
        (bind q λ q. cond (beq n q.0) (run c q.1)
        (bind (run b (enter q.1)) λ r. next r.1 (leave r.0) (run c))) (log d)
    go h none = refl
    go h (some q) = pick (beq n q.0)
      where
        pick : (x : Bool)
            → cond x (log (c ⧺ d) q.1)
            (log b (enter q.1) ++ led_on (run b (enter q.1)) (λ r. log (c ⧺ d) (leave r)))
            ≡ cond x (log c q.1)
            (log b (enter q.1) ++ led_on (run b (enter q.1)) (λ r. log c (leave r)))
            ++ led_on
            (cond x (run c q.1)
            (bind (run b (enter q.1)) λ r. next r.1 (leave r.0) (run c))) (log d)
        pick true = h q.1
        pick false =
            regroup (log b (enter q.1)) _ _ _ (continued leave (run b (enter q.1)) c d h)
log_append (braces b c) d z =
    regroup (log b (enter z)) _ _ _ (continued leave (run b (enter z)) c d (log_append c d))

-- code of which nothing is counted
abbrev pub Silent : Simple → Type 0
Silent s = counts s ≡ []

pub silent_on : (o : Outcome) (f : State → List Event) → ((u : State) → f u ≡ []) → led_on o f ≡ []
silent_on none f h = refl
silent_on (some q) f h = go q.1
  where
    go : (g : Goes) → onward g (f q.0) ≡ []
    go on = h q.0
    go (to k) = refl
    go (back v) = refl

both_none : {es fs : List Event} → es ≡ [] → fs ≡ [] → es ++ fs ≡ []
both_none e f = rw (e, f)

pub silent_log : (c : Code) → EachStatement Silent c → (z : State) → log c z ≡ []
unfolding log
silent_log end h z = refl
silent_log (s ⨾ c) h z = both_none h.0 (silent_on (act s z) (log c) (silent_log c h.1))
silent_log (when o n t b c) h z = go (silent_log b h.0) (silent_log c h.1) (ask t z)
  where
    go : ((u : State) → log b u ≡ []) → ((u : State) → log c u ≡ []) → (q : Option (Bool × State))
        → tested q
        (λ q. cond (beq n q.0) (log c q.1)
        (log b (enter q.1) ++ led_on (run b (enter q.1)) (λ r. log c (leave r)))) ≡ []
    go f g none = refl
    go f g (some q) = pick (beq n q.0)
      where
        pick : (x : Bool)
            → cond x (log c q.1)
            (log b (enter q.1) ++ led_on (run b (enter q.1)) (λ r. log c (leave r))) ≡ []
        pick true = g q.1
        pick false =
            both_none (f (enter q.1))
            (silent_on (run b (enter q.1)) (λ r. log c (leave r)) (λ r. g (leave r)))
silent_log (braces b c) h z =
    both_none (silent_log b h.0 (enter z))
    (silent_on (run b (enter z)) (λ r. log c (leave r)) (λ r. silent_log c h.1 (leave r)))
