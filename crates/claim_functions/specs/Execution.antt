-- To be believed: how the functions of a unit are executed by C99: a statement by c_meaning's
-- `step` and `asks`; and what these leave out: a goto to its label, the switch of a group, the call
-- of its function.
use Rattle.std.specs.Prelude.{ℕ, ◌%◌, ◌^◌, ◌≡◌, Bool, true, false, cond}
use Rattle.std.specs.Bool.{beq}
use mathlib.Core.List.{List, [], ◌∷◌, ◌++◌, Memᴰ}
use Rattle.std.proofs.Math.Option.{Option, none, some}
use Rattle.std.proofs.Math.ListN.{get_elem?}
use Rattle.c_tree.specs.Expr.{Expr}
use Rattle.c_tree.specs.Stmt.{Test, Owner, common, Simple, gap, record_mark, plain, label, goto, ret}
use Rattle.c_tree.specs.Stmt.{ret_if, interp, ret_interp, call, switch, Code, end, ◌⨾◌, when, braces}
use Rattle.c_tree.specs.Stmt.{group, Top, function}
use Rattle.c_meaning.specs.State.{State, set_scopes, empty, enter, leave}
use Rattle.c_meaning.specs.Exec.{on, to, back, Outcome, asks, step}
use Rattle.c_meaning.specs.Helpers.{rotated, called}
use Rattle.claim_ways.specs.Ways.{Event, reach, said, native_start, interpreted}

-- what an execution has come to: it is under way, or its function has returned, in a state, with a
-- value
pub data Result : Type 0 where
  underway : Result
  returned : State → ℕ → Result

-- LabelIn k f d: in the function body f, inside no braces, there is the label k, and d is the code
-- from there on
pub data LabelIn (k : ℕ) : Code → Code → Type 0 where
  l_here : {c : Code} → LabelIn k (label k ⨾ c) c
  l_later : {s : Simple} {c d : Code} → LabelIn k c d → LabelIn k (s ⨾ c) d
  l_when : {o : Owner} {n : Bool} {t : Test} {b c d : Code} → LabelIn k c d
      → LabelIn k (when o n t b c) d
  l_braces : {b c d : Code} → LabelIn k c d → LabelIn k (braces b c) d

-- what the test of a statement `if (test) return` answers, and the events there, by what
-- c_meaning's `asks` makes of it
abbrev pub heard : Owner → Test → Option (Bool × State) → List Bool × List Event
heard o t none = ([], reach o ∷ [])
heard o t (some q) = (q.0 ∷ [], reach o ∷ said t q.0 ∷ cond q.0 (reach o ∷ []) [])

-- the text's tests and statements without braces, by C99
abbrev pub ask : Test → State → Option (Bool × State)
ask = asks rotated called

abbrev pub act : Simple → State → Outcome
act = step rotated called

-- the answers that a statement without braces is given, and its events
abbrev pub told : Simple → State → List Bool × List Event
told (gap l n) z = ([], [])
told (record_mark k i n) z = ([], native_start k i n ∷ [])
told (plain o p) z = ([], reach o ∷ [])
told (label k) z = ([], [])
told (goto o k) z = ([], reach o ∷ [])
told (ret o e) z = ([], reach o ∷ [])
told (ret_if o t e) z = heard o t (ask t z)
told (interp k i) z = ([], interpreted k i ∷ [])
told (ret_interp k i) z = ([], interpreted k i ∷ [])
told (call k n) z = ([], [])
told (switch ks) z = ([], [])

-- a goto or a return out of some braces, after each of which stands the code ds: their scopes end
abbrev pub leave_all : List Code → State → State
leave_all [] z = z
leave_all (d ∷ ds) z = leave_all ds (leave z)

-- what a parameter of the type uint32_t gets where a number is handed over
abbrev pub parameter : ℕ → Option ℕ
parameter i = some (i % 2 ^ 32)

-- at the start of a function nothing is declared, and the caller's locals are out of reach
abbrev pub at_start : State → State
at_start z = set_scopes (empty ∷ []) z

-- Execution ts f n c ds z xs es r: in the unit ts, in the function with the body f and the
-- parameter n, if it has one, C goes on from the state z with the code c, and with ds after the
-- braces around c, the innermost first; conditions, guard and gate give the answers xs; the events
-- are es; it comes to r
pub data Execution (ts : List Top) : Code → Option ℕ → Code → List Code → State → List Bool
    → List Event → Result → Type 0 where
  -- it may be looked at at any time: before a statement,
  x_stop : {f : Code} {n : Option ℕ} {c : Code} {ds : List Code} {z : State}
      → Execution ts f n c ds z [] [] underway
  -- or in one, which may be undefined, or call what does not return,
  x_in : {f : Code} {n : Option ℕ} {s : Simple} {c : Code} {ds : List Code} {z : State}
      → Execution ts f n (s ⨾ c) ds z (told s z).0 (told s z).1 underway
  -- or in the test of an `if` with braces or of one that returns, before there is an answer
  x_asking : {f : Code} {n : Option ℕ} {o : Owner} {x : Bool} {t : Test} {b c : Code}
      {ds : List Code} {z : State}
      → Execution ts f n (when o x t b c) ds z [] (reach o ∷ []) underway
  x_asking_ret : {f : Code} {n : Option ℕ} {o : Owner} {t : Test} {e : Expr} {c : Code}
      {ds : List Code} {z : State}
      → Execution ts f n (ret_if o t e ⨾ c) ds z [] (reach o ∷ []) underway
  -- a statement that leads on
  x_on : {f : Code} {n : Option ℕ} {s : Simple} {c : Code} {ds : List Code} {z u : State}
      {xs : List Bool} {es : List Event} {r : Result}
      → act s z ≡ some (u, on) → Execution ts f n c ds u xs es r
      → Execution ts f n (s ⨾ c) ds z ((told s z).0 ++ xs) ((told s z).1 ++ es) r
  -- one that leads to a label: C goes on after the label, outside all braces
  x_to : {f : Code} {n : Option ℕ} {s : Simple} {c d : Code} {ds : List Code} {z u : State} {k : ℕ}
      {xs : List Bool} {es : List Event} {r : Result}
      → act s z ≡ some (u, to k) → LabelIn k f d → Execution ts f n d [] (leave_all ds u) xs es r
      → Execution ts f n (s ⨾ c) ds z ((told s z).0 ++ xs) ((told s z).1 ++ es) r
  -- one that returns
  x_back : {f : Code} {n : Option ℕ} {s : Simple} {c : Code} {ds : List Code} {z u : State} {v : ℕ}
      → act s z ≡ some (u, back v)
      → Execution ts f n (s ⨾ c) ds z (told s z).0 (told s z).1 (returned (leave_all ds u) v)
  -- if (test) { b }, with a `!` if x: where the condition holds b is done in a scope of its own,
  -- and else it is passed over
  x_when : {f : Code} {n : Option ℕ} {o : Owner} {x : Bool} {t : Test} {b c : Code} {ds : List Code}
      {z u : State} {y : Bool} {xs : List Bool} {es : List Event} {r : Result}
      → ask t z ≡ some (y, u) → beq x y ≡ false → Execution ts f n b (c ∷ ds) (enter u) xs es r
      → Execution ts f n (when o x t b c) ds z (y ∷ xs) (reach o ∷ said t y ∷ es) r
  x_else : {f : Code} {n : Option ℕ} {o : Owner} {x : Bool} {t : Test} {b c : Code} {ds : List Code}
      {z u : State} {y : Bool} {xs : List Bool} {es : List Event} {r : Result}
      → ask t z ≡ some (y, u) → beq x y ≡ true → Execution ts f n c ds u xs es r
      → Execution ts f n (when o x t b c) ds z (y ∷ xs) (reach o ∷ said t y ∷ es) r
  -- { b }, and the closing brace
  x_open : {f : Code} {n : Option ℕ} {b c : Code} {ds : List Code} {z : State} {xs : List Bool}
      {es : List Event} {r : Result}
      → Execution ts f n b (c ∷ ds) (enter z) xs es r → Execution ts f n (braces b c) ds z xs es r
  x_close : {f : Code} {n : Option ℕ} {d : Code} {ds : List Code} {z : State} {xs : List Bool}
      {es : List Event} {r : Result}
      → Execution ts f n d ds (leave z) xs es r → Execution ts f n end (d ∷ ds) z xs es r
  -- return g(a, m, i): what the group function of the unit returns where i is handed over
  x_call : {f : Code} {n : Option ℕ} {k i : ℕ} {c g : Code} {ds : List Code} {z : State}
      {xs : List Bool} {es : List Event} {r : Result}
      → Memᴰ (function (group k) g) ts → Execution ts g (parameter i) g [] (at_start z) xs es r
      → Execution ts f n (call k i ⨾ c) ds z xs es r
  -- switch: with the parameter i to the label of the i-th key, counted from 0; where there is no
  -- i-th key, return 0
  x_case : {f : Code} {i k : ℕ} {ks : List ℕ} {c d : Code} {ds : List Code} {z : State}
      {xs : List Bool} {es : List Event} {r : Result}
      → get_elem? ks i ≡ some k → LabelIn k f d
      → Execution ts f (some i) d [] (leave_all ds z) xs es r
      → Execution ts f (some i) (switch ks ⨾ c) ds z xs es r
  x_default : {f : Code} {i : ℕ} {ks : List ℕ} {c : Code} {ds : List Code} {z : State}
      → get_elem? ks i ≡ none
      → Execution ts f (some i) (switch ks ⨾ c) ds z [] (reach common ∷ [])
      (returned (leave_all ds z) 0)

-- a block's function with the body f, called in a state
abbrev pub Executes : List Top → Code → State → List Bool → List Event → Result → Type 0
Executes ts f z = Execution ts f none f [] (at_start z)
