-- How an execution gets from a function's head to its first block.
use Prim.Native.Nat.{ℕ}
use mathlib.Core.Path.{◌≡◌, refl, sym, ap, ◌∙◌, subst}
use mathlib.Core.Logic.{◌⊎◌, inl, inr}
use mathlib.Core.Bool.{Bool}
use mathlib.Core.List.{List, [], ◌∷◌, ◌++◌, Memᴰ}
use mathlib.Core.Option.{Option, none, some}
use lib.ListN.{get_elem?}
use Rattle.c_tree.specs.Expr.{u32, x-pc}
use Rattle.c_tree.specs.Stmt.{Simple, gap, call, switch, Code, end, ◌⨾◌, group, Top, function}
use Rattle.c_meaning.specs.State.{State, update, index, empty, set_scopes}
use Rattle.c_meaning.specs.Exec.{on, exec, step}
use Rattle.lower_units.specs.Block.{sp}
use Rattle.lower_units.specs.Units.{with_locals}
use Rattle.claim_ways.specs.Ways.{Event}
use Rattle.claim_ways.proofs.Functions.{forwarder}
use Rattle.claim_functions.specs.Counted.{counted}
use Rattle.claim_functions.proofs.Log.{Silent, counted_told, told_counts}
use Rattle.claim_functions.proofs.Outcomes.{state_of, goes_of, on_not_to, on_not_back}
use Rattle.lower_forms.proofs.Body.{not_none}
use Rattle.claim_functions.specs.Execution.{Result, underway, LabelIn, act, parameter}
use Rattle.claim_functions.specs.Execution.{at_start}
use Rattle.claim_functions.specs.Execution.{Execution, x_stop, x_in, x_asking_ret, x_on, x_to}
use Rattle.claim_functions.specs.Execution.{x_back, x_call, x_case, x_default}

-- an execution that is under way, and of which nothing is counted yet
abbrev pub Early : Result → List Event → Type 0
Early r ls = (r ≡ underway) × (ls ≡ [])

-- an execution from some code on that comes to r, and of which ls is counted; or an early one
abbrev pub From : List Top → Code → Option ℕ → Code → State → Result → List Event → Type 0
From ts f n c z r ls = Early r ls
    ⊎ ((xs : List Bool) × (es : List Event) × (ls ≡ counted es) × Execution ts f n c [] z xs es r)

-- what is counted is the same before
counted_as : {ts : List Top} {f : Code} {n : Option ℕ} {c : Code} {z : State} {r : Result}
    (ls ms : List Event) → ls ≡ ms → From ts f n c z r ms → From ts f n c z r ls
counted_as ls ms e (inl h) = inl (h.0, e ∙ h.1)
counted_as ls ms e (inr h) = inr (h.0, h.1, e ∙ h.2, h.3)

-- past a statement that leads on, and of which nothing is counted
pass : {ts : List Top} {f : Code} {n : Option ℕ} {s : Simple} {c : Code} {z : State} {r : Result}
    {xs : List Bool} {es : List Event} (w : State) → Silent s → act s z ≡ some (w, on)
    → Execution ts f n (s ⨾ c) [] z xs es r → From ts f n c w r (counted es)
unfolding step
pass w h e x_stop = inl (refl, refl)
pass {s = s} {z = z} w h e x_in = inl (refl, told_counts s z ∙ h)
pass w h e x_asking_ret = inl (refl, refl)
pass {ts} {f} {n} {s} {c} {z} {r} w h e (x_on {u = u} {xs = xs} {es = es} g x) =
    inr (
      xs,
      es,
      counted_told s z es ∙ ap (λ l. l ++ counted es) h,
      subst (λ t. Execution ts f n c [] t xs es r) (ap (state_of w) (sym g ∙ e)) x,
    )
pass w h e (x_to g p x) = absurd (on_not_to (ap goes_of (sym e ∙ g)))
pass w h e (x_back g) = absurd (on_not_back (ap goes_of (sym e ∙ g)))
pass w h e (x_call m x) = absurd (not_none e)
pass w h e (x_case g p x) = absurd (not_none e)
pass w h e (x_default g) = absurd (not_none e)

past : {ts : List Top} {f : Code} {n : Option ℕ} {s : Simple} {c : Code} {z : State} {r : Result}
    {ls : List Event} (w : State) → Silent s → act s z ≡ some (w, on)
    → From ts f n (s ⨾ c) z r ls → From ts f n c w r ls
past w h e (inl q) = inl q
past {ls = ls} w h e (inr q) = counted_as ls (counted q.1) q.2 (pass w h e q.3)

-- past white space
pub past_gap : {ts : List Top} {f : Code} {n : Option ℕ} {l : Bool} {k : ℕ} {c : Code} {z : State}
    {r : Result} {ls : List Event}
    → From ts f n (gap l k ⨾ c) z r ls → From ts f n c z r ls
unfolding step
past_gap {z = z} q = past z refl refl q

-- the state after the head of a function: c and pc are declared
abbrev pub in_function : State → State
in_function z = set_scopes (update (index x-pc) (some (u32, none)) empty ∷ []) z

-- past the head
pub past_head : {ts : List Top} {f : Code} {n : Option ℕ} {c : Code} (z : State) {r : Result}
    {ls : List Event}
    → From ts f n (with_locals c) (at_start z) r ls → From ts f n c (in_function z) r ls
unfolding with_locals step exec
past_head z q =
    past (in_function z) refl refl
    (past (in_function z) refl refl
    (past (in_function z) refl refl
    (past (in_function z) refl refl
    (past (at_start z) refl refl (past (at_start z) refl refl (past (at_start z) refl refl q))))))

-- a call comes to what the group's function comes to
called_so : {ts : List Top} {f : Code} {n : Option ℕ} {k i : ℕ} {c : Code} {z : State} {r : Result}
    {xs : List Bool} {es : List Event}
    → Execution ts f n (call k i ⨾ c) [] z xs es r
    → Early r (counted es)
    ⊎ ((g : Code) × Memᴰ (function (group k) g) ts
    × From ts g (parameter i) g (at_start z) r (counted es))
unfolding step
called_so x_stop = inl (refl, refl)
called_so x_in = inl (refl, refl)
called_so (x_on e x) = absurd (not_none e)
called_so (x_to e p x) = absurd (not_none e)
called_so (x_back e) = absurd (not_none e)
called_so (x_call {g = g} {xs = xs} {es = es} m x) = inr (g, m, inr (xs, es, refl, x))

pub past_forwarder : {ts : List Top} {f : Code} {n : Option ℕ} {k i : ℕ} {z : State} {r : Result}
    {ls : List Event}
    → From ts f n (forwarder k i) z r ls
    → Early r ls
    ⊎ ((g : Code) × Memᴰ (function (group k) g) ts
    × From ts g (parameter i) g (at_start z) r ls)
past_forwarder {ts} {f} {n} {k = k} {i = i} {z = z} {r = r} {ls = ls} q = go (past_gap q)
  where
    sum : (ms : List Event) → ls ≡ ms
        → Early r ms
        ⊎ ((g : Code) × Memᴰ (function (group k) g) ts
        × From ts g (parameter i) g (at_start z) r ms)
        → Early r ls
        ⊎ ((g : Code) × Memᴰ (function (group k) g) ts
        × From ts g (parameter i) g (at_start z) r ls)
    sum ms e (inl h) = inl (h.0, e ∙ h.1)
    sum ms e (inr h) = inr (h.0, h.1, counted_as ls ms e h.2)

    go : From ts f n (call k i ⨾ sp 1 ⨾ end) z r ls
        → Early r ls
        ⊎ ((g : Code) × Memᴰ (function (group k) g) ts
        × From ts g (parameter i) g (at_start z) r ls)
    go (inl h) = inl h
    go (inr h) = sum (counted h.1) h.2 (called_so h.3)

-- the switch leads to the label of the i-th key
switched : {ts : List Top} {f : Code} {i k : ℕ} {ks : List ℕ} {c : Code} {z : State} {r : Result}
    {xs : List Bool} {es : List Event} → get_elem? ks i ≡ some k
    → Execution ts f (some i) (switch ks ⨾ c) [] z xs es r
    → Early r (counted es) ⊎ ((d : Code) × LabelIn k f d × From ts f (some i) d z r (counted es))
unfolding step
switched h x_stop = inl (refl, refl)
switched h x_in = inl (refl, refl)
switched h (x_on e x) = absurd (not_none e)
switched h (x_to e p x) = absurd (not_none e)
switched h (x_back e) = absurd (not_none e)
switched {f = f} {k = k} h (x_case {k = l} {d = d} {xs = xs} {es = es} e p x) =
    let same : l ≡ k = cc in inr (d, subst (λ j. LabelIn j f d) same p, inr (xs, es, refl, x))
switched h (x_default e) = absurd (not_none (sym e ∙ h))

pub past_switch : {ts : List Top} {f : Code} {i k : ℕ} {ks : List ℕ} {c : Code} {z : State}
    {r : Result} {ls : List Event} → get_elem? ks i ≡ some k
    → From ts f (some i) (switch ks ⨾ c) z r ls
    → Early r ls ⊎ ((d : Code) × LabelIn k f d × From ts f (some i) d z r ls)
past_switch h (inl q) = inl q
past_switch {ts} {f} {i} {k} {z = z} {r = r} {ls = ls} h (inr q) = go (switched h q.3)
  where
    go : Early r (counted q.1)
        ⊎ ((d : Code) × LabelIn k f d × From ts f (some i) d z r (counted q.1))
        → Early r ls ⊎ ((d : Code) × LabelIn k f d × From ts f (some i) d z r ls)
    go (inl p) = inl (p.0, q.2 ∙ p.1)
    go (inr p) = inr (p.0, p.1, counted_as ls (counted q.1) q.2 p.2)
