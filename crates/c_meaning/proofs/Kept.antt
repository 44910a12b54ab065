-- Whatever code runs, it keeps what the scopes that it starts in declare, and uses up the answers
-- of guard and gate in order; and code that does not call the interpreter uses none of its calls
-- up.
use Prim.Native.Nat.{ℕ, suc, ◌+◌}
use mathlib.Core.Path.{◌≡◌, refl, sym, ap, ◌∙◌, subst}
use mathlib.Core.Bool.{Bool, true, false, cond, ◌&&◌, beq, true≢false}
use mathlib.Core.List.{List, [], ◌∷◌}
use mathlib.Core.Option.{Option, none, some, some-injective}
use native.Mathlib.Omega.{arith}
use lib.Dec.{T, leb, eqb, eqb→eq}
use Rattle.c_tree.specs.Expr.{Ty, s8, s16, s32, u32, s64, u64, Name, x-pc, Var, Place, reg, var}
use Rattle.c_tree.specs.Expr.{Expr}
use Rattle.c_tree.specs.Stmt.{Plain, registers, local, declare, adds, set, discard, run, write}
use Rattle.c_tree.specs.Stmt.{tick, Test, guard, gate, other, Simple, gap, record_mark, plain, label}
use Rattle.c_tree.specs.Stmt.{goto, ret, ret_if, interp, ret_interp, call, switch, Code, end, ◌⨾◌}
use Rattle.c_tree.specs.Stmt.{when, braces, Helper, ror32, op-adds, proc, f-nz, f-c, f-nz64, params}
use Rattle.c_meaning.specs.Types.{width, signed, same_ty}
use Rattle.c_meaning.specs.State.{bind, update, index, Cell, Scope, State, set_scopes, enter}
use Rattle.c_meaning.specs.State.{outer, leave, declare_in, declared, assign_in, assigned, put}
use Rattle.c_meaning.specs.State.{answered, interp_answer, after_interp, Later, find, Declares}
use Rattle.c_meaning.specs.Eval.{ty, eval, eval_as}
use Rattle.c_meaning.specs.Exec.{Goes, on, to, back, Outcome, next, ended, returned, new_value}
use Rattle.c_meaning.specs.Exec.{proc_ty, declares, initialise, others, exec, asks, returns}
use Rattle.c_meaning.specs.Exec.{step, runs}
use Rattle.c_meaning.specs.Helpers.{body, arguments, no_ror, no_call, called, rotated}
use Rattle.c_meaning.specs.Helpers as H
use Rattle.c_tree.proofs.Statements.{EachStatement}

-- P of what is defined
data All {A : Type 0} (P : A → Type 0) : Option A → Type 0 where
  undefined : All P none
  defined : {x : A} → P x → All P (some x)

module _ {A : Type 0} {P : A → Type 0} where
  all_some : {x : A} → All P (some x) → P x
  all_some (defined p) = p

  all_of : {o : Option A} {x : A} → All P o → o ≡ some x → P x
  all_of h e = all_some (subst (All P) e h)

  all_cond : (b : Bool) {o p : Option A} → All P o → All P p → All P (cond b o p)
  all_cond true h k = h
  all_cond false h k = k

module _ {A B : Type 0} {Q : B → Type 0} where
  -- a value that is only computed with
  all_value : (o : Option A) {f : A → Option B} → ((x : A) → All Q (f x)) → All Q (bind o f)
  all_value none h = undefined
  all_value (some x) h = h x

  all_bind : {P : A → Type 0} {o : Option A} {f : A → Option B} → All P o
      → ((x : A) → P x → All Q (f x)) → All Q (bind o f)
  all_bind undefined h = undefined
  all_bind (defined {x} p) h = h x p

-- a type from its width and whether it has a sign
abbrev ty_of : ℕ → Bool → Ty
ty_of k true = cond (eqb k 8) s8 (cond (eqb k 16) s16 (cond (eqb k 32) s32 s64))
ty_of k false = cond (eqb k 32) u32 u64

ty_of_ty : (y : Ty) → ty_of (width y) (signed y) ≡ y
ty_of_ty s8 = refl
ty_of_ty s16 = refl
ty_of_ty s32 = refl
ty_of_ty u32 = refl
ty_of_ty s64 = refl
ty_of_ty u64 = refl

-- types that are one
same_ty_lem : (x y : Ty) → same_ty x y ≡ true → x ≡ y
same_ty_lem x y e =
    sym (ty_of_ty x) ∙ go (eqb (width x) (width y)) (signed x) (signed y) refl e ∙ ty_of_ty y
  where
    go : (b s t : Bool) → eqb (width x) (width y) ≡ b → b && cond s t (cond t false true) ≡ true
        → ty_of (width x) s ≡ ty_of (width y) t
    go true true true p q =
        ap (λ (k : ℕ). ty_of k true) (eqb→eq (width x) (width y) (subst T (sym p) tt))
    go true true false p q = cc
    go true false true p q = cc
    go true false false p q =
        ap (λ (k : ℕ). ty_of k false) (eqb→eq (width x) (width y) (subst T (sym p) tt))
    go false s t p q = cc

-- what one scope has, the other has with the same type
abbrev Within : Scope → Scope → Type 0
Within f g =
    (k : ℕ) (y : Ty) (v : Option ℕ) → f k ≡ some (y, v) → (u : Option ℕ) × (g k ≡ some (y, u))

within_refl : (f : Scope) → Within f f
within_refl f k y v e = (v, e)

within_trans : {f g h : Scope} → Within f g → Within g h → Within f h
within_trans p q k y v e = q k y (p k y v e).0 (p k y v e).1

-- a local that is set, or declared where its name is free
update_within : (f : Scope) (k : ℕ) (t : Ty) (w : Option ℕ)
    → ((y : Ty) (v : Option ℕ) → f k ≡ some (y, v) → t ≡ y) → Within f (update k (some (t, w)) f)
update_within f k t w h l y v e = go (eqb l k) refl
  where
    go : (b : Bool) → eqb l k ≡ b → (u : Option ℕ) × (cond b (some (t, w)) (f l) ≡ some (y, u))
    go true p =
        (w, ap (λ (x : Ty). some (x, w)) (h y v (sym (ap f (eqb→eq l k (subst T (sym p) tt))) ∙ e)))
    go false p = (v, e)

-- the same of scopes, one by one
data Over : List Scope → List Scope → Type 0 where
  over_none : Over [] []
  over_scope : {f g : Scope} {fs gs : List Scope} → Within f g → Over fs gs → Over (f ∷ fs) (g ∷ gs)

over_refl : (fs : List Scope) → Over fs fs
over_refl [] = over_none
over_refl (f ∷ fs) = over_scope (within_refl f) (over_refl fs)

over_trans : {fs gs hs : List Scope} → Over fs gs → Over gs hs → Over fs hs
over_trans over_none over_none = over_none
over_trans (over_scope p ps) (over_scope q qs) = over_scope (within_trans p q) (over_trans ps qs)

over_outer : {f : Scope} {fs gs : List Scope} → Over (f ∷ fs) gs → Over fs (outer gs)
over_outer (over_scope p ps) = ps

over_declares : {fs gs : List Scope} (x : Var) → Over fs gs → Declares fs x → Declares gs x
over_declares x over_none d = d
over_declares x (over_scope p ps) d = p (index x.1) x.0 d.0 d.1

declare_in_over : (o : Option Cell) (y : Ty) (k : ℕ) (f : Scope) (fs : List Scope) → f k ≡ o
    → All (Over (f ∷ fs)) (declare_in o y k f fs)
declare_in_over none y k f fs e =
    defined (over_scope (update_within f k y none (λ t v q. cc)) (over_refl fs))
declare_in_over (some p) y k f fs e = undefined

declared_over : (x : Var) (fs : List Scope) → All (Over fs) (declared x fs)
declared_over x [] = undefined
declared_over x (f ∷ fs) = declare_in_over (f (index x.1)) x.0 (index x.1) f fs refl

assign_in_over : (o : Option Cell) (y : Ty) (k v : ℕ) (f : Scope) (fs : List Scope)
    (rest : Option (List Scope)) → f k ≡ o → All (Over fs) rest
    → All (Over (f ∷ fs)) (assign_in o y k v f fs rest)
assign_in_over none y k v f fs rest e h = all_bind h λ gs q. defined (over_scope (within_refl f) q)
assign_in_over (some (t, w)) y k v f fs rest e h = go (same_ty y t) refl
  where
    go : (b : Bool) → same_ty y t ≡ b
        → All (Over (f ∷ fs)) (cond b (some (update k (some (y, some v)) f ∷ fs)) none)
    go true p =
        defined
        (over_scope
        (update_within f k y (some v)
        (λ r u q. same_ty_lem y t p
        ∙ ap (λ (c : Cell). c.0) (some-injective _ _ (sym e ∙ q))))
        (over_refl fs))
    go false p = undefined

assigned_over : (y : Ty) (k v : ℕ) (fs : List Scope) → All (Over fs) (assigned y k v fs)
assigned_over y k v [] = undefined
assigned_over y k v (f ∷ fs) =
    assign_in_over (f k) y k v f fs (assigned y k v fs) refl (assigned_over y k v fs)

-- a statement calls the interpreter only if it may
abbrev pub Permits : Bool → Simple → Type 0
Permits may (gap l n) = Unit {0}
Permits may (record_mark k i n) = Unit {0}
Permits may (plain o s) = Unit {0}
Permits may (label k) = Unit {0}
Permits may (goto o k) = Unit {0}
Permits may (ret o e) = Unit {0}
Permits may (ret_if o t e) = Unit {0}
Permits may (interp k i) = may ≡ true
Permits may (ret_interp k i) = may ≡ true
Permits may (call k n) = Unit {0}
Permits may (switch ks) = Unit {0}

-- the same of each statement of code
abbrev Allows : Bool → Code → Type 0
Allows may c = EachStatement (Permits may) c

-- code that does not call the interpreter
abbrev pub Quiet : Code → Type 0
Quiet c = Allows false c

any_permits : (s : Simple) → Permits true s
any_permits (gap l n) = tt
any_permits (record_mark k i n) = tt
any_permits (plain o s) = tt
any_permits (label k) = tt
any_permits (goto o k) = tt
any_permits (ret o e) = tt
any_permits (ret_if o t e) = tt
any_permits (interp k i) = refl
any_permits (ret_interp k i) = refl
any_permits (call k n) = tt
any_permits (switch ks) = tt

any_allows : (c : Code) → Allows true c
any_allows end = tt
any_allows (s ⨾ c) = (any_permits s, any_allows c)
any_allows (when o n t b c) = (any_allows b, any_allows c)
any_allows (braces b c) = (any_allows b, any_allows c)

-- no function of PREAMBLE calls it
body_allows : (may : Bool) (h : Helper) → Allows may (body h)
body_allows may ror32 = (tt, (tt, (tt, (tt, (tt, tt)))))
body_allows may op-adds = (tt, (tt, (tt, (tt, (tt, (tt, (tt, (tt, (tt, tt)))))))))
body_allows may (proc f-nz) = (tt, (tt, (tt, tt)))
body_allows may (proc f-c) = (tt, (tt, (tt, tt)))
body_allows may (proc f-nz64) = (tt, (tt, (tt, tt)))

-- where no answer is used up
later_same : (z y : State) → ((i : ℕ) → y.answers i ≡ z.answers i) → Later z y
later_same z y h = (0, λ i. let e : i ≡ 0 + i = omega arith in h i ∙ ap z.answers e)

later_refl : (z : State) → Later z z
later_refl z = later_same z z (λ i. refl)

later_trans : (z u y : State) → Later z u → Later u y → Later z y
later_trans z u y p q = (
  p.0 + q.0,
  λ i. let e : p.0 + (q.0 + i) ≡ p.0 + q.0 + i =
      omega arith in q.1 i ∙ p.1 (q.0 + i) ∙ ap z.answers e,
)

later_answered : (z : State) → Later z (answered z)
later_answered z = (1, λ i. let e : suc i ≡ 1 + i = omega arith in ap z.answers e)

module _ (may : Bool) where
  -- the interpreter's calls are the same if none may be made, what the scopes had they have with
  -- the same types, and answers are used up in order
  abbrev Kept : State → State → Type 0
  Kept z y =
      (may ≡ false → y.interpreter ≡ z.interpreter) × Over z.scopes y.scopes × Later z y

  -- the same of an outcome
  abbrev KeptBy : State → State × Goes → Type 0
  KeptBy z q = Kept z q.0

  kept_refl : (z : State) → Kept z z
  kept_refl z = (λ h. refl, over_refl z.scopes, later_refl z)

  set_scopes_kept : (z : State) (fs : List Scope) → Over z.scopes fs → Kept z (set_scopes fs z)
  set_scopes_kept z fs p = (λ h. refl, p, later_refl z)

  kept_trans : (z u y : State) → Kept z u → Kept u y → Kept z y
  kept_trans z u y p q =
      (λ h. q.0 h ∙ p.0 h, over_trans p.1 q.1, later_trans z u y p.2 q.2)

  -- a call of the interpreter
  after_interp_kept : may ≡ true → (z : State) → Kept z (after_interp z)
  after_interp_kept a z =
      (λ h. absurd (true≢false (sym a ∙ h)), over_refl z.scopes, later_refl z)

  -- an answer of guard or gate
  answered_kept : (z : State) → Kept z (answered z)
  answered_kept z = (λ h. refl, over_refl z.scopes, later_answered z)

  -- what is kept from a state is kept from one before it
  kept_on : (z u : State) {o : Option State} → Kept z u → All (Kept u) o → All (Kept z) o
  kept_on z u p undefined = undefined
  kept_on z u p (defined {x} q) = defined (kept_trans z u x p q)

  after_by : (z u : State) {o : Outcome} → Kept z u → All (KeptBy u) o → All (KeptBy z) o
  after_by z u p undefined = undefined
  after_by z u p (defined {x} q) = defined (kept_trans z u x.0 p q)

  put_kept : (p : Place) (v : ℕ) (z : State) → All (Kept z) (put p v z)
  put_kept (reg k) v z = all_cond (leb k 16) (defined (kept_refl z)) undefined
  put_kept (var x) v z =
      all_bind (assigned_over x.0 (index x.1) v z.scopes) λ fs p. defined
      (set_scopes_kept z fs p)

  declares_kept : (x : Var) (z : State) → All (Kept z) (declares x z)
  declares_kept x z = all_bind (declared_over x z.scopes) λ fs p. defined (set_scopes_kept z fs p)

  ended_kept : (g : Goes) (z u : State) → Kept z u → All (Kept z) (ended g u)
  ended_kept on z u p = defined p
  ended_kept (to k) z u p = undefined
  ended_kept (back x) z u p = undefined

  next_kept : (g : Goes) (z u : State) (f : State → Outcome) → Kept z u
      → ((y : State) → All (KeptBy y) (f y)) → All (KeptBy z) (next g u f)
  next_kept on z u f p h = after_by z u p (h u)
  next_kept (to k) z u f p h = defined p
  next_kept (back x) z u f p h = defined p

  -- from { to }
  leave_kept : (z u : State) → Kept (enter z) u → Kept z (leave u)
  leave_kept z u p = (p.0, over_outer p.1, p.2)

  -- with helpers that keep
  module _ (R : ℕ → ℕ → Option ℕ) (C : Helper → List ℕ → State → Outcome)
      (call_kept : (h : Helper) (vs : List ℕ) (z : State) → All (KeptBy z) (C h vs z)) where
    initialise_kept : (x : Var) (e : Expr) (z : State) → All (Kept z) (initialise R C x e z)
    initialise_kept x e z =
        all_bind (declares_kept x z) λ u p. all_value (eval_as R x.0 e u) λ k. kept_on z u p
        (put_kept (var x) k u)

    others_kept : (y : Ty) (ds : List (Name × Expr)) (z : State) → All (Kept z) (others R C y ds z)
    unfolding others
    others_kept y [] z = defined (kept_refl z)
    others_kept y (d ∷ ds) z =
        all_bind (initialise_kept (y, d.0) d.1 z) λ u p. kept_on z u p (others_kept y ds u)

    exec_kept : (s : Plain) (z : State) → All (Kept z) (exec R C s z)
    unfolding exec
    exec_kept registers z = defined (kept_refl z)
    exec_kept (local x) z = declares_kept x z
    exec_kept (declare x e ds) z =
        all_bind (initialise_kept x e z) λ u p. kept_on z u p (others_kept x.0 ds u)
    exec_kept (adds x d e f) z =
        all_bind (declares_kept (u32, x) z) λ u p.
        all_value (eval_as R u32 d u) λ k. all_value (eval_as R u32 e u) λ l. all_value
        (eval_as R u32 f u) λ i.
        all_bind (call_kept op-adds (k ∷ l ∷ i ∷ []) u) λ q h. all_value (returned q.1) λ r.
        kept_on z u p (kept_on u q.0 h (put_kept (var (u32, x)) r q.0))
    exec_kept (set p o e) z =
        all_value (eval R e z) λ k. all_value (new_value o p (ty e) k z) λ x. put_kept p x z
    exec_kept (discard x) z =
        all_value (find (index x.1) z.scopes) λ p. all_cond (same_ty x.0 p.0)
        (defined (kept_refl z)) undefined
    exec_kept (run p e) z =
        all_value (eval_as R (proc_ty p) e z) λ k. all_bind (call_kept (proc p) (k ∷ []) z) λ q h.
        ended_kept q.1 z q.0 h
    exec_kept (write w d e) z =
        all_value (eval_as R u32 d z) λ a. all_value (eval_as R u32 e z) λ x. defined (kept_refl z)
    exec_kept (tick n) z = defined (kept_refl z)

    asks_kept : (t : Test) (z : State) → All (λ q. Kept z q.1) (asks R C t z)
    unfolding asks
    asks_kept (guard a l h) z = defined (answered_kept z)
    asks_kept gate z = defined (answered_kept z)
    asks_kept (other e) z = all_value (eval R e z) λ k. defined (kept_refl z)

    returns_kept : (e : Expr) (z : State) → All (KeptBy z) (returns R C e z)
    returns_kept e z = all_value (eval_as R u32 e z) λ k. defined (kept_refl z)

    step_kept : (s : Simple) → Permits may s → (z : State) → All (KeptBy z) (step R C s z)
    unfolding step
    step_kept (gap l n) a z = defined (kept_refl z)
    step_kept (record_mark k i n) a z = defined (kept_refl z)
    step_kept (plain o s) a z = all_bind (exec_kept s z) λ u p. defined p
    step_kept (label k) a z = defined (kept_refl z)
    step_kept (goto o k) a z = defined (kept_refl z)
    step_kept (ret o e) a z = returns_kept e z
    step_kept (ret_if o t e) a z =
        all_bind (asks_kept t z) λ q p. all_cond q.0 (after_by z q.1 p (returns_kept e q.1))
        (defined p)
    step_kept (interp k i) a z =
        all_bind (put_kept (var (u32, x-pc)) (interp_answer z) (after_interp z)) λ u p. defined
        (kept_trans z (after_interp z) u (after_interp_kept a z) p)
    step_kept (ret_interp k i) a z = defined (after_interp_kept a z)
    step_kept (call k n) a z = undefined
    step_kept (switch ks) a z = undefined

    -- braces, and the code after them
    braces_kept : (b c : Code) (z : State) → ((u : State) → All (KeptBy u) (runs R C b u))
        → ((u : State) → All (KeptBy u) (runs R C c u))
        → All (KeptBy z) (bind (runs R C b (enter z)) λ r. next r.1 (leave r.0) (runs R C c))
    braces_kept b c z f g =
        all_bind (f (enter z)) λ r p. next_kept r.1 z (leave r.0) (runs R C c)
        (leave_kept z r.0 p) g

    runs_kept : (c : Code) → Allows may c → (z : State) → All (KeptBy z) (runs R C c z)
    unfolding runs
    runs_kept end a z = defined (kept_refl z)
    runs_kept (s ⨾ c) a z =
        all_bind (step_kept s a.0 z) λ q p. next_kept q.1 z q.0 (runs R C c) p
        (runs_kept c a.1)
    runs_kept (when o n t b c) a z =
        all_bind (asks_kept t z) λ q p.
        all_cond (beq n q.0) (after_by z q.1 p (runs_kept c a.1 q.1))
        (after_by z q.1 p (braces_kept b c q.1 (runs_kept b a.0) (runs_kept c a.1)))
    runs_kept (braces b c) a z = braces_kept b c z (runs_kept b a.0) (runs_kept c a.1)

  called_kept : (h : Helper) (vs : List ℕ) (z : State) → All (KeptBy z) (called h vs z)
  unfolding called
  called_kept h vs z =
      all_bind
      (runs_kept no_ror no_call (λ i ws u. undefined) (body h) (body_allows may h)
      (set_scopes (arguments (params h) vs ∷ []) z)) λ q p.
      defined (p.0, over_refl z.scopes, p.2)

  run_kept : (c : Code) → Allows may c → (z y : State) (w : Goes) → H.run c z ≡ some (y, w)
      → Kept z y
  unfolding H.run
  run_kept c a z y w e = all_of (runs_kept rotated called called_kept c a z) e

-- the calls of the interpreter that are to come
pub run_quiet : (c : Code) → Quiet c → (z y : State) (w : Goes) → H.run c z ≡ some (y, w)
    → y.interpreter ≡ z.interpreter
run_quiet c q z y w e = (run_kept false c q z y w e).0 refl

-- the locals of the scope that code starts in
pub run_declares : (c : Code) (z y : State) (w : Goes) (x : Var) → H.run c z ≡ some (y, w)
    → Declares z.scopes x → Declares y.scopes x
run_declares c z y w x e d = over_declares x (run_kept true c (any_allows c) z y w e).1 d

-- the answers that guard and gate give
pub run_later : (c : Code) (z y : State) (w : Goes) → H.run c z ≡ some (y, w) → Later z y
run_later c z y w e = (run_kept true c (any_allows c) z y w e).2
