-- To be believed: what C's statements do, up to where they lead. None: undefined, or not written
-- out (a call of a group's function and its switch).
use Rattle.std.specs.Prelude.{ℕ, Bool, not, eqb}
use Rattle.std.proofs.Math.Bool.{cond}
use Rattle.std.specs.Bool.{beq}
use mathlib.Core.List.{List, [], ◌∷◌}
use Rattle.std.proofs.Math.Option.{Option, none, some}
use Rattle.c_tree.specs.Expr.{Ty, u32, u64, Name, x-pc, Var, Place, var, Bin, add, band, bor, Expr}
use Rattle.c_tree.specs.Stmt.{Set, is, plus, and, or, Proc, f-nz, f-c, f-nz64, Plain, registers}
use Rattle.c_tree.specs.Stmt.{local, declare, adds, set, discard, run, write, tick, Test, guard}
use Rattle.c_tree.specs.Stmt.{gate, other, Simple, gap, record_mark, plain, label, goto, ret, ret_if}
use Rattle.c_tree.specs.Stmt.{interp, ret_interp, call, switch, Code, end, ◌⨾◌, when, braces, Helper}
use Rattle.c_tree.specs.Stmt.{op-adds, proc}
use Rattle.c_meaning.specs.Types.{same_ty, common_type, convert}
use Rattle.c_meaning.specs.State.{bind, index, State, set_mem, set_scopes, answered}
use Rattle.c_meaning.specs.State.{interp_answer, after_interp, enter, leave, find, value}
use Rattle.c_meaning.specs.State.{declared, put, place_ty, store}
use Rattle.c_meaning.specs.Eval.{ty, bin_value, eval, eval_as}

-- where statements lead
pub data Goes : Type 0 where
  on : Goes  -- after them
  to : ℕ → Goes  -- to a label, by a goto: its key
  back : ℕ → Goes  -- out of the function, by a return: its value

-- a state, and where the statements led that made it
abbrev pub Outcome : Type 0
Outcome = Option (State × Goes)

-- what comes after, where statements led on
abbrev pub next : Goes → State → (State → Outcome) → Outcome
next on z f = f z
next (to k) z f = some (z, to k)
next (back x) z f = some (z, back x)

-- what a call of a function without a value gives: the state, where its code runs to the end
abbrev pub ended : Goes → State → Option State
ended on z = some z
ended (to k) z = none
ended (back x) z = none

-- what a call of a function with a value gives: the value that it returns; none where it does not
-- return
abbrev pub returned : Goes → Option ℕ
returned on = none
returned (to k) = none
returned (back x) = some x

-- x op= e is x = x op e, with x evaluated once (6.5.16.2); k has the type y
abbrev pub compound : Bin → Place → Ty → ℕ → State → Option ℕ
compound o p y k z =
    bind (value p z) λ l.
    bind (bin_value o (place_ty p) y l k) λ x.
    some (convert (common_type (place_ty p) y) (place_ty p) x)

-- what =, +=, &= or |= puts into a place, where the value k of the type y stands on the right
abbrev pub new_value : Set → Place → Ty → ℕ → State → Option ℕ
new_value is p y k z = some (convert y (place_ty p) k)
new_value plus p y k z = compound add p y k z
new_value and p y k z = compound band p y k z
new_value or p y k z = compound bor p y k z

-- what a function that sets flags takes
abbrev pub proc_ty : Proc → Ty
proc_ty f-nz = u32
proc_ty f-c = u32
proc_ty f-nz64 = u64

-- a declaration without a value
abbrev pub declares : Var → State → Option State
declares x z = bind (declared x z.scopes) λ fs. some (set_scopes fs z)

-- rorAnswer: what ror32 answers. helperCall: what the other helpers do with c before their
-- arguments
module _ (rorAnswer : ℕ → ℕ → Option ℕ) (helperCall : Helper → List ℕ → State → Outcome) where
  -- y x = e: the name is declared before its value is computed (6.2.1)
  abbrev pub initialise : Var → Expr → State → Option State
  initialise x e z =
      bind (declares x z) λ u.
      bind (eval_as rorAnswer x.0 e u) λ k.
      put (var x) k u

  -- further declarators of the same type
  unfoldable pub others : Ty → List (Name × Expr) → State → Option State
  unfolding eval_as
  others y [] z = some z
  others y (d ∷ ds) z = bind (initialise (y, d.0) d.1 z) (others y ds)

  -- a plain statement. (void)x does not use the value, which a uint32_t may lack: it has no trap
  -- representation (7.18.1.1)
  unfoldable pub exec : Plain → State → Option State
  unfolding eval eval_as others
  exec registers z = some z
  exec (local x) z = declares x z
  exec (declare x e ds) z = bind (initialise x e z) (others x.0 ds)
  exec (adds x d e f) z =
      bind (declares (u32, x) z) λ u.
      bind (eval_as rorAnswer u32 d u) λ k.
      bind (eval_as rorAnswer u32 e u) λ l.
      bind (eval_as rorAnswer u32 f u) λ i.
      bind (helperCall op-adds (k ∷ l ∷ i ∷ []) u) λ q.
      bind (returned q.1) λ r.
      put (var (u32, x)) r q.0
  exec (set p o e) z =
      bind (eval rorAnswer e z) λ k.
      bind (new_value o p (ty e) k z) λ x.
      put p x z
  exec (discard x) z =
      bind (find (index x.1) z.scopes) λ p.
      cond (same_ty x.0 p.0) (some z) none
  exec (run p e) z =
      bind (eval_as rorAnswer (proc_ty p) e z) λ k.
      bind (helperCall (proc p) (k ∷ []) z) λ q.
      ended q.1 q.0
  exec (write w d e) z =
      bind (eval_as rorAnswer u32 d z) λ a.
      bind (eval_as rorAnswer u32 e z) λ x.
      some (set_mem (store w a x z.mem) z)
  exec (tick n) z = some z

  -- whether a test holds, and the state after it; the runtime's answers are used up in order
  unfoldable pub asks : Test → State → Option (Bool × State)
  unfolding eval
  asks (guard a l h) z = some (not (eqb (z.answers 0) 0), answered z)
  asks gate z = some (not (eqb (z.answers 0) 0), answered z)
  asks (other e) z = bind (eval rorAnswer e z) λ k. some (not (eqb k 0), z)

  -- return e
  abbrev pub returns : Expr → State → Outcome
  returns e z = bind (eval_as rorAnswer u32 e z) λ k. some (z, back k)

  -- a statement without braces
  unfoldable pub step : Simple → State → Outcome
  unfolding eval_as exec asks
  step (gap l n) z = some (z, on)
  step (record_mark k i n) z = some (z, on)
  step (plain o p) z = bind (exec p z) λ u. some (u, on)
  step (label k) z = some (z, on)
  step (goto o k) z = some (z, to k)
  step (ret o e) z = returns e z
  step (ret_if o t e) z =
      bind (asks t z) λ q.
      cond q.0 (returns e q.1) (some (q.1, on))
  step (interp k i) z =
      bind (put (var (u32, x-pc)) (interp_answer z) (after_interp z)) λ u.
      some (u, on)
  step (ret_interp k i) z = some (after_interp z, back (interp_answer z))
  step (call k n) z = none
  step (switch ks) z = none

  -- statements one after the other; what braces enclose is a scope
  unfoldable pub runs : Code → State → Outcome
  unfolding step asks
  runs end z = some (z, on)
  runs (s ⨾ c) z = bind (step s z) λ q. next q.1 q.0 (runs c)
  runs (when o n t b c) z =
      bind (asks t z) λ q.
      cond (beq n q.0) (runs c q.1)
      (bind (runs b (enter q.1)) λ r. next r.1 (leave r.0) (runs c))
  runs (braces b c) z = bind (runs b (enter z)) λ r. next r.1 (leave r.0) (runs c)
