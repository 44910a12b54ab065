-- Plain statements one by one, and the two machines kept in agreement.
use mathlib.Core.Path.{◌≡◌, refl, ap}
use mathlib.Core.Bool.{Bool, true, false, cond}
use mathlib.Core.List.{List, [], ◌∷◌}
use mathlib.Core.Option.{Option, none, some}
use Prim.Native.Nat.{ℕ, ◌+◌, ◌%◌, ◌≤◌, ◌<◌}
use native.Mathlib.Omega.{arith}
use lib.Dec.{eqb, eqb→eq, eqb_refl}
use Rattle.base_words.proofs.Bits.{is_true, is_false}
use Rattle.c_tree.specs.Expr.{u32, Name, reg, var, Expr}
use Rattle.c_tree.specs.Stmt.{is, plus, f-nz, f-c, Plain, declare, adds, set, run, op-adds, proc}
use Rattle.c_meaning.specs.State.{State, Scope, update, index, set_c, set_scopes}
use Rattle.c_meaning.specs.Eval.{eval_as}
use Rattle.c_meaning.specs.Exec.{on, back, exec, others}
use Rattle.c_meaning.specs.Perform.{execs, perform}
use Rattle.c_meaning.specs.Helpers.{called, rotated}
use Rattle.armv4t_manual.specs.Machine.{Machine, pack, set_reg, set_flags}
use Rattle.lower_forms.specs.Agree.{Agrees}
use Rattle.lower_forms.specs.Means.{Makes}
use Rattle.lower_forms.proofs.Gives.{Reads, le_true}

-- one statement
abbrev pub exec1 : Plain → State → Option State
exec1 = exec rotated called

pub step : {p : Plain} {ps : List Plain} {z y : State} {m : Machine} → exec1 p z ≡ some y
    → Makes ps y m → Makes (p ∷ ps) z m
unfolding perform execs
step p q = record { end = q.end; ends = rw p q.ends; same = q.same }

pub stop : {z : State} {m : Machine} → Agrees z m → Makes [] z m
unfolding perform execs
stop {z} a = record { end = z; ends = refl; same = a }

-- a scope in which x is declared, without a value and with one
abbrev pub opened : Name → Scope → Scope
opened x f = update (index x) (some (u32, none)) f

abbrev pub given : Name → ℕ → Scope → Scope
given x k f = update (index x) (some (u32, some k)) (opened x f)

-- a state with a scope before others
abbrev pub within : Scope → List Scope → State → State
within f fs z = set_scopes (f ∷ fs) z

self : (k : ℕ) → eqb k k ≡ true
self k = is_true (eqb k k) (eqb_refl k)

-- uint32_t x = e;
pub do_declare : (x : Name) (f : Scope) (fs : List Scope) (z : State) {e : Expr} {k : ℕ}
    → f (index x) ≡ none → Reads e (within (opened x f) fs z) k
    → exec1 (declare (u32, x) e []) (within f fs z) ≡ some (within (given x k f) fs z)
unfolding exec others eval_as
do_declare x f fs z q p = rw (q, p.gives, p.typed, self (index x))

-- uint32_t x = op_adds(c, d, e, g);
pub do_adds : (x : Name) (f : Scope) (fs : List Scope) (z : State) (v : ℕ) {d e g : Expr}
    {k l i r : ℕ} → f (index x) ≡ none
    → Reads d (within (opened x f) fs z) k → Reads e (within (opened x f) fs z) l
    → Reads g (within (opened x f) fs z) i
    → called op-adds (k ∷ l ∷ i ∷ []) (within (opened x f) fs z)
    ≡ some (set_c 16 v (within (opened x f) fs z), back r)
    → exec1 (adds x d e g) (within f fs z) ≡ some (within (given x r f) fs (set_c 16 v z))
unfolding exec eval_as
do_adds x f fs z v q p s t h =
    rw (q, p.gives, p.typed, s.gives, s.typed, t.gives, t.typed, h, self (index x))

-- x += e;
pub do_plus : (x : Name) (f : Scope) (fs : List Scope) (z : State) {e : Expr} {k l : ℕ}
    → f (index x) ≡ some (u32, some l) → Reads e (within f fs z) k
    → exec1 (set (var (u32, x)) plus e) (within f fs z)
    ≡ some (within (update (index x) (some (u32, some ((l + k) % 4294967296))) f) fs z)
unfolding exec
do_plus x f fs z q p = rw (p.gives, p.typed, q)

module _ {z : State} {e : Expr} {x : ℕ} (p : Reads e z x) where
  pub do_nz : {y : State} → called (proc f-nz) (x ∷ []) z ≡ some (y, on)
      → exec1 (run f-nz e) z ≡ some y
  unfolding exec eval_as
  do_nz q = rw (p.gives, p.typed, q)

  pub do_c : {y : State} → called (proc f-c) (x ∷ []) z ≡ some (y, on)
      → exec1 (run f-c e) z ≡ some y
  unfolding exec eval_as
  do_c q = rw (p.gives, p.typed, q)

  -- c[k] = e;
  pub do_reg : (k : ℕ) → k ≤ 16 → exec1 (set (reg k) is e) z ≡ some (set_c k x z)
  unfolding exec
  do_reg k h = rw (p.gives, p.typed, le_true h)

pub ne : (i k : ℕ) → i < k → eqb i k ≡ false
ne i k h = is_false (eqb i k) λ t. clash i k h (eqb→eq i k t)
  where
    clash : (i k : ℕ) → i < k → i ≡ k → ⊥
    clash i k h e = omega arith

gt : (i k : ℕ) → k < i → eqb i k ≡ false
gt i k h = is_false (eqb i k) λ t. clash i k h (eqb→eq i k t)
  where
    clash : (i k : ℕ) → k < i → i ≡ k → ⊥
    clash i k h e = omega arith

module _ {z : State} {m : Machine} (a : Agrees z m) where
  -- locals do not matter
  pub with_scopes : (fs : List Scope) → Agrees (set_scopes fs z) m
  with_scopes fs = record { regs = a.regs; flags = a.flags; memory = a.memory }

  pub with_reg : (k x : ℕ) → k < 15 → Agrees (set_c k x z) (set_reg k x m)
  with_reg k x h =
      record {
        regs = λ i l. ap (cond (eqb i k) x) (a.regs i l);
        flags = rw (gt 16 k (omega arith)) a.flags;
        memory = a.memory;
      }

  -- R15 is not among the registers compared
  pub with_pc : (k x : ℕ) → k ≡ 15 → Agrees z (set_reg k x m)
  with_pc k x e =
      record {
        regs = λ i l. rw (ne i k (omega (arith, e, l))) (a.regs i l);
        flags = a.flags;
        memory = a.memory;
      }

  -- the last value put into a register stands
  pub with_over : (k x j y : ℕ) → k < 15 → j ≡ k → Agrees (set_c k x z) (set_reg k x (set_reg j y m))
  with_over k x j y h e =
      rw e (record {
        regs = λ i l. go (eqb i k) (a.regs i l);
        flags = (with_reg k x h).flags;
        memory = a.memory;
      })
    where
      go : (b : Bool) {p q : ℕ} → p ≡ q → cond b x p ≡ cond b x (cond b y q)
      go true r = refl
      go false r = r

  pub with_flags : (n zf c v : Bool)
      → Agrees (set_c 16 (pack n zf c v m.other_bits) z) (set_flags n zf c v m)
  with_flags n zf c v =
      record {
        regs = λ i l. rw (ne i 16 (omega arith)) (a.regs i l);
        flags = refl;
        memory = a.memory;
      }
