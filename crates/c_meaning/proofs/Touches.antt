-- Writes touch memory only, and tick, guard and chain gate neither register nor memory.
use Prim.Native.Nat.{ℕ}
use mathlib.Core.Path.{◌≡◌, refl}
use mathlib.Core.Bool.{not}
use mathlib.Core.Option.{Option, none, some}
use lib.Dec.{eqb}
use Rattle.c_tree.specs.Expr.{u32, Width, Expr}
use Rattle.c_tree.specs.Stmt.{write, tick, guard, gate}
use Rattle.c_meaning.specs.State.{bind, State, set_mem, answered, store}
use Rattle.c_meaning.specs.Eval.{eval_as}
use Rattle.c_meaning.specs.Exec.{exec, asks}
use Rattle.c_meaning.specs.Helpers.{rotated, called}

-- the words of c, the scopes and the runtime are as in z after what is defined
abbrev MemoryOnly : State → Option State → Type 0
MemoryOnly z none = Unit {0}
MemoryOnly z (some y) = (y.c ≡ z.c) × (y.scopes ≡ z.scopes) × (y.answers ≡ z.answers)
    × (y.interpreter ≡ z.interpreter)

pub write_touches : (w : Width) (d e : Expr) (z : State)
    → MemoryOnly z (exec rotated called (write w d e) z)
unfolding exec
write_touches w d e z = go (eval_as rotated u32 d z) (eval_as rotated u32 e z)
  where
    go : (p q : Option ℕ)
        → MemoryOnly z (bind p λ a. bind q λ x. some (set_mem (store w a x z.mem) z))
    go none q = tt
    go (some a) none = tt
    go (some a) (some x) = (refl, refl, refl, refl)

pub tick_touches : (n : ℕ) (z : State) → exec rotated called (tick n) z ≡ some z
unfolding exec
tick_touches n z = refl

-- an answer is used up, and registers, memory, scopes and interpreter stay
pub answered_same : (z : State)
    → ((answered z).c ≡ z.c) × ((answered z).mem ≡ z.mem) × ((answered z).scopes ≡ z.scopes)
    × ((answered z).interpreter ≡ z.interpreter)
answered_same z = (refl, refl, refl, refl)

pub guard_touches : (a l h : ℕ) (z : State)
    → asks rotated called (guard a l h) z ≡ some (not (eqb (z.answers 0) 0), answered z)
unfolding asks
guard_touches a l h z = refl

pub gate_touches : (z : State)
    → asks rotated called gate z ≡ some (not (eqb (z.answers 0) 0), answered z)
unfolding asks
gate_touches z = refl
