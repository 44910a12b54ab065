-- To be believed: what a text does, as a whole: it continues, or it leaves.
use Rattle.std.specs.Prelude.{ℕ, ◌≡◌, Bool, true, false}
use Rattle.std.proofs.Math.Option.{Option, none, some}
use Rattle.armv4t.specs.Bit0.{clear_bit0}
use Rattle.c_tree.specs.Stmt.{Code}
use Rattle.c_meaning.specs.State.{State}
use Rattle.c_meaning.specs.Exec.{Goes, on, to, back}
use Rattle.c_meaning.specs.Helpers.{run}
use Rattle.armv4t_manual.specs.Machine.{Machine}
use Rattle.lower_forms.specs.Agree.{Agrees}

-- text, run from z, ends defined in a state that agrees with m, and what stands after it goes on
-- from there
pub record Continues (text : Code → Code) (z : State) (m : Machine) : Type 0 where
  pub end : State
  pub goes : (c : Code) → run (text c) z ≡ run c end
  pub same : Agrees end m

-- the key that statements lead to, by goto or return
abbrev pub destination : Goes → Option ℕ
destination on = none
destination (to k) = some k
destination (back k) = some k

-- text, run from z, ends defined in a state that agrees with a machine and holds a key's address in
-- c[15], and leads to the key, whatever stands after it
pub record Leaves (text : Code → Code) (z : State) (next : Machine × ℕ) : Type 0 where
  pub end : State
  pub exit : Goes
  pub ends : (c : Code) → run (text c) z ≡ some (end, exit)
  pub leads : destination exit ≡ some next.1
  pub pc : end.c 15 ≡ clear_bit0 next.1
  pub same : Agrees end next.0

-- text leads to the key that the manual gives: it leaves by a transfer that is taken, and without
-- one goes on to the key after it
pub data Acts (text : Code → Code) (taken : Bool) (z : State) (next : Machine × ℕ) (following : ℕ) :
    Type 0 where
  continues : taken ≡ false → next.1 ≡ following → Continues text z next.0
      → Acts text taken z next following
  leaves : taken ≡ true → Leaves text z next → Acts text taken z next following
