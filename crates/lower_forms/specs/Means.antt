-- Steps: what is proved of the plain statements that an operation is lowered to.
use Rattle.std.specs.Prelude.{ℕ, ◌≡◌, false, List, [], ◌∷◌, ◌++◌}
use Rattle.std.proofs.Math.Option.{some}
use Rattle.armv4t.specs.declared.Op.{Op}
use Rattle.armv4t.specs.declared.Instr.{Instr}
use Rattle.c_tree.specs.Stmt.{Plain}
use Rattle.c_meaning.specs.State.{State, enter}
use Rattle.armv4t_manual.specs.Machine.{Machine, Sound}
use Rattle.armv4t_manual.specs.Unsaid.{unpredictable}
use Rattle.armv4t_manual.specs.Execute.{key_after, operation}
use Rattle.lower_forms.specs.Forms.{Lines}
use Rattle.lower_forms.specs.InlineBody.{op_body}
use Rattle.lower_forms.specs.Agree.{Agrees}
use Rattle.c_meaning.specs.Perform.{perform}
use Rattle.lower_forms.specs.Differs.{differs_in}

-- plain statements, run from z, end defined in a state that agrees with m
pub record Makes (ps : List Plain) (z : State) (m : Machine) : Type 0 where
  pub end : State
  pub ends : perform ps z ≡ some end
  pub same : Agrees end m

-- the statements of lines
abbrev pub statements : Lines → List Plain
statements [] = []
statements (l ∷ ls) = l ++ statements ls

-- lines, run in braces of their own from z, end defined in a state that agrees with a machine, and
-- its key is that of the instruction after i
abbrev pub Leads : Instr → Lines → State → Machine × ℕ → Type 0
Leads i ls z next = Makes (statements ls) (enter z) next.0 × (next.1 ≡ key_after i)

-- where an operation of an instruction, in a block of its own set, is lowered to lines, the manual
-- says what it makes of the machine m, and it is no named difference, then the lines lead from a
-- state that agrees with m to that
abbrev pub OpMeans : Instr → Op → Type 0
OpMeans i op =
    (ls : Lines) → op_body i.thumb i op ≡ some ls
    → (z : State) (m : Machine) → Sound m → Agrees z m → unpredictable op ≡ false
    → differs_in i op ≡ false
    → (next : Machine × ℕ) → operation i op m ≡ some next → Leads i ls z next
