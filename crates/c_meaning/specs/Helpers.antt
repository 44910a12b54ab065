-- To be believed: PREAMBLE's functions: a call does what the function's tree does, and the text's
-- statements with these calls.
use Rattle.std.specs.Prelude.{ℕ, List, [], ◌∷◌}
use Rattle.std.proofs.Math.Option.{Option, none, some}
use Rattle.c_tree.specs.Expr.{Var}
use Rattle.c_tree.specs.Stmt.{f-nz, f-c, f-nz64, Code, Helper, ror32, op-adds, proc, params}
use Rattle.c_tree.specs.Preamble.{ror_body, nz_body, c_body, adds_body, nz64_body}
use Rattle.c_meaning.specs.State.{bind, update, index, Scope, empty, State, set_scopes}
use Rattle.c_meaning.specs.Exec.{Outcome, returned, runs}

-- the tree of a function
abbrev pub body : Helper → Code
body ror32 = ror_body
body op-adds = adds_body
body (proc f-nz) = nz_body
body (proc f-c) = c_body
body (proc f-nz64) = nz64_body

-- parameters with their arguments
abbrev pub arguments : List Var → List ℕ → Scope
arguments [] vs = empty
arguments (x ∷ xs) [] = empty
arguments (x ∷ xs) (a ∷ vs) = update (index x.1) (some (x.0, some a)) (arguments xs vs)

-- no function of PREAMBLE calls another, so ror32 has no answer inside one
abbrev pub no_ror : ℕ → ℕ → Option ℕ
no_ror x n = none

-- nor has a call of any other helper an outcome there
abbrev pub no_call : Helper → List ℕ → State → Outcome
no_call h vs z = none

-- a call: the parameters are all the locals that the body starts with, and the caller's come back
-- after it
unfoldable pub called : Helper → List ℕ → State → Outcome
unfolding runs
called h vs z =
    bind (runs no_ror no_call (body h) (set_scopes (arguments (params h) vs ∷ []) z)) λ q.
    some (set_scopes z.scopes q.0, q.1)

-- ror32 has neither c nor memory: what it answers is the same from each state, and here that of
-- zeros
unfoldable pub rotated : ℕ → ℕ → Option ℕ
unfolding called
rotated x n =
    bind (called ror32 (x ∷ n ∷ [])
    (record {
      c = λ k. 0;
      mem = λ a. 0;
      scopes = [];
      answers = λ k. 0;
      interpreter = λ k c mem. record { c = c; mem = mem; answer = 0 };
    })) λ q. returned q.1

-- code of the text
unfoldable pub run : Code → State → Outcome
unfolding runs rotated called
run = runs rotated called
