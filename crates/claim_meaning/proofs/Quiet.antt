-- The text of native records, and the closing transfer, do not call the interpreter.
use Prim.Native.Nat.{ℕ}
use mathlib.Core.Bool.{false}
use mathlib.Core.List.{List}
use Rattle.c_tree.specs.Stmt.{Owner, Code}
use Rattle.c_meaning.proofs.Kept.{Permits, Quiet}
use Rattle.lower_forms.specs.Forms.{Native, Body}
use Rattle.lower_units.specs.Block.{closing, native_text}
use Rattle.lower_units.proofs.Statements.{closing_each, native_each}

pub closing_quiet : (ks : List ℕ) (b : Body) → Quiet (closing ks b)
closing_quiet ks b =
    closing_each (Permits false) (λ l n. tt) (λ o p. tt) (λ o k. tt) (λ o e. tt) (λ o t e. tt) ks b

pub native_quiet : (ks : List ℕ) (a : ℕ) (o : Owner) (r : Native) (c : Code) → Quiet c
    → Quiet (native_text ks a o r c)
native_quiet ks a o r c q =
    native_each (Permits false) (λ l n. tt) (λ o p. tt) (λ o k. tt) (λ o e. tt) (λ o t e. tt) ks a o
    r c q
