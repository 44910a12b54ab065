-- What is counted of the text of a record: its mark, or its call of the interpreter, and then what
-- stands after it, if that is reached.
use Prim.Native.Nat.{ℕ}
use mathlib.Core.Path.{◌≡◌, refl, sym, ap, ◌∙◌}
use mathlib.Core.Logic.{◌⊎◌, inl, inr}
use mathlib.Core.List.{List, []}
use mathlib.Core.Option.{some}
use Rattle.c_tree.specs.Stmt.{Owner, common, goto, Code, end, ◌⨾◌, ◌⧺◌}
use Rattle.c_tree.proofs.Statements.{EachStatement}
use Rattle.c_meaning.specs.State.{State}
use Rattle.c_meaning.specs.Exec.{Goes, on, to, back, step, runs}
use Rattle.c_meaning.specs.Helpers.{run}
use Rattle.armv4t_manual.specs.Machine.{Machine}
use Rattle.lower_forms.specs.Forms.{Lines, Native, straight, straight_if, branch_if, jump, pair, bx}
use Rattle.lower_forms.specs.Forms.{pop, Body}
use Rattle.lower_units.specs.Block.{lines, native_text, closing}
use Rattle.lower_units.specs.Text.{Continues, Leaves, destination}
use Rattle.lower_units.proofs.Statements.{lines_each, closing_each, native_each}
use Rattle.claim_ways.proofs.Entered.{lines_append}
use Rattle.claim_ways.specs.Ways.{Event}
use Rattle.claim_functions.proofs.Outcomes.{goes_of, on_not_to}
use Rattle.lower_forms.proofs.Body.{not_none}
use Rattle.claim_functions.proofs.Log.{led_on, log, log_append, Silent, silent_log}

-- nothing is counted of lines, of the text of a native record after its mark, and of the closing
-- transfer
silent_lines : (o : Owner) (n : ℕ) (ls : Lines) → EachStatement Silent (lines o n ls end)
silent_lines o n ls =
    lines_each Silent (λ l n. refl) (λ o p. refl) (λ o k. refl) (λ o e. refl) (λ o t e. refl) o n ls
    end tt

silent_native : (ks : List ℕ) (a : ℕ) (o : Owner) (r : Native)
    → EachStatement Silent (native_text ks a o r end)
silent_native ks a o r =
    native_each Silent (λ l n. refl) (λ o p. refl) (λ o k. refl) (λ o e. refl) (λ o t e. refl) ks a
    o r end tt

pub closing_log : (ks : List ℕ) (b : Body) (z : State) → log (closing ks b) z ≡ []
closing_log ks b z =
    silent_log (closing ks b)
    (closing_each Silent (λ l n. refl) (λ o p. refl) (λ o k. refl) (λ o e. refl) (λ o t e. refl) ks
    b) z

-- the text of a native record stands before what is after it, or drops that
shape : (ks : List ℕ) (a : ℕ) (o : Owner) (r : Native)
    → ((c : Code) → native_text ks a o r c ≡ native_text ks a o r end ⧺ c)
    ⊎ ((c : Code) → native_text ks a o r c ≡ native_text ks a o r end)
unfolding native_text
shape ks a o (straight t l) = inl (λ c. lines_append o 4 t _ c)
shape ks a o (straight_if t e l) = inl (λ c. lines_append o 4 t _ c)
shape ks a o (branch_if t e l k) = inl (λ c. lines_append o 4 t _ c)
shape ks a o (jump t k) = inr (λ c. refl)
shape ks a o (pair t k) = inr (λ c. refl)
shape ks a o (bx t e) = inr (λ c. refl)
shape ks a o (pop t p l q e) = inr (λ c. refl)

-- after code that is run to its end, or that leads elsewhere
pub past_on : (c d : Code) (z u : State) → EachStatement Silent c → run c z ≡ some (u, on)
    → log (c ⧺ d) z ≡ log d u
past_on c d z u h e = log_append c d z ∙ rw (silent_log c h z, e)

pub elsewhere : (g : Goes) (k : ℕ) (u : State) (f : State → List Event) → destination g ≡ some k
    → led_on (some (u, g)) f ≡ []
elsewhere on k u f h = absurd (not_none h)
elsewhere (to l) k u f h = refl
elsewhere (back v) k u f h = refl

pub past_away : (c d : Code) (z u : State) (g : Goes) (k : ℕ) → EachStatement Silent c
    → run c z ≡ some (u, g) → destination g ≡ some k → log (c ⧺ d) z ≡ []
past_away c d z u g k h e p =
    log_append c d z ∙ rw (silent_log c h z, e) (elsewhere g k u (log d) p)

module _ (ks : List ℕ) (a : ℕ) (o : Owner) (r : Native) (z : State) where
  -- text that goes on
  pub native_goes : (m : Machine) (t : Continues (native_text ks a o r) z m) (c : Code)
      → log (native_text ks a o r c) z ≡ log c t.end
  unfolding run runs step
  native_goes m t c = go (shape ks a o r)
    where
      go : ((c : Code) → native_text ks a o r c ≡ native_text ks a o r end ⧺ c)
          ⊎ ((c : Code) → native_text ks a o r c ≡ native_text ks a o r end)
          → log (native_text ks a o r c) z ≡ log c t.end
      go (inl e) = ap (λ d. log d z) (e c)
          ∙ past_on (native_text ks a o r end) c z t.end (silent_native ks a o r) (t.goes end)
      go (inr e) =
          absurd (on_not_to
          (ap goes_of
          (sym (t.goes end) ∙ ap (λ d. run d z) (sym (e (goto common 0 ⨾ end)))
          ∙ t.goes (goto common 0 ⨾ end))))

  -- text that leaves
  pub native_leaves : (out : Machine × ℕ) → Leaves (native_text ks a o r) z out → (c : Code)
      → log (native_text ks a o r c) z ≡ []
  native_leaves out t c = go (shape ks a o r)
    where
      go : ((c : Code) → native_text ks a o r c ≡ native_text ks a o r end ⧺ c)
          ⊎ ((c : Code) → native_text ks a o r c ≡ native_text ks a o r end)
          → log (native_text ks a o r c) z ≡ []
      go (inl e) = ap (λ d. log d z) (e c)
          ∙ past_away (native_text ks a o r end) c z t.end t.exit out.1
          (silent_native ks a o r) (t.ends end) t.leads
      go (inr e) = ap (λ d. log d z) (e c)
          ∙ silent_log (native_text ks a o r end) (silent_native ks a o r) z

-- lines that are run to their end
pub lines_log : (o : Owner) (n : ℕ) (ls : Lines) (c : Code) (z u : State)
    → run (lines o n ls end) z ≡ run end u → log (lines o n ls c) z ≡ log c u
unfolding run runs
lines_log o n ls c z u e = ap (λ d. log d z) (lines_append o n ls end c)
    ∙ past_on (lines o n ls end) c z u (silent_lines o n ls) e
