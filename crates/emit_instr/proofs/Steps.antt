-- The laws of `FormWritten`: what a form that was written leaves to write.
use Rattle.std.proofs.Common.{◌≡◌, ℕ, ◌+◌, Bool, true, false, cond, List, ◌∷◌, subst}
use Rattle.c_tree.specs.Stmt.{end}
use Rattle.lower_forms.specs.Forms.{Form, Body}
use Rattle.lower_units.specs.Block.{code_from}
use Rattle.emit_instr.specs.declared.step.Step.{Step}
use Rattle.emit_instr.specs.Onward.{Onward}
use Rattle.emit_instr.specs.Steps.{FormWritten}

module _ {o o' ks : List ℕ} {at j : ℕ} {b : Body} {fs : List Form} {r : Step} where
  -- a form that equals the one written
  pub same_form : (f g : Form × ℕ) → f ≡ g → FormWritten o at ks b j f fs o' r
      → FormWritten o at ks b j g fs o' r
  same_form f g e s = subst (λ (x : Form × ℕ). FormWritten o at ks b j x fs o' r) e s

  -- the forms after it are still to be written
  pub goes_on : {f : Form × ℕ} → r.done ≡ false → FormWritten o at ks b j f fs o' r
      → Onward o at (code_from ks b j (f.0 ∷ fs)) (code_from ks b (j + 1) fs) o' r.at
  goes_on {f} e s =
      subst (λ (d : Bool). Onward o at (code_from ks b j (f.0 ∷ fs))
      (cond d end (code_from ks b (j + 1) fs)) o' r.at) e s.onward

  -- nothing is
  pub ends : {f : Form × ℕ} → r.done ≡ true → FormWritten o at ks b j f fs o' r
      → Onward o at (code_from ks b j (f.0 ∷ fs)) end o' r.at
  ends {f} e s =
      subst (λ (d : Bool). Onward o at (code_from ks b j (f.0 ∷ fs))
      (cond d end (code_from ks b (j + 1) fs)) o' r.at) e s.onward
