-- Steps: what was written of a block's text, between the code that was to be written before and the
-- code that still is.
use Rattle.std.specs.Prelude.{◌≡◌, ℕ, List}
use Rattle.base_text.specs.Doc.{Doc, ◌▸◌}
use Rattle.base_text.specs.Flat.{flat}
use Rattle.base_text.specs.Wrote.{Wrote}
use Rattle.c_tree.specs.Stmt.{Code}
use Rattle.c_tree.specs.Print.{code_text}

-- what was written takes the text of a block from one code to the code that is still to be written
pub record Onward (out : List ℕ) (at : ℕ) (from to : Code) (out' : List ℕ) (r : ℕ) : Type 0 where
  pub doc : Doc
  pub wrote : Wrote out at doc out' r
  pub text : (k : List ℕ) → flat (code_text from) k ≡ flat (doc ▸ code_text to) k
