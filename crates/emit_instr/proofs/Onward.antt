-- The laws of `Onward`, by which the text of a block is put together from what its functions write.
use Rattle.std.proofs.Common.{◌≡◌, ℕ, ◌≤◌, List, length, sym, refl, ap, ◌∙◌, arith}
use Rattle.base_text.specs.Doc.{Doc, nothing, ◌▸◌}
use Rattle.base_text.specs.Flat.{flat}
use Rattle.base_text.specs.Wrote.{max_usize, Wrote}
use Rattle.base_text.proofs.Laws.{none, seq, wrote_as, kept as Wrote·kept}
use Rattle.c_tree.specs.Stmt.{Code, end}
use Rattle.c_tree.specs.Print.{code_text}
use Rattle.emit_instr.specs.Onward.{Onward}

-- nothing was written
pub stay : {o : List ℕ} {at : ℕ} (c : Code) → length o ≤ max_usize → at ≤ max_usize
    → Onward o at c c o at
stay c h k = record { doc = nothing; wrote = none h k; text = λ l. refl }

-- a doc was written that stands between the two codes
pub by : {o o' : List ℕ} {at r : ℕ} {d : Doc} (from to : Code) → Wrote o at d o' r
    → ((k : List ℕ) → flat (code_text from) k ≡ flat (d ▸ code_text to) k) → Onward o at from to o' r
by {d = d} from to w e = record { doc = d; wrote = w; text = e }

-- one and then another
pub then : {o o₁ o₂ : List ℕ} {at r₁ r₂ : ℕ} {a b c : Code} → Onward o at a b o₁ r₁
    → Onward o₁ r₁ b c o₂ r₂ → Onward o at a c o₂ r₂
then v w =
    record {
      doc = v.doc ▸ w.doc;
      wrote = seq v.wrote w.wrote;
      text = λ k. v.text k ∙ ap (flat v.doc) (w.text k);
    }

-- the whole text of a code was written, and nothing is left
pub start : {o o' : List ℕ} {at r : ℕ} {c : Code} → Wrote o at (code_text c) o' r
    → Onward o at c end o' r
start {c = c} w = record { doc = code_text c; wrote = w; text = λ k. refl }

pub finish : {o o' : List ℕ} {at r : ℕ} {c : Code} → Onward o at c end o' r
    → Wrote o at (code_text c) o' r
finish v = wrote_as v.wrote (sym (v.text _))

-- a code of the same text
pub same_from : {o o' : List ℕ} {at r : ℕ} {b c : Code} (a : Code)
    → ((k : List ℕ) → flat (code_text a) k ≡ flat (code_text b) k)
    → Onward o at b c o' r → Onward o at a c o' r
same_from a e v = record { doc = v.doc; wrote = v.wrote; text = λ k. e k ∙ v.text k }

-- the buffer keeps its length, and the index is a `usize`
pub kept : {o o' : List ℕ} {at r : ℕ} {a b : Code} → Onward o at a b o' r → length o' ≡ length o
kept v = Wrote·kept v.wrote

pub reached : {o o' : List ℕ} {at r : ℕ} {a b : Code} → Onward o at a b o' r → r ≤ max_usize
reached v = omega (arith, v.wrote.next)
