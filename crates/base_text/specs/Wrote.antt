-- Steps: what the contracts of the printers say: the bytes that a buffer holds afterwards, and the
-- number answered.
use Rattle.std.specs.Prelude.{◌≡◌, ℕ, zero, suc, ◌+◌, ◌≤◌, min, List, [], ◌∷◌, length}
use Rattle.base_text.specs.Doc.{Doc, print}

-- the largest `usize`
abbrev pub max_usize : ℕ
max_usize = 0xffff_ffff_ffff_ffff

-- out with s laid over it from index `at` on; what would lie past the end of out is dropped, and
-- out keeps its length
unfoldable pub overlay : List ℕ → ℕ → List ℕ → List ℕ
overlay [] at s = []
overlay (x ∷ xs) zero [] = x ∷ xs
overlay (x ∷ xs) zero (a ∷ s) = a ∷ overlay xs zero s
overlay (x ∷ xs) (suc at) s = x ∷ overlay xs at s

-- d was printed to the front of part: part' is what part became, and n the length of all of d, also
-- of what did not fit
pub record Printed (part : List ℕ) (d : Doc) (part' : List ℕ) (n : ℕ) : Type 0 where
  pub bytes : part' ≡ overlay part 0 (print d)
  pub size : n ≡ length (print d)

-- a printer, by what a call of it may answer and leave of a part, prints d to the front of any part
abbrev pub Prints : (List ℕ → ℕ → List ℕ → Type 0) → Doc → Type 0
Prints calls d = (part part' : List ℕ) (n : ℕ) → calls part n part' → Printed part d part' n

-- the index after a text at index `at`, or the largest `usize` where that is less
abbrev pub index_after : ℕ → Doc → ℕ
index_after at d = min (at + length (print d)) max_usize

-- d was written to out at index `at`: out' is what out became, and r the index after d. In an out
-- with no bytes nothing is written, and r says how far d would reach. The third field says what is
-- true of any slice
pub record Wrote (out : List ℕ) (at : ℕ) (d : Doc) (out' : List ℕ) (r : ℕ) : Type 0 where
  pub bytes : out' ≡ overlay out at (print d)
  pub next : r ≡ index_after at d
  pub small : length out ≤ max_usize
