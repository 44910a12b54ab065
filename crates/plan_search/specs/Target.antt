-- To be believed: the blocks that edges join, and which of them has a key.
use Rattle.std.specs.Prelude.{ℕ, suc, Bool, cond, ◌&&◌, List, [], ◌∷◌, eqb}
use Rattle.std.proofs.Math.Option.{Option, none, some}
use Rattle.file_blocks.specs.Parse.{Block, block_key}
use Rattle.file_blocks.specs.Address.{page}

-- whether the page of an address is exactly 8
abbrev pub on_page8 : ℕ → Bool
on_page8 addr = eqb (page addr) 8

-- the blocks that edges join
abbrev pub joinable : Block → Bool
joinable b = on_page8 b.addr

-- the number of the joinable block with a key, among blocks counted from i
unfoldable pub target : ℕ → List Block → ℕ → Option ℕ
target k [] i = none
target k (b ∷ bs) i = cond (eqb (block_key b) k && joinable b) (some i) (target k bs (suc i))
