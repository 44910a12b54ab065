-- Steps: whether keys rise in file order, the first block whose key is equal to an earlier one, and
-- the block with a key.
use Rattle.std.specs.Prelude.{ℕ, Bool, true, ◌&&◌, List, [], ◌∷◌, length, get_or, take, eqb, ltb}
use Rattle.std.proofs.Math.Option.{Option}
use Rattle.base_lists.specs.Lists.{range, among, first_of}

-- whether some keys rise strictly from k on
unfoldable pub rises_from : ℕ → List ℕ → Bool
rises_from k [] = true
rises_from k (j ∷ js) = ltb k j && rises_from j js

-- whether keys rise strictly in file order
unfoldable pub rising : List ℕ → Bool
rising [] = true
rising (k ∷ ks) = rises_from k ks

-- whether the key of block i is equal to an earlier one
abbrev pub repeats : List ℕ → ℕ → Bool
repeats keys i = among (get_or keys i 0) (take i keys)

-- the first block in file order whose key is equal to an earlier one
abbrev pub first_repeated : List ℕ → Option ℕ
first_repeated keys = first_of (repeats keys) (range (length keys) 0)

-- the first block in file order with a key: the only one where keys are different
abbrev pub block_with : ℕ → List ℕ → Option ℕ
block_with key keys = first_of (λ (i : ℕ). eqb (get_or keys i 0) key) (range (length keys) 0)
