-- What decides the rules of the trailer and of a block record: one that is broken makes the whole
-- false, and all of them make it true. Assumes nothing.
use mathlib.Core.Path.{◌≡◌}
use mathlib.Core.Bool.{true, false, ◌&&◌, and-false}
use mathlib.Core.List.{List}
use Prim.Native.Nat.{ℕ, ◌+◌, ◌*◌, ◌≤◌, ◌<◌, ◌^◌}
use lib.ListN.{length}
use lib.Dec.{leb, ltb, eqb}
use borrow.Author.Tests.{le-ltb, lt-ltb, le-leb, lt-leb, eq-eqb, ne_eqb}
use Rattle.file_records.specs.Trailer.{edition, blocks_back, block_count, instrs_back}
use Rattle.file_records.specs.Trailer.{instr_count, code_back, code_count, file_length}
use Rattle.file_records.specs.Trailer.{within_limits, trailer_right}
use Rattle.file_records.specs.BlockRecord.{addr_at, flags_at, count_at, length_at, aligned}
use Rattle.file_records.specs.BlockRecord.{code_right, block_right}
use Rattle.base_lists.proofs.Bools.{right_true}

module _ (f : List ℕ) where
  pub many_blocks : 65536 < block_count f → false ≡ within_limits f
  unfolding within_limits
  many_blocks h = simp (lt-leb _ _ h)

  pub many_instrs : 1048576 < instr_count f → false ≡ within_limits f
  unfolding within_limits
  many_instrs h = simp (lt-leb _ _ h, and-false)

  pub few_blocks : block_count f ≤ 65536 → leb (instr_count f) 1048576 ≡ within_limits f
  unfolding within_limits
  few_blocks h = simp (le-leb _ _ h)

  pub wrong_edition : (edition f ≡ 1 → ⊥) → false ≡ trailer_right f
  unfolding trailer_right
  wrong_edition h = simp (ne_eqb _ _ h)

  pub wrong_blocks : (blocks_back f ≡ 32 + 16 * block_count f → ⊥) → false ≡ trailer_right f
  unfolding trailer_right
  wrong_blocks h = simp (ne_eqb _ _ h, and-false)

  pub wrong_instrs : (instrs_back f ≡ 32 + 16 * block_count f + 16 * instr_count f → ⊥)
      → false ≡ trailer_right f
  unfolding trailer_right
  wrong_instrs h = simp (ne_eqb _ _ h, and-false)

  pub wrong_code : (code_back f ≡ length f → ⊥) → false ≡ trailer_right f
  unfolding trailer_right
  wrong_code h = simp (ne_eqb _ _ h, and-false)

  pub wrong_touch : (code_count f + instrs_back f ≡ length f → ⊥) → false ≡ trailer_right f
  unfolding trailer_right
  wrong_touch h = simp (ne_eqb _ _ h, and-false)

  pub right_but_length : edition f ≡ 1 → blocks_back f ≡ 32 + 16 * block_count f
      → instrs_back f ≡ 32 + 16 * block_count f + 16 * instr_count f
      → code_back f ≡ length f → code_count f + instrs_back f ≡ length f
      → eqb (file_length f) (length f) ≡ trailer_right f
  unfolding trailer_right
  right_but_length a b c d e =
      simp (eq-eqb _ _ a, eq-eqb _ _ b, eq-eqb _ _ c, eq-eqb _ _ d, eq-eqb _ _ e)

module _ (f : List ℕ) (at : ℕ) where
  pub wrong_flags : 4 ≤ flags_at f at → false ≡ block_right f at
  unfolding block_right
  wrong_flags h = simp (le-ltb _ _ h)

  pub no_count : count_at f at < 1 → false ≡ block_right f at
  unfolding block_right
  no_count h = simp (lt-leb _ _ h, and-false)

  pub large_count : 65535 < count_at f at → false ≡ block_right f at
  unfolding block_right
  large_count h = simp (lt-leb _ _ h, and-false)

  pub not_aligned : aligned f at ≡ false → false ≡ block_right f at
  unfolding block_right
  not_aligned h = simp (h, and-false)

  pub end_past : 2 ^ 32 < addr_at f at + length_at f at → false ≡ block_right f at
  unfolding block_right
  end_past h = simp (lt-leb _ _ h, and-false)

  pub right_but_code : flags_at f at < 4 → 1 ≤ count_at f at → count_at f at ≤ 65535
      → aligned f at ≡ true → addr_at f at + length_at f at ≤ 2 ^ 32
      → code_right f at ≡ block_right f at
  unfolding block_right
  right_but_code a b c d e = simp (lt-ltb _ _ a, le-leb _ _ b, le-leb _ _ c, d, le-leb _ _ e)

  pub code_kept : block_right f at ≡ true → code_right f at ≡ true
  unfolding block_right
  code_kept e =
      right_true
      (ltb (flags_at f at) 4 && leb 1 (count_at f at) && leb (count_at f at) 65535 && aligned f at
      && leb (addr_at f at + length_at f at) (2 ^ 32))
      (code_right f at) e
