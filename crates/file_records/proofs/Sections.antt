-- What the rules of the trailer say of where the records stand.
-- Assumes nothing.
use mathlib.Core.Path.{◌≡◌}
use mathlib.Core.Bool.{Bool, true, ◌&&◌}
use mathlib.Core.List.{List}
use Prim.Native.Nat.{ℕ, ◌+◌, ◌*◌}
use lib.ListN.{length}
use lib.Dec.{eqb}
use borrow.Author.Tests.{eqb-true}
use Rattle.file_records.specs.Trailer.{edition, blocks_back, block_count, instrs_back}
use Rattle.file_records.specs.Trailer.{instr_count, code_back, code_count, file_length}
use Rattle.file_records.specs.Trailer.{trailer_right}
use Rattle.base_lists.proofs.Bools.{left_true, right_true}

-- the sections of a file with a right trailer
pub record Sections (f : List ℕ) : Type 0 where
  pub blocks : blocks_back f ≡ 32 + 16 * block_count f
  pub instrs : instrs_back f ≡ 32 + 16 * block_count f + 16 * instr_count f
  pub touch : code_count f + instrs_back f ≡ length f

module _ (a b c d e g : Bool) (all : (a && b && c && d && e && g) ≡ true) where
  fifth : e ≡ true
  fifth = right_true (a && b && c && d) e (left_true (a && b && c && d && e) g all)

  fourth : (a && b && c && d) ≡ true
  fourth = left_true (a && b && c && d) e (left_true (a && b && c && d && e) g all)

  third : c ≡ true
  third = right_true (a && b) c (left_true (a && b && c) d fourth)

  second : b ≡ true
  second = right_true a b (left_true (a && b) c (left_true (a && b && c) d fourth))

pub sections : (f : List ℕ) → trailer_right f ≡ true → Sections f
unfolding trailer_right
sections f all =
    let a = eqb (edition f) 1 in
    let b = eqb (blocks_back f) (32 + 16 * block_count f) in
    let c = eqb (instrs_back f) (32 + 16 * block_count f + 16 * instr_count f) in
    let d = eqb (code_back f) (length f) in
    let e = eqb (code_count f + instrs_back f) (length f) in
    let g = eqb (file_length f) (length f) in
    record {
      blocks = eqb-true _ _ (second a b c d e g all);
      instrs = eqb-true _ _ (third a b c d e g all);
      touch = eqb-true _ _ (fifth a b c d e g all);
    }
