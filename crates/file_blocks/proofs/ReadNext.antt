-- What the reader of instructions gives of a block, as the walk over its records has it.
-- Assumes nothing.
use Rattle.std.proofs.Common.{◌≡◌, ℕ, suc, ◌+◌, ◌<◌, List, [], ◌∷◌, drop, Option, Some, None, sym, ap, ◌∙◌, add-one, arith}
use Rattle.armv4t.specs.declared.Instr.{Instr}
use Rattle.file_instrs.specs.declared.decode.TimedInstr.{TimedInstr}
use Rattle.file_blocks.specs.declared.read.BlockRecord.{BlockRecord}
use Rattle.file_blocks.specs.Read.{IsBlock, read_instr, instrs_of, next_of}
use Rattle.file_blocks.proofs.ReadInstrs.{instr_at, drop_instr, drop_all, read_as}

module _ {f : List ℕ} {i : ℕ} {r : BlockRecord} {first : ℕ} (is : IsBlock f i r first) (j : ℕ)
    (inside : j < r.count) where
  -- the instruction that was read, and those after it
  pub here_read : (q : Option TimedInstr) (x : TimedInstr) → q ≡ read_instr f r first j
      → q ≡ Some x
      → drop j (instrs_of f r first) ≡ x ∷ drop (suc j) (instrs_of f r first)
  here_read q x e g =
      drop_instr f r.thumb r.count first r.addr j inside
      ∙ ap (λ (y : TimedInstr). y ∷ drop (suc j) (instrs_of f r first))
      (sym (read_as is j q x inside e g))

  -- the last one makes nothing with another
  pub next_last : (x : Instr) → j + 1 ≡ r.count
      → None ≡ next_of x (drop (suc j) (instrs_of f r first))
  next_last x e =
      let all : suc j ≡ r.count = omega arith in
      ap (next_of x)
      (sym (drop_all f r.thumb r.count first r.addr)
      ∙ ap (λ (n : ℕ). drop n (instrs_of f r first)) (sym all))

  -- what another makes with the one after it
  pub next_read : (x : Instr) (q : Option TimedInstr) (y : TimedInstr) → (j + 1 ≡ r.count → ⊥)
      → q ≡ read_instr f r first (j + 1) → q ≡ Some y
      → next_of x (y ∷ []) ≡ next_of x (drop (suc j) (instrs_of f r first))
  next_read x q y more e g =
      let below : suc j < r.count = omega arith in
      let same : y ≡ instr_at f first r.addr r.thumb (suc j) =
      read_as is (suc j) q y below (e ∙ ap (read_instr f r first) (add-one j)) g in
      ap (λ (z : TimedInstr). next_of x (z ∷ [])) same
      ∙ ap (next_of x) (sym (drop_instr f r.thumb r.count first r.addr (suc j) below))
