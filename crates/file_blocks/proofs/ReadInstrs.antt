-- What the reader of instructions gives of a block in an accepted file.
-- Assumes nothing.
use Rattle.std.proofs.Common.{◌≡◌, ℕ, zero, suc, ◌+◌, ◌*◌, ◌^◌, ◌<◌, ◌≤◌, Bool, true, false, List, [], ◌∷◌, drop, refl, ap, ◌∙◌, ap₂, le_of_suc-le-suc, not-suc-le-zero, add-zero, mod-eq_of_lt, mul-zero, arith, Option, Some, None}
use Rattle.armv4t.specs.Instr.{size_of}
use Rattle.file_instrs.specs.declared.decode.TimedInstr.{TimedInstr}
use Rattle.file_records.specs.BlockRecord.{length_of}
use Rattle.file_records.specs.Trailer.{instr_start}
use Rattle.file_instrs.specs.Decode.{timed_at}
use Rattle.file_blocks.specs.declared.read.BlockRecord.{BlockRecord}
use Rattle.file_blocks.specs.Parse.{instrs_from, blocks_of}
use Rattle.file_blocks.specs.Read.{read_instr, IsBlock}
use Rattle.file_blocks.proofs.Accepted.{shift, next_addr_lem, instr_found, few_instrs}
use Rattle.file_blocks.proofs.IsBlock.{ends, instrs_counted}

-- instruction j of consecutive ones from record k on
abbrev pub instr_at : List ℕ → ℕ → ℕ → Bool → ℕ → TimedInstr
instr_at f k addr thumb j = timed_at f (instr_start f (k + j)) (addr + size_of thumb * j) thumb

module _ (f : List ℕ) (thumb : Bool) where
  -- counted from the next record
  pub later : (k addr j : ℕ)
      → instr_at f (suc k) (addr + size_of thumb) thumb j ≡ instr_at f k addr thumb (suc j)
  later k addr j =
      ap₂ (λ (m a : ℕ). timed_at f (instr_start f m) a thumb) (shift k j)
      (next_addr_lem addr (size_of thumb) j)

  -- the first of them
  pub at_first : (k addr : ℕ) → timed_at f (instr_start f k) addr thumb ≡ instr_at f k addr thumb 0
  at_first k addr = rw (add-zero, mul-zero, add-zero)

-- instruction j of a block, and those after it
pub drop_instr : (f : List ℕ) (thumb : Bool) (n k addr j : ℕ) → j < n
    → drop j (instrs_from f n k addr thumb)
    ≡ instr_at f k addr thumb j ∷ drop (suc j) (instrs_from f n k addr thumb)
drop_instr f thumb zero k addr j h = absurd (not-suc-le-zero h)
drop_instr f thumb (suc n) k addr zero h =
    ap (λ (x : TimedInstr). x ∷ instrs_from f n (suc k) (addr + size_of thumb) thumb)
    (at_first f thumb k addr)
drop_instr f thumb (suc n) k addr (suc j) h =
    drop_instr f thumb n (suc k) (addr + size_of thumb) j (le_of_suc-le-suc h)
    ∙ ap (λ (x : TimedInstr). x ∷ drop (suc j) (instrs_from f n (suc k) (addr + size_of thumb) thumb))
    (later f thumb k addr j)

-- after the last one there is none
pub drop_all : (f : List ℕ) (thumb : Bool) (n k addr : ℕ)
    → drop n (instrs_from f n k addr thumb) ≡ []
drop_all f thumb zero k addr = refl
drop_all f thumb (suc n) k addr = drop_all f thumb n (suc k) (addr + size_of thumb)

-- the address of an instruction of a block that ends by 2^32
addr_below : (addr count j : ℕ) (thumb : Bool) → j < count → addr + length_of count thumb ≤ 2 ^ 32
    → addr + size_of thumb * j < 2 ^ 32
addr_below addr count j true h e = omega arith
addr_below addr count j false h e = omega arith

-- block i of an accepted file
module _ {f : List ℕ} {i : ℕ} {b : BlockRecord} {first : ℕ} (is : IsBlock f i b first) where
  -- each instruction of the block is found
  pub instr_there : (j : ℕ) → j < b.count
      → read_instr f b first j ≡ Some (instr_at f first b.addr b.thumb j)
  instr_there j h =
      let place : first + j < 2 ^ 64 =
      omega (arith, instrs_counted is, few_instrs f (blocks_of f) is.accepted) in
      let address : b.addr + size_of b.thumb * j < 2 ^ 32 =
      addr_below b.addr b.count j b.thumb h (ends is) in
      rw (mod-eq_of_lt place, mod-eq_of_lt address)
      (instr_found f (blocks_of f) is.accepted (first + j) _ b.thumb
      (omega (arith, instrs_counted is)))

  -- so what is read is that instruction
  pub read_as : (j : ℕ) (r : Option TimedInstr) (x : TimedInstr) → j < b.count → r ≡ read_instr f b first j
      → r ≡ Some x → x ≡ instr_at f first b.addr b.thumb j
  read_as j r x h e g = cc (instr_there j h)

  -- and something is read
  pub not_missing : (j : ℕ) (r : Option TimedInstr) → j < b.count → r ≡ read_instr f b first j
      → r ≡ None → ⊥
  not_missing j r h e g = let z : ◌≡◌ {A = ℕ} 0 1 = cc (instr_there j h) in omega arith
