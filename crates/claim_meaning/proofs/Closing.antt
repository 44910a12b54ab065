-- The closing transfer of a block leads to the key after its last instruction.
use Prim.Native.Nat.{ℕ, suc, ◌+◌, ◌*◌, ◌%◌, ◌<◌}
use mathlib.Core.Path.{◌≡◌, ◌∙◌, subst}
use mathlib.Core.Bool.{Bool, true, false}
use mathlib.Core.List.{List, [], ◌∷◌, ◌++◌}
use native.Mathlib.Nat.{mod-lt}
use native.Mathlib.Omega.{arith}
use lib.Dec.{lit<}
use lib.ListN.{length, length-append}
use Rattle.armv4t.specs.Bit0.{clear_bit0}
use Rattle.armv4t.specs.Instr.{size_of}
use Rattle.file_instrs.specs.declared.decode.TimedInstr.{TimedInstr}
use Rattle.file_blocks.specs.Parse.{Block}
use Rattle.file_blocks.specs.Address.{region}
use Rattle.c_tree.specs.Stmt.{common}
use Rattle.armv4t_manual.specs.Execute.{key, following, key_after}
use Rattle.lower_forms.specs.Block.{flush_ticks, emit_instrs, body_of, pc_line}
use Rattle.lower_units.specs.Block.{body_end, native_text, closing, exit_code}
use Rattle.file_records.specs.BlockRecord.{key_plus}
use Rattle.lower_units.specs.Text.{Leaves}
use Rattle.lower_units.specs.Records.{ClosingMeans}
use Rattle.lower_units.proofs.Exits.{jump_leaves}
use Rattle.file_blocks.proofs.Ranges.{Consecutive}

-- one instruction further
further : (t : Bool) (a n : ℕ) → a + size_of t + n * size_of t ≡ a + suc n * size_of t
further true a n = omega arith
further false a n = omega arith

-- where the last instruction stands, and its set
last_placed : (a : ℕ) (t : Bool) (us : List TimedInstr) (x : TimedInstr)
    → Consecutive a t (us ++ (x ∷ []))
    → (x.instr.addr ≡ a + length us * size_of t) × (x.instr.thumb ≡ t)
last_placed a true [] x p = (omega (arith, p.0), p.1)
last_placed a false [] x p = (omega (arith, p.0), p.1)
last_placed a t (u ∷ us) x p =
    let r = last_placed (a + size_of t) t us x p.2 in (r.0 ∙ further t a (length us), r.1)

-- the address after an instruction whose address is a multiple of its size
pub after_even : (t : Bool) (a : ℕ) → a % size_of t ≡ 0 → (a + size_of t) % 4294967296 % 2 ≡ 0
after_even true a h = omega arith
after_even false a h = omega arith

-- the key of an even address is a word, and without bit 0 the address
pub even_key : (t : Bool) (a : ℕ) → a < 4294967296 → a % 2 ≡ 0
    → (key t a < 4294967296) × (a ≡ clear_bit0 (key t a))
even_key true a l h = (omega arith, omega arith)
even_key false a l h = (omega arith, omega arith)

-- n instructions after an address that is a multiple of their size
multiple : (t : Bool) (a n : ℕ) → a % size_of t ≡ 0 → (a + n * size_of t) % size_of t ≡ 0
multiple true a n h = omega arith
multiple false a n h = omega arith

-- the key after n + 1 instructions is that after the last of them
same_key : (t : Bool) (a n : ℕ)
    → key t ((a + n * size_of t + size_of t) % 4294967296)
    ≡ key_plus ((a + (n + 1) * size_of t) % 4294967296) t
same_key true a n = omega arith
same_key false a n = omega arith

-- the address after n + 1 instructions is that after the last of them
same_end : (t : Bool) (a n : ℕ)
    → (a + n * size_of t + size_of t) % 4294967296 ≡ (a + (n + 1) * size_of t) % 4294967296
same_end true a n = omega arith
same_end false a n = omega arith

pub closing_means : (multiplier : ℕ) (ks : List ℕ) (b : Block)
    → Consecutive b.addr b.thumb b.instrs → b.addr % size_of b.thumb ≡ 0
    → (us : List TimedInstr) (x : TimedInstr) → b.instrs ≡ us ++ (x ∷ [])
    → ClosingMeans ks (body_of multiplier b) x.instr
unfolding body_of closing native_text
closing_means multiplier ks b placed aligned us x e z m g =
    subst (λ (a : ℕ). Leaves
    (λ c. exit_code ks b.addr common (flush_ticks cycles ++ pc_line a)
    (key_plus (body_end (body_of multiplier b)) b.thumb)) z (m, key_after x.instr))
    end_address
    (subst (λ (k : ℕ). Leaves
    (λ c. exit_code ks b.addr common (flush_ticks cycles ++ pc_line (following x.instr)) k) z
    (m, key_after x.instr))
    same
    (jump_leaves ks b.addr common cycles false 0 (following x.instr) (key_after x.instr)
    (lit< tt) below word.0 word.1 g))
  where
    cycles : ℕ
    cycles = (emit_instrs b.thumb (region b.addr) 0 b.instrs).1

    at : (x.instr.addr ≡ b.addr + length us * size_of b.thumb) × (x.instr.thumb ≡ b.thumb)
    at =
        last_placed b.addr b.thumb us x
        (subst (λ (xs : List TimedInstr). Consecutive b.addr b.thumb xs) e placed)

    same : key_after x.instr
        ≡ key_plus ((b.addr + length b.instrs * size_of b.thumb) % 4294967296) b.thumb
    same = rw (at.0, at.1, e, length-append) (same_key b.thumb b.addr (length us))

    end_address : following x.instr
        ≡ (b.addr + length b.instrs * size_of b.thumb) % 4294967296
    end_address = rw (at.0, at.1, e, length-append) (same_end b.thumb b.addr (length us))

    below : following x.instr < 4294967296
    below = mod-lt (x.instr.addr + size_of x.instr.thumb) (lit< tt)

    even : following x.instr % 2 ≡ 0
    even =
        rw (at.0, at.1)
        (after_even b.thumb _ (multiple b.thumb b.addr (length us) aligned))

    word : (key_after x.instr < 4294967296)
        × (following x.instr ≡ clear_bit0 (key_after x.instr))
    word = even_key x.instr.thumb (following x.instr) below even
