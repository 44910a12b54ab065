-- To be believed: what is claimed of the text of a whole block, from its first statement to its
-- transfer.
use Rattle.std.specs.Prelude.{ℕ, suc, ◌+◌, ◌≡◌, Bool, true, false, not, ◌&&◌, ◌||◌, Some, None}
use mathlib.Core.List.{List, [], ◌∷◌, Memᴰ}
use Rattle.std.proofs.Math.Option.{none, some}
use Rattle.base_words.specs.Word.{bit}
use Rattle.armv4t.specs.Bit0.{clear_bit0}
use Rattle.armv4t.specs.declared.Op.{Op}
use Rattle.armv4t.specs.declared.Op.TheVariants.{Alu, Mul, MulLong, Swap, Bx, Branch, ThumbBlHigh}
use Rattle.armv4t.specs.declared.Op.TheVariants.{ThumbBlLow, Mem, BlockMem, Mrs, MsrReg, MsrImm}
use Rattle.armv4t.specs.declared.Op.TheVariants.{Swi, Undefined}
use Rattle.armv4t.specs.declared.Instr.{Instr}
use Rattle.armv4t.specs.Fused.{fuse}
use Rattle.file_instrs.specs.declared.decode.TimedInstr.{TimedInstr}
use Rattle.file_blocks.specs.Parse.{Block}
use Rattle.file_blocks.specs.Address.{region, outside_rom_bios}
use Rattle.c_tree.specs.Expr.{u32, x-pc}
use Rattle.c_meaning.specs.State.{Interpreter, State, interp_answer, after_interp, Declares, Later}
use Rattle.armv4t_manual.specs.Machine.{Machine, Sound, thumb_state}
use Rattle.armv4t_manual.specs.Unsaid.{no_instruction, unpredictable, is_nv}
use Rattle.armv4t_manual.specs.Execute.{execute, key_after}
use Rattle.lower_forms.specs.Forms.{is_native}
use Rattle.lower_forms.specs.Block.{emit_instr, hash_of, body_of}
use Rattle.lower_forms.specs.Agree.{Agrees}
use Rattle.lower_forms.specs.Differs.{differs_in}
use Rattle.lower_units.specs.Block.{block_code}
use Rattle.lower_units.specs.Text.{Leaves}
use Rattle.lower_units.specs.Records.{is_taken}

-- the next call of interp_one acts as a step of the machine: step says what becomes of a machine
-- whose next instruction stands at an address, and the key where it goes on; the interpreter finds
-- the address in c[15], and leaves there that of the key which it answers
pub record ActsAsStep (step : ℕ → Machine → Machine × ℕ) (z : State) (m : Machine) : Type 0 where
  pub sound : Sound (step (z.c 15) m).0
  pub same : Agrees (after_interp z) (step (z.c 15) m).0
  pub answers : interp_answer z ≡ (step (z.c 15) m).1
  pub pc : (after_interp z).c 15 ≡ clear_bit0 (step (z.c 15) m).1

-- one call of interp_one does so from every state that agrees with a sound machine
abbrev pub Interprets : (ℕ → Machine → Machine × ℕ) → Interpreter → Type 0
Interprets step f =
    (z : State) (m : Machine) → z.interpreter 0 ≡ f → Sound m → Agrees z m → ActsAsStep step z m

-- whether a record of a block in a region is native (document 01) where it is not fused
abbrev pub is_native_record : ℕ → TimedInstr → Bool
is_native_record region x = is_native (emit_instr x.instr.thumb region 0 x).0

-- whether an operation is half of a Thumb BL
abbrev pub is_half : Op → Bool
is_half (Alu op s rd rn op2) = false
is_half (Mul acc s rd rn rs rm) = false
is_half (MulLong signed acc s hi lo rs rm) = false
is_half (Swap b rd rm rn) = false
is_half (Bx rm) = false
is_half (Branch link target) = false
is_half (ThumbBlHigh lr) = true
is_half (ThumbBlLow off) = true
is_half (Mem ld width signed rd rn offset pre up writeback) = false
is_half (BlockMem ld rn rlist pre up s_bit writeback) = false
is_half (Mrs spsr rd) = false
is_half (MsrReg spsr fields rm) = false
is_half (MsrImm spsr fields value) = false
is_half (Swi imm) = false
is_half (Undefined raw) = false

-- whether an instruction is one of which the manual says what it does, whether or not its condition
-- passes, and no named difference (so not NV)
abbrev pub is_said : Instr → Bool
is_said i = not (no_instruction i || unpredictable i.op || is_nv i.cond || differs_in i i.op)

-- whether a record of a block in a region is covered: the manual says what it does, or the
-- interpreter carries it out; half of a Thumb BL, which may be fused, is covered by the manual
-- alone
abbrev pub is_covered : ℕ → TimedInstr → Bool
is_covered region x =
    (not (is_native_record region x) && not (is_half x.instr.op)) || is_said x.instr

-- a record does not fuse with the one after it
abbrev pub Alone : TimedInstr → List TimedInstr → Type 0
Alone x [] = Unit {0}
Alone x (y ∷ ys) = fuse x.instr y.instr ≡ None

-- whether a record of a block in a region leaves the block, whatever its key: a native transfer
-- whose condition passes
abbrev pub leaves_by : ℕ → TimedInstr → Machine → Bool
leaves_by region x m = is_native_record region x && is_taken x.instr m

-- a sequence ends with a record that leads from m to next: no record is after it, or the key is not
-- the one after it, or it leaves the block
pub data Ends (region : ℕ) (x : TimedInstr) (xs : List TimedInstr) (m : Machine)
    (next : Machine × ℕ) : Type 0 where
  final : xs ≡ [] → Ends region x xs m next
  away : (next.1 ≡ key_after x.instr → ⊥) → Ends region x xs m next
  transfers : leaves_by region x m ≡ true → Ends region x xs m next

-- step k is what the call of interp_one with the number k does, from 0 on
module _ (step : ℕ → ℕ → Machine → Machine × ℕ) (region : ℕ) where
  -- what becomes of a machine by a record that is not fused, with the number of calls made when it
  -- begins and when it is done: a native one (document 01) by the manual, another by the
  -- interpreter
  pub data CarriedOut (x : TimedInstr) (m : Machine) (next : Machine × ℕ) : (before after : ℕ)
      → Type 0 where
    by_manual : (n : ℕ) → is_native_record region x ≡ true → execute x.instr m ≡ some next
        → CarriedOut x m next n n
    by_interpreter : (n : ℕ) → is_native_record region x ≡ false → step n x.instr.addr m ≡ next
        → CarriedOut x m next n (suc n)

  -- from a machine to another and a key, by records one after the other from the first on, with the
  -- number of calls made when they begin and when they are done
  pub data Sequence : (before after : ℕ) → List TimedInstr → Machine → Machine × ℕ → Type 0 where
    -- it ends with a record
    last : (i j : ℕ) (x : TimedInstr) (xs : List TimedInstr) (m : Machine) (next : Machine × ℕ)
        → Alone x xs → CarriedOut x m next i j → Ends region x xs m next
        → Sequence i j (x ∷ xs) m next
    -- or with a pair that fuses
    pair : (n : ℕ) (x y : TimedInstr) (xs : List TimedInstr) (target ret : ℕ) (m : Machine)
        (half next : Machine × ℕ) → fuse x.instr y.instr ≡ Some (target, ret)
        → execute x.instr m ≡ some half → execute y.instr half.0 ≡ some next
        → Sequence n n (x ∷ y ∷ xs) m next
    -- or goes on after a record that leads to the one after it, and does not leave the block
    more : (i j k : ℕ) (x : TimedInstr) (xs : List TimedInstr) (m : Machine)
        (next out : Machine × ℕ) → Alone x xs → CarriedOut x m next i j
        → leaves_by region x m ≡ false → next.1 ≡ key_after x.instr
        → Sequence j k xs next.0 out → Sequence i k (x ∷ xs) m out

  -- what becomes of a machine by a block, where z is the state that its text starts in, and how
  -- many calls it makes: in ROM or BIOS its records one after the other; elsewhere the same where
  -- it has code bytes and the guard says yes, and one step of the interpreter where it has none or
  -- the guard says no
  pub data Carries (multiplier : ℕ) (b : Block) (z : State) (m : Machine) (out : Machine × ℕ) :
      (used : ℕ) → Type 0 where
    in_order : (n : ℕ) → outside_rom_bios b.addr ≡ false → Sequence 0 n b.instrs m out
        → Carries multiplier b z m out n
    granted : (n hash : ℕ) → outside_rom_bios b.addr ≡ true → hash_of multiplier b ≡ some hash
        → (z.answers 0 ≡ 0 → ⊥) → Sequence 0 n b.instrs m out
        → Carries multiplier b z m out n
    absent : outside_rom_bios b.addr ≡ true → hash_of multiplier b ≡ none → step 0 b.addr m ≡ out
        → Carries multiplier b z m out 1
    refused : (hash : ℕ) → outside_rom_bios b.addr ≡ true
        → hash_of multiplier b ≡ some hash → z.answers 0 ≡ 0 → step 0 b.addr m ≡ out
        → Carries multiplier b z m out 1

-- each step of the interpreter leaves T equal to bit 0 of the key that it leads to
abbrev pub StepsKeepState : (ℕ → ℕ → Machine → Machine × ℕ) → Type 0
StepsKeepState step = (k a : ℕ) (m : Machine) → thumb_state (step k a m).0 ≡ bit (step k a m).1 0

-- where they do: T at the exit of a block is bit 0 of the key that it leads to, if it was the
-- block's own set at its entry
abbrev pub KeepsState : ℕ → Block → Type 0
KeepsState multiplier b =
    (step : ℕ → ℕ → Machine → Machine × ℕ) → StepsKeepState step → (z : State) (m : Machine)
    (out : Machine × ℕ) (used : ℕ)
    → thumb_state m ≡ b.thumb → Carries step (region b.addr) multiplier b z m out used
    → thumb_state out.0 ≡ bit out.1 0

-- what the text of a block comes to, from the state z and the machine m that agrees with it: it
-- leaves as the manual and the interpreter say; what is asked of a state at its start holds where
-- it ends, of the calls of interp_one that are left, and guard and gate go on with the answers that
-- are left, so that the same can be said of the block that a goto leads to
pub record BlockLeaves (step : ℕ → ℕ → Machine → Machine × ℕ) (multiplier : ℕ) (ks : List ℕ)
    (b : Block) (z : State) (m : Machine) : Type 0 where
  pub out : Machine × ℕ
  pub used : ℕ
  pub by : Carries step (region b.addr) multiplier b z m out used
  pub sound : Sound out.0
  pub text : Leaves (λ c. block_code ks (body_of multiplier b)) z out
  pub declares : Declares text.end.scopes (u32, x-pc)
  pub left : (k : ℕ) → Interprets (step (used + k)) (text.end.interpreter k)
  pub later : Later z text.end

-- so does the text of a block whose records are covered, in a function that declares pc
abbrev pub BlockMeans : ℕ → List ℕ → Block → Type 0
BlockMeans multiplier ks b =
    ((x : TimedInstr) → Memᴰ x b.instrs → is_covered (region b.addr) x ≡ true)
    → (step : ℕ → ℕ → Machine → Machine × ℕ) (z : State) (m : Machine)
    → ((k : ℕ) → Interprets (step k) (z.interpreter k)) → Declares z.scopes (u32, x-pc)
    → Sound m → Agrees z m
    → BlockLeaves step multiplier ks b z m
