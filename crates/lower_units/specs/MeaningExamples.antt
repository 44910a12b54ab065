-- Examples: what BX and STM do, computed twice: by their text as C99 reads it, and by the manual.
use Rattle.std.specs.Prelude.{ℕ, ◌≡◌, refl, Bool, true, false, cond, [], ◌∷◌}
use Rattle.std.proofs.Math.Option.{Option, none, some}
use Rattle.base_words.specs.Word.{AND, OR}
use Rattle.armv4t.specs.declared.Cond.TheVariants.{Al}
use Rattle.armv4t.specs.declared.Op.{Op}
use Rattle.armv4t.specs.declared.Op.TheVariants.{Bx, BlockMem}
use Rattle.file_instrs.specs.declared.decode.TimedInstr.{TimedInstr}
use Rattle.c_tree.specs.Expr.{w32}
use Rattle.c_tree.specs.Stmt.{common, end}
use Rattle.c_meaning.specs.State.{bind, update, State, empty, load}
use Rattle.c_meaning.specs.Eval.{eval, eval_as}
use Rattle.c_meaning.specs.Exec.{Outcome, exec, others, asks, step, runs}
use Rattle.c_meaning.specs.Perform.{execs}
use Rattle.c_meaning.specs.Helpers.{rotated, called, run}
use Rattle.armv4t_manual.specs.Machine.{Machine, cpsr}
use Rattle.armv4t_manual.specs.Transfer.{Memory4}
use Rattle.armv4t_manual.specs.Multiple as M
use Rattle.armv4t_manual.specs.Execute.{execute}
use Rattle.lower_forms.specs.Forms.{Form, native, shell}
use Rattle.lower_forms.specs.InlineBody.{inline_body}
use Rattle.lower_forms.specs.InlineBody as F
use Rattle.lower_forms.specs.Block.{emit_instr}
use Rattle.lower_units.specs.Block.{native_text}
use Rattle.lower_units.specs.Text.{destination}
use Rattle.lower_units.specs.Records.{is_named_difference}

-- r0 holds a number, r1 an ARM address, r2 a Thumb one
abbrev regs : ℕ → ℕ
regs = update 0 7 (update 1 0x08000100 (update 2 0x08000103 λ k. 0))

-- a machine, and a state that agrees with it, whose status register has bit 4, and T, bit 5, where
-- the block is Thumb
abbrev machine : Bool → Machine
machine thumb =
    record {
      r = regs;
      n = false;
      z = false;
      c = false;
      v = false;
      other_bits = cond thumb 0x30 0x10;
      mem = λ a. 0;
    }

abbrev state : Bool → State
state thumb =
    record {
      c = update 16 (cond thumb 0x30 0x10) regs;
      mem = λ a. 0;
      scopes = empty ∷ [];
      answers = λ k. 0;
      interpreter = λ k c mem. record { c = c; mem = mem; answer = 0 };
    }

-- a record of a block in ROM, by its set and its operation
abbrev record_of : Bool → Op → TimedInstr
record_of thumb op =
    record { instr = record { addr = 0x08000000; cond = Al; op = op; thumb = thumb }; cost = 1 }

-- bx of a register
abbrev bx_of : Bool → ℕ → TimedInstr
bx_of thumb rm = record_of thumb (Bx rm)

-- what the text of a form does
abbrev does : Bool → Form → Outcome
does thumb (native r) = run (native_text [] 0x08000000 common r end) (state thumb)
does thumb (shell high t k) = none

-- the status register, and the key that is led to: by the text, and by the manual
abbrev text_has : Bool → ℕ → Option (ℕ × Option ℕ)
text_has thumb rm =
    bind (does thumb (emit_instr thumb 8 0 (bx_of thumb rm)).0) λ q. some
    (q.0.c 16, destination q.1)

abbrev manual_has : Bool → ℕ → Option (ℕ × Option ℕ)
manual_has thumb rm =
    bind (execute (bx_of thumb rm).instr (machine thumb)) λ q. some (cpsr q.0, some q.1)

-- both are the same, and known
abbrev Both : Bool → ℕ → ℕ × Option ℕ → Type 0
Both thumb rm x = (text_has thumb rm ≡ some x) × (manual_has thumb rm ≡ some x)

-- from Thumb to an ARM address: T is cleared
to_arm_lem : Both true 1 (0x10, some 0x08000100)
unfolding emit_instr inline_body native_text run runs step asks execs exec others eval_as eval rotated
    called execute AND OR
to_arm_lem = (refl, refl)

-- from ARM to a Thumb address: T is set
to_thumb_lem : Both false 2 (0x30, some 0x08000103)
unfolding emit_instr inline_body native_text run runs step asks execs exec others eval_as eval rotated
    called execute AND OR
to_thumb_lem = (refl, refl)

-- STMIA r1, {r0, r1}, with writeback or without: the base is listed, and is not the lowest
abbrev stmia : Bool → TimedInstr
stmia writeback = record_of false (BlockMem false 1 3 false true false writeback)

-- the two words that it stores, and the base after it: by the text, and by the manual
abbrev text_stores : TimedInstr → Option (ℕ × ℕ × ℕ)
text_stores x =
    bind (does false (emit_instr false 8 0 x).0) λ q. some
    (load w32 q.0.mem 0x08000100, load w32 q.0.mem 0x08000104, q.0.c 1)

abbrev manual_stores : TimedInstr → Option (ℕ × ℕ × ℕ)
manual_stores x =
    bind (execute x.instr (machine false)) λ q. some
    (Memory4 q.0.mem 0x08000100, Memory4 q.0.mem 0x08000104, q.0.r 1)

-- both are the same, and known, and the record is no named difference
abbrev Stores : TimedInstr → ℕ × ℕ × ℕ → Type 0
Stores x words =
    (text_stores x ≡ some words) × (manual_stores x ≡ some words)
    × (is_named_difference x.instr (machine false) ≡ false)

-- without writeback the old base is stored
old_base : Stores (stmia false) (7, 0x08000100, 0x08000100)
unfolding emit_instr inline_body F.listed native_text run runs step asks execs exec others eval_as eval
    rotated called execute M.listed AND OR
old_base = (refl, refl, refl)

-- with writeback the base as it is after, which the manual leaves open (`stored_for` in Multiple)
new_base : Stores (stmia true) (7, 0x08000108, 0x08000108)
unfolding emit_instr inline_body F.listed native_text run runs step asks execs exec others eval_as eval
    rotated called execute M.listed AND OR
new_base = (refl, refl, refl)
