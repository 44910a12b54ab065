-- Examples: differences 1 and 2 of docs/DIFFERENCES.md, which the claim on records excepts, each by
-- the smallest record that shows it: what `execute` and what the text makes of it, computed.
use Rattle.std.specs.Prelude.{ℕ, ◌≡◌, refl, Bool, true, false, [], ◌∷◌}
use Rattle.std.proofs.Math.Option.{Option, none, some}
use Rattle.base_words.specs.Word.{AND, OR, EOR}
use Rattle.armv4t.specs.declared.AluOp.TheVariants.{Add, Mov}
use Rattle.armv4t.specs.declared.Operand2.{Operand2}
use Rattle.armv4t.specs.declared.Cond.{Cond}
use Rattle.armv4t.specs.declared.Cond.TheVariants.{Al, Nv}
use Rattle.armv4t.specs.declared.Op.{Op}
use Rattle.armv4t.specs.declared.Op.TheVariants.{Alu}
use Rattle.file_instrs.specs.declared.decode.TimedInstr.{TimedInstr}
use Rattle.c_tree.specs.Stmt.{common, end}
use Rattle.c_meaning.specs.State.{bind, State, empty}
use Rattle.c_meaning.specs.Eval.{eval, eval_as}
use Rattle.c_meaning.specs.Exec.{Outcome, exec, others, asks, step, runs}
use Rattle.c_meaning.specs.Perform.{execs}
use Rattle.c_meaning.specs.Helpers.{rotated, called, run}
use Rattle.armv4t_manual.specs.Machine.{Machine}
use Rattle.armv4t_manual.specs.Execute.{execute}
use Rattle.lower_forms.specs.Forms.{Form, native, shell}
use Rattle.lower_forms.specs.InlineBody.{inline_body}
use Rattle.lower_forms.specs.Block.{emit_instr}
use Rattle.lower_units.specs.Block.{native_text}
use Rattle.lower_units.specs.Records.{is_named_difference}

-- a machine whose registers, status register and memory hold 0
abbrev machine : Machine
machine =
    record { r = λ k. 0; n = false; z = false; c = false; v = false; other_bits = 0; mem = λ a. 0 }

-- a state that agrees with it, with one scope and nothing declared
abbrev state : State
state =
    record {
      c = λ k. 0;
      mem = λ a. 0;
      scopes = empty ∷ [];
      answers = λ k. 0;
      interpreter = λ k c mem. record { c = c; mem = mem; answer = 0 };
    }

-- a record by its address, its set, its condition and its operation; its cost is 1
abbrev record_of : ℕ → Bool → Cond → Op → TimedInstr
record_of a thumb c op =
    record { instr = record { addr = a; cond = c; op = op; thumb = thumb }; cost = 1 }

-- what the text of a form does
abbrev does : Form → Outcome
does (native r) = run (native_text [] 0 common r end) state
does (shell high t k) = none

-- c[0] after the text of a record, in a block of region 8 and with no cycles pending
abbrev text_has : TimedInstr → Option ℕ
text_has x = bind (does (emit_instr x.instr.thumb 8 0 x).0) λ q. some (q.0.c 0)

-- register 0 after the record's instruction, by the manual
abbrev manual_has : TimedInstr → Option ℕ
manual_has x = bind (execute x.instr machine) λ q. some (q.0.r 0)

-- 1. ADD r0, pc, #0 of Thumb where PC has bit 1, with the value not folded: the manual takes PC
-- without it, and the text with it
abbrev add_of_pc : TimedInstr
add_of_pc = record_of 0x08000002 true Al (Alu Add false 0 15 (Operand2.Imm 0 0))

manual_1 : manual_has add_of_pc ≡ some 0x08000004
unfolding execute
manual_1 = refl

text_1 : text_has add_of_pc ≡ some 0x08000006
unfolding emit_instr inline_body native_text run runs step asks execs exec others eval_as eval
    rotated called AND OR EOR
text_1 = refl

named_1 : is_named_difference add_of_pc.instr machine ≡ true
named_1 = refl

-- 2. MOV r0, #1 under NV: unpredictable (A3.2.1); `passed` never passes it, and the text carries it
-- out
abbrev mov_under_nv : TimedInstr
mov_under_nv = record_of 0x08000000 false Nv (Alu Mov false 0 0 (Operand2.Imm 1 0))

manual_2 : manual_has mov_under_nv ≡ some 0
unfolding execute
manual_2 = refl

text_2 : text_has mov_under_nv ≡ some 1
unfolding emit_instr inline_body native_text run runs step asks execs exec others eval_as eval
    rotated called AND OR EOR
text_2 = refl

named_2 : is_named_difference mov_under_nv.instr machine ≡ true
named_2 = refl
