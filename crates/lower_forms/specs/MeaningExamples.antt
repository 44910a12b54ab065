-- Examples: what small instructions do, computed twice: by their lines as C99 reads them, and by
-- the manual.
use Rattle.std.specs.Prelude.{ℕ, ◌%◌, ◌≡◌, refl, true, false, List, [], ◌∷◌}
use Rattle.std.proofs.Math.Option.{Option, some}
use Rattle.base_words.specs.Word.{AND, OR}
use Rattle.armv4t.specs.declared.AluOp.TheVariants.{Sbc, Mov}
use Rattle.armv4t.specs.declared.Cond.TheVariants.{Al}
use Rattle.armv4t.specs.declared.ShiftKind.TheVariants.{Lsr, Ror}
use Rattle.armv4t.specs.declared.Shift.{Shift}
use Rattle.armv4t.specs.declared.Operand2.{Operand2}
use Rattle.armv4t.specs.declared.MemWidth.TheVariants.{Word}
use Rattle.armv4t.specs.declared.MemOffset.{MemOffset}
use Rattle.armv4t.specs.declared.Op.{Op}
use Rattle.armv4t.specs.declared.Op.TheVariants.{Alu, MulLong, Mem, BlockMem}
use Rattle.armv4t.specs.declared.Instr.{Instr}
use Rattle.c_tree.specs.Expr.{w32}
use Rattle.c_meaning.specs.State.{bind, update, State, empty, enter, load}
use Rattle.c_meaning.specs.Eval.{eval, eval_as}
use Rattle.c_meaning.specs.Exec.{exec, others, asks, step, runs}
use Rattle.c_meaning.specs.Perform.{execs, perform}
use Rattle.c_meaning.specs.Helpers.{rotated, called}
use Rattle.armv4t_manual.specs.Machine.{Machine, cpsr}
use Rattle.armv4t_manual.specs.Transfer.{Memory4}
use Rattle.armv4t_manual.specs.Multiple as M
use Rattle.armv4t_manual.specs.Execute.{operation}
use Rattle.lower_forms.specs.InlineBody.{listed, op_body}
use Rattle.lower_forms.specs.Means.{statements}

-- r1, r2, r3 and r4; the others hold 0
abbrev regs : ℕ → ℕ
regs = update 1 0x80000003 (update 2 7 (update 3 0x41 (update 4 0x44 λ k. 0)))

-- a machine with those registers: C is set, and a byte of memory is its address modulo 256
abbrev machine : Machine
machine =
    record {
      r = regs;
      n = false;
      z = false;
      c = true;
      v = false;
      other_bits = 0;
      mem = λ a. a % 256;
    }

-- a state that agrees with it, with one scope and nothing declared
abbrev state : State
state =
    record {
      c = update 16 0x20000000 regs;
      mem = λ a. a % 256;
      scopes = empty ∷ [];
      answers = λ k. 0;
      interpreter = λ k c mem. record { c = c; mem = mem; answer = 0 };
    }

-- an operation as the ARM instruction at 0x08000000, with the condition Al
abbrev arm : Op → Instr
arm op = record { addr = 0x08000000; cond = Al; op = op; thumb = false }

-- register k, the status register and the word at 0x3c, after the lines of an operation
abbrev text_has : ℕ → Op → Option (ℕ × ℕ × ℕ)
text_has k op =
    bind (op_body false (arm op) op) λ ls. bind (perform (statements ls) (enter state)) λ z. some
    (z.c k, z.c 16, load w32 z.mem 0x3c)

-- the same after the operation, by the manual
abbrev manual_has : ℕ → Op → Option (ℕ × ℕ × ℕ)
manual_has k op =
    bind (operation (arm op) op machine) λ q. some
    (q.0.r k, cpsr q.0, Memory4 q.0.mem 0x3c)

-- instructions, each with a register to look at, and with what it makes
abbrev cases : List (ℕ × Op × (ℕ × ℕ × ℕ))
cases =
    -- sbc r0, r2, #3: C is set, so nothing is borrowed
    (0, Alu Sbc false 0 2 (Operand2.Imm 3 0), (4, 0x20000000, 0x3f3e3d3c))
    -- movs r0, r1, lsr #32, which is encoded as 0: Z, and bit 31 as C
    ∷ (0, Alu Mov true 0 0 (Operand2.Reg 1 (Shift.Imm Lsr 0)), (0, 0x60000000, 0x3f3e3d3c))
    -- movs r0, r1, ror #2: bit 1 as C
    ∷ (0, Alu Mov true 0 0 (Operand2.Reg 1 (Shift.Imm Ror 2)), (0xe0000000, 0xa0000000, 0x3f3e3d3c))
    -- mov r0, r1, rrx: C comes in from the left
    ∷ (
      0,
      Alu Mov false 0 0 (Operand2.Reg 1 (Shift.Imm Ror 0)),
      (0xc0000001, 0x20000000, 0x3f3e3d3c),
    )
    -- smull r5, r0, r1, r2: the upper word of a product below 0
    ∷ (0, MulLong true false false 0 5 2 1, (0xfffffffc, 0x20000000, 0x3f3e3d3c))
    -- ldr r0, [r3]: the word at 0x40, rotated by a byte
    ∷ (
      0,
      Mem true Word false 0 3 (MemOffset.Imm 0) true true false,
      (0x40434241, 0x20000000, 0x3f3e3d3c),
    )
    -- str r4, [r4, #-8]!: r4 as it was is stored, which the manual leaves open (`store` in
    -- Transfer)
    ∷ (4, Mem false Word false 4 4 (MemOffset.Imm 8) true false true, (0x3c, 0x20000000, 0x44))
    -- stmdb r4!, {r1, r2}: r1 at the lowest address
    ∷ (4, BlockMem false 4 6 true false false true, (0x3c, 0x20000000, 0x80000003))
    -- stmdb r4, {r0, r4, r5}: r4 as it was, though it is not the lowest
    ∷ (4, BlockMem false 4 0x31 true false false false, (0x44, 0x20000000, 0x44))
    -- stmdb r4!, {r0, r4, r5}: r4 as it is after, which the manual leaves open (`stored_for` in
    -- Multiple)
    ∷ (4, BlockMem false 4 0x31 true false false true, (0x38, 0x20000000, 0x38))
    -- stmda r4!, {r4, r5, r6}: r4 as it was, as it is the lowest
    ∷ (4, BlockMem false 4 0x70 false false false true, (0x38, 0x20000000, 0x44))
    ∷ []

-- each case is so by the text, and by the manual
abbrev Each : List (ℕ × Op × (ℕ × ℕ × ℕ)) → Type 0
Each [] = Unit {0}
Each (x ∷ more) =
    (text_has x.0 x.1 ≡ some x.2) × (manual_has x.0 x.1 ≡ some x.2) × Each more

small_instructions : Each cases
unfolding perform execs exec others eval_as eval rotated called step runs asks AND OR listed M.listed
small_instructions = (
  refl,
  refl,
  (
    refl,
    refl,
    (
      refl,
      refl,
      (
        refl,
        refl,
        (
          refl,
          refl,
          (
            refl,
            refl,
            (refl, refl, (refl, refl, (refl, refl, (refl, refl, (refl, refl, tt))))),
          ),
        ),
      ),
    ),
  ),
)
