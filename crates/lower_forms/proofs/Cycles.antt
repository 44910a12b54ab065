-- No cycle is lost or counted twice: the ticks of a block's forms, with the cycles pending after
-- them, are the costs of its native records. A record that is left to the interpreter adds none.
use mathlib.Core.Path.{◌≡◌, refl, ap}
use Prim.Native.Nat.{ℕ, zero, suc, ◌+◌, ◌%◌, ◌^◌}
use package.native.Mathlib.Omega.{arith}
use mathlib.Core.Bool.{Bool, true, false}
use mathlib.Core.List.{List, [], ◌∷◌, ◌++◌}
use mathlib.Core.Option.{Option, none, some}
use lib.ListN.{take, drop}
use Rattle.armv4t.specs.declared.Op.{Op}
use Rattle.armv4t.specs.declared.Op.TheVariants.{Alu, Mul, MulLong, Swap, Bx, Branch, ThumbBlHigh}
use Rattle.armv4t.specs.declared.Op.TheVariants.{ThumbBlLow, Mem, BlockMem, Mrs, MsrReg, MsrImm}
use Rattle.armv4t.specs.declared.Op.TheVariants.{Swi, Undefined}
use Rattle.armv4t.specs.declared.Instr.{Instr}
use Rattle.armv4t.specs.Bit0.{clear_bit0}
use Rattle.armv4t.specs.Fused.{fuse}
use Rattle.file_instrs.specs.declared.decode.TimedInstr.{TimedInstr}
use Rattle.file_blocks.specs.Parse.{Block}
use Rattle.armv4t.specs.Cond.{is_al}
use Rattle.c_tree.specs.Stmt.{Plain, registers, local, declare, adds, set, discard, run, write}
use Rattle.c_tree.specs.Stmt.{tick}
use Rattle.lower_forms.specs.Forms.{Lines, straight, straight_if, branch_if, jump, pair, bx}
use Rattle.lower_forms.specs.Forms.{pop, Form, native, shell}
use Rattle.lower_forms.proofs.RecordCount.{record_count, instr_count_lem}
use Rattle.lower_forms.specs.InlineBody.{each_on_line, inline_body}
use Rattle.lower_forms.specs.Block.{flush_ticks, set_word, emit_pair, emit_branch, native_exit}
use Rattle.lower_forms.specs.Block.{is_pop, emit_lines, emit_straight, emit_op, emit_instr}
use Rattle.lower_forms.specs.Block.{emit_instrs, body_of, pc_line}
use Rattle.file_blocks.specs.Address.{region}
use Rattle.lower_forms.proofs.Every.{fused_or_lem}
use Rattle.base_lists.proofs.Bools.{either}

-- the cycles of a tick
abbrev pub plain_ticks : Plain → ℕ
plain_ticks registers = 0
plain_ticks (local x) = 0
plain_ticks (declare x e ds) = 0
plain_ticks (adds x d e f) = 0
plain_ticks (set p o e) = 0
plain_ticks (discard x) = 0
plain_ticks (run p e) = 0
plain_ticks (write w d e) = 0
plain_ticks (tick n) = n

-- of the ticks in a line
abbrev pub line_ticks : List Plain → ℕ
line_ticks [] = 0
line_ticks (p ∷ ps) = plain_ticks p + line_ticks ps

-- of the ticks in lines
abbrev pub lines_ticks : Lines → ℕ
lines_ticks [] = 0
lines_ticks (l ∷ ls) = line_ticks l + lines_ticks ls

-- of the ticks in the lines before a form
abbrev pub form_ticks : Form → ℕ
form_ticks (native (straight t l)) = lines_ticks t
form_ticks (native (straight_if t e l)) = lines_ticks t
form_ticks (native (branch_if t e s k)) = lines_ticks t
form_ticks (native (jump t k)) = lines_ticks t
form_ticks (native (pair t k)) = lines_ticks t
form_ticks (native (bx t e)) = lines_ticks t
form_ticks (native (pop t s l u e)) = lines_ticks t
form_ticks (shell h t k) = lines_ticks t

-- of the ticks before some forms
abbrev pub forms_ticks : List Form → ℕ
forms_ticks [] = 0
forms_ticks (r ∷ rs) = form_ticks r + forms_ticks rs

-- what a form adds of the cost of its records
abbrev pub own : Form → ℕ → ℕ
own (native r) cost = cost
own (shell h t k) cost = 0

-- the cost of instructions
abbrev pub costs : List TimedInstr → ℕ
costs [] = 0
costs (x ∷ xs) = x.cost + costs xs

-- the costs that some forms add, by the instructions that they stand for
abbrev pub charged : List Form → List TimedInstr → ℕ
charged [] xs = 0
charged (r ∷ rs) xs = own r (costs (take (record_count r) xs)) + charged rs (drop (record_count r) xs)

ticks_all : (n : ℕ) (ls : Lines) → lines_ticks (flush_ticks n ++ ls) ≡ n + lines_ticks ls
ticks_all zero ls = omega arith
ticks_all (suc n) ls = omega arith

ticks_alone : (n : ℕ) → lines_ticks (flush_ticks n) ≡ n
ticks_alone zero = refl
ticks_alone (suc n) = omega arith

-- a form for an instruction of some cost, with cycles pending before and after it
record Kept (cycles cost : ℕ) (s : Form × ℕ) : Type 0 where
  kept : form_ticks s.0 + s.1 ≡ cycles + own s.0 cost

lines_kept : (thumb touchesBus : Bool) (cycles : ℕ) (x : TimedInstr) (body : Option Lines)
    → Kept cycles x.cost (emit_lines thumb touchesBus cycles x body)
lines_kept thumb touchesBus cycles x none =
    record { kept = omega (arith, ticks_all cycles (pc_line x.instr.addr)) }
lines_kept thumb true cycles x (some body) =
    record {
      kept =
          either (λ r. form_ticks (native r) + (0 + x.cost) ≡ cycles + x.cost)
          (is_al x.instr.cond) (omega (arith, ticks_alone cycles))
          (omega (arith, ticks_alone cycles));
    }
lines_kept thumb false cycles x (some body) =
    record {
      kept =
          either (λ r. form_ticks (native r) + (cycles + x.cost) ≡ cycles + x.cost)
          (is_al x.instr.cond) (omega arith) (omega arith);
    }

straight_kept : (thumb touchesBus : Bool) (cycles : ℕ) (x : TimedInstr)
    → Kept cycles x.cost (emit_straight thumb touchesBus cycles x)
straight_kept thumb touchesBus cycles x =
    lines_kept thumb touchesBus cycles x (inline_body thumb x.instr)

branch_ticks : (thumb : Bool) (cycles : ℕ) (i : Instr) (link : Bool) (target : ℕ)
    → form_ticks (native (emit_branch thumb cycles i link target)) ≡ cycles
branch_ticks thumb cycles i true target =
    either (λ r. form_ticks (native r) ≡ cycles) (is_al i.cond)
    (omega (
      arith,
      ticks_all cycles
          (each_on_line (set_word 14 ((i.addr + 4) % 2 ^ 32) ∷ set_word 15 target ∷ [])),
    ))
    (ticks_alone cycles)
branch_ticks thumb cycles i false target =
    either (λ r. form_ticks (native r) ≡ cycles) (is_al i.cond)
    (omega (arith, ticks_all cycles (pc_line target))) (ticks_alone cycles)

op_kept : (thumb : Bool) (region cycles : ℕ) (x : TimedInstr) (o : Op)
    → Kept cycles x.cost (emit_op thumb region cycles x o)
op_kept thumb region cycles x (Alu op s rd rn op2) = straight_kept thumb false cycles x
op_kept thumb region cycles x (Mul acc s rd rn rs rm) = straight_kept thumb false cycles x
op_kept thumb region cycles x (MulLong signed acc s hi lo rs rm) =
    straight_kept thumb false cycles x
op_kept thumb region cycles x (Swap byte rd rm rn) = straight_kept thumb false cycles x
op_kept thumb region cycles x (Bx rm) =
    either (Kept cycles x.cost) (native_exit region x.instr)
    (record { kept = omega (arith, ticks_alone (cycles + x.cost)) })
    (straight_kept thumb false cycles x)
op_kept thumb region cycles x (Branch link target) =
    record { kept = omega (arith, branch_ticks thumb (cycles + x.cost) x.instr link target) }
op_kept thumb region cycles x (ThumbBlHigh lr) =
    record { kept = omega (arith, ticks_all cycles (pc_line x.instr.addr)) }
op_kept thumb region cycles x (ThumbBlLow off) = straight_kept thumb false cycles x
op_kept thumb region cycles x (Mem load width signed rd rn offset pre up writeback) =
    straight_kept thumb true cycles x
op_kept thumb region cycles x (BlockMem load rn rlist pre up s_bit writeback) =
    either (Kept cycles x.cost) (is_pop region x.instr load rn rlist pre up s_bit writeback)
    (record { kept = omega (arith, ticks_alone (cycles + x.cost)) })
    (straight_kept thumb true cycles x)
op_kept thumb region cycles x (Mrs spsr rd) = straight_kept thumb false cycles x
op_kept thumb region cycles x (MsrReg spsr fields rm) = straight_kept thumb false cycles x
op_kept thumb region cycles x (MsrImm spsr fields value) = straight_kept thumb false cycles x
op_kept thumb region cycles x (Swi imm) = straight_kept thumb false cycles x
op_kept thumb region cycles x (Undefined raw) = straight_kept thumb false cycles x

-- an instruction that is not fused
pub instr_cycles : (thumb : Bool) (region cycles : ℕ) (x : TimedInstr)
    → form_ticks (emit_instr thumb region cycles x).0 + (emit_instr thumb region cycles x).1
    ≡ cycles + own (emit_instr thumb region cycles x).0 x.cost
unfolding emit_instr
instr_cycles thumb region cycles x = (op_kept thumb region cycles x x.instr.op).kept

own_one : (r : Form) (n : ℕ) → own r (n + 0) ≡ own r n
own_one (native r) n = omega arith
own_one (shell h t k) n = refl

charged_one : (r : Form) (rs : List Form) (x : TimedInstr) (xs : List TimedInstr)
    → record_count r ≡ 1 → charged (r ∷ rs) (x ∷ xs) ≡ own r x.cost + charged rs xs
charged_one r rs x xs h = rw h (ap (λ n. n + charged rs xs) (own_one r x.cost))

pair_ticks : (cycles target ret : ℕ) → form_ticks (native (emit_pair cycles target ret)) ≡ cycles
pair_ticks cycles target ret =
    omega (
      arith,
      ticks_all cycles
          (each_on_line (set_word 14 ret ∷ set_word 15 (clear_bit0 target) ∷ [])),
    )

-- forms for some instructions, with cycles pending before and after them
record AllKept (cycles : ℕ) (xs : List TimedInstr) (rs : List Form × ℕ) : Type 0 where
  kept : forms_ticks rs.0 + rs.1 ≡ cycles + charged rs.0 xs

instrs_kept : (thumb : Bool) (region cycles : ℕ) (xs : List TimedInstr)
    → AllKept cycles xs (emit_instrs thumb region cycles xs)
unfolding emit_instrs
instrs_kept thumb region cycles [] = record { kept = omega arith }
instrs_kept thumb region cycles (x ∷ []) =
    let s : Form × ℕ = emit_instr thumb region cycles x in
    record {
      kept =
          omega (
            arith,
            instr_cycles thumb region cycles x,
            charged_one s.0 [] x []
                (instr_count_lem thumb region cycles x),
          );
    }
instrs_kept thumb region cycles (x ∷ y ∷ rest) =
    let s : Form × ℕ = emit_instr thumb region cycles x in
    let rs : List Form × ℕ = emit_instrs thumb region s.1 (y ∷ rest) in
    fused_or_lem (AllKept cycles (x ∷ y ∷ rest)) (fuse x.instr y.instr)
    (record {
      kept =
          omega (
            arith,
            instr_cycles thumb region cycles x,
            (instrs_kept thumb region s.1 (y ∷ rest)).kept,
            charged_one s.0 rs.0 x (y ∷ rest) (instr_count_lem thumb region cycles x),
          );
    })
    (λ t r. record {
      kept =
          omega (
            arith,
            pair_ticks (cycles + (x.cost + y.cost)) t r,
            (instrs_kept thumb region 0 rest
                ).kept,
          );
    })

-- the loop
pub instrs_cycles : (thumb : Bool) (region cycles : ℕ) (xs : List TimedInstr)
    → forms_ticks (emit_instrs thumb region cycles xs).0 + (emit_instrs thumb region cycles xs).1
    ≡ cycles + charged (emit_instrs thumb region cycles xs).0 xs
instrs_cycles thumb region cycles xs = (instrs_kept thumb region cycles xs).kept

-- the lines before a closing transfer have the ticks of what is pending
closing_ticks : (cycles a : ℕ) → lines_ticks (flush_ticks cycles ++ pc_line a) ≡ cycles
closing_ticks cycles a = omega (arith, ticks_all cycles (pc_line a))

-- a block: its ticks, those before its closing transfer included, are the costs of its native
-- records
pub body_cycles : (multiplier : ℕ) (b : Block) (a : ℕ)
    → forms_ticks (body_of multiplier b).forms + lines_ticks
    (flush_ticks (body_of multiplier b).pending ++ pc_line a)
    ≡ charged (body_of multiplier b).forms b.instrs
unfolding body_of
body_cycles multiplier b a =
    let rs : List Form × ℕ = emit_instrs b.thumb (region b.addr) 0 b.instrs in
    omega (
      arith,
      instrs_cycles b.thumb (region b.addr) 0 b.instrs,
      closing_ticks rs.1
          a,
    )
