-- To be believed: a block's instructions as forms of text: emit_block's loop, with the cycles
-- pending.
use Rattle.std.specs.Prelude.{ℕ, zero, suc, ◌+◌, ◌*◌, ◌%◌, ◌^◌, Bool, true, false, not, cond, ◌&&◌, List, [], ◌∷◌, ◌++◌, eqb, length, Some, None}
use Rattle.std.proofs.Math.Option.{Option, none, some, map}
use Rattle.armv4t.specs.declared.Op.{Op}
use Rattle.armv4t.specs.declared.Op.TheVariants.{Alu, Mul, MulLong, Swap, Bx, Branch, ThumbBlHigh}
use Rattle.armv4t.specs.declared.Op.TheVariants.{ThumbBlLow, Mem, BlockMem, Mrs, MsrReg, MsrImm}
use Rattle.armv4t.specs.declared.Op.TheVariants.{Swi, Undefined}
use Rattle.armv4t.specs.declared.Instr.{Instr}
use Rattle.armv4t.specs.Bit0.{clear_bit0, set_bit0}
use Rattle.armv4t.specs.Fused.{Fused, fuse}
use Rattle.file_instrs.specs.declared.decode.TimedInstr.{TimedInstr}
use Rattle.file_blocks.specs.Parse.{Block}
use Rattle.file_blocks.specs.Address.{region, key_of, fall_through}
use Rattle.armv4t.specs.Cond.{is_al}
use Rattle.c_tree.specs.Expr.{word, udec, x-addr, reg, compl, add, band, bor, w32, lit, get, un}
use Rattle.c_tree.specs.Expr.{bin, read}
use Rattle.c_tree.specs.Stmt.{Plain, tick}
use Rattle.lower_forms.specs.Forms.{Lines, Native, straight, straight_if, branch_if, jump, pair}
use Rattle.lower_forms.specs.Forms.{bx, pop, Form, native, shell, Body}
use Rattle.lower_forms.specs.Operands.{cond_expr, reg_expr}
use Rattle.lower_forms.specs.InlineBody.{list_if, each_on_line, let32, set_reg, aligned, listed}
use Rattle.lower_forms.specs.InlineBody.{loads, inline_body}
use Rattle.armv4t.specs.RegisterList.{is_listed}
use Rattle.base_hash.specs.Fnv.{fnv64}

-- flush_ticks: a line for the cycles pending, if there are any
abbrev pub flush_ticks : ℕ → Lines
flush_ticks zero = []
flush_ticks (suc n) = (tick (suc n) ∷ []) ∷ []

-- c[r] = 0x{:08x}u;
abbrev pub set_word : ℕ → ℕ → Plain
set_word r n = set_reg r (lit word n)

-- c[15] = 0x{:08x}u; in a line of its own
abbrev pub pc_line : ℕ → Lines
pc_line a = each_on_line (set_word 15 a ∷ [])

-- emit_shell: high if it is for an unfused ThumbBlHigh
abbrev pub emit_shell : Bool → Bool → ℕ → Instr → Form
emit_shell thumb high cycles i =
    shell high (flush_ticks cycles ++ pc_line i.addr) (fall_through thumb i)

-- a fused pair to a target; the cycles are those pending with its own
abbrev pub emit_pair : ℕ → ℕ → ℕ → Native
emit_pair cycles target ret =
    pair (flush_ticks cycles ++ each_on_line (set_word 14 ret ∷ set_word 15 (clear_bit0 target) ∷ []))
    (set_bit0 target)

-- the registers that a branch sets
abbrev pub branch_regs : Bool → ℕ → ℕ → List Plain
branch_regs link ret target = list_if link (set_word 14 ret) ++ (set_word 15 target ∷ [])

-- Branch, the cycles being those pending with its own: the registers and the transfer to the
-- target's key, under its condition unless that is Al
abbrev pub emit_branch : Bool → ℕ → Instr → Bool → ℕ → Native
emit_branch thumb cycles i link target =
    let regs : List Plain = branch_regs link ((i.addr + 4) % 2 ^ 32) target in
    cond (is_al i.cond)
    (jump (flush_ticks cycles ++ each_on_line regs) (key_of target thumb))
    (branch_if (flush_ticks cycles) (cond_expr i.cond) regs (key_of target thumb))

-- whether an indirect exit, Bx or pop of PC, is native: condition Al, outside region 0
abbrev pub native_exit : ℕ → Instr → Bool
native_exit region i = is_al i.cond && not (eqb region 0)

-- whether a BlockMem is a native pop of PC
abbrev pub is_pop : ℕ → Instr → Bool → ℕ → ℕ → Bool → Bool → Bool → Bool → Bool
is_pop region i load rn rlist pre up s_bit writeback =
    load && not pre && up && not s_bit && writeback && is_listed rlist 15 && not (eqb rn 15)
    && native_exit region i

-- a pop of PC, the cycles being those pending with its own: the loads of the other registers, the
-- base, PC, and the return of the key
abbrev pub emit_pop : Bool → ℕ → ℕ → List ℕ → Native
emit_pop thumb cycles rn regs =
    pop (flush_ticks cycles) (let32 x-addr (get (reg rn)))
    (loads regs
    ++ each_on_line (set_reg rn (bin add (get (reg rn)) (lit udec ((length regs + 1) * 4))) ∷ []))
    (set_reg 15 (bin band (read w32 (aligned 3)) (un compl (lit udec (cond thumb 1 3)))))
    (bin bor (get (reg 15)) (lit udec (cond thumb 1 0)))

-- an instruction with the lines that it is lowered to, or none, and the cycles pending after it;
-- touchesBus: it touches memory, so what is pending is flushed before its own cost is added
abbrev pub emit_lines : Bool → Bool → ℕ → TimedInstr → Option Lines → Form × ℕ
emit_lines thumb touchesBus cycles x none = (emit_shell thumb false cycles x.instr, 0)
emit_lines thumb touchesBus cycles x (some body) =
    let ticks : Lines = cond touchesBus (flush_ticks cycles) [] in (
      native (cond (is_al x.instr.cond) (straight ticks body)
          (straight_if ticks (cond_expr x.instr.cond) body)),
      cond touchesBus 0 cycles + x.cost,
    )

-- a straight-line instruction: inlined, or for the interpreter
abbrev pub emit_straight : Bool → Bool → ℕ → TimedInstr → Form × ℕ
emit_straight thumb touchesBus cycles x =
    emit_lines thumb touchesBus cycles x (inline_body thumb x.instr)

-- an instruction that is not fused, by its operation, and the cycles pending after it
abbrev pub emit_op : Bool → ℕ → ℕ → TimedInstr → Op → Form × ℕ
emit_op thumb region cycles x (Alu op s rd rn op2) = emit_straight thumb false cycles x
emit_op thumb region cycles x (Mul acc s rd rn rs rm) = emit_straight thumb false cycles x
emit_op thumb region cycles x (MulLong signed acc s hi lo rs rm) = emit_straight thumb false cycles x
emit_op thumb region cycles x (Swap byte rd rm rn) = emit_straight thumb false cycles x
emit_op thumb region cycles x (Bx rm) =
    cond (native_exit region x.instr)
    (native (bx (flush_ticks (cycles + x.cost)) (reg_expr x.instr rm)), 0)
    (emit_straight thumb false cycles x)
emit_op thumb region cycles x (Branch link target) =
    (native (emit_branch thumb (cycles + x.cost) x.instr link target), 0)
emit_op thumb region cycles x (ThumbBlHigh lr) = (emit_shell thumb true cycles x.instr, 0)
emit_op thumb region cycles x (ThumbBlLow off) = emit_straight thumb false cycles x
emit_op thumb region cycles x (Mem load width signed rd rn offset pre up writeback) =
    emit_straight thumb true cycles x
emit_op thumb region cycles x (BlockMem load rn rlist pre up s_bit writeback) =
    cond (is_pop region x.instr load rn rlist pre up s_bit writeback)
    (native (emit_pop thumb (cycles + x.cost) rn (listed rlist 15)), 0)
    (emit_straight thumb true cycles x)
emit_op thumb region cycles x (Mrs spsr rd) = emit_straight thumb false cycles x
emit_op thumb region cycles x (MsrReg spsr fields rm) = emit_straight thumb false cycles x
emit_op thumb region cycles x (MsrImm spsr fields value) = emit_straight thumb false cycles x
emit_op thumb region cycles x (Swi imm) = emit_straight thumb false cycles x
emit_op thumb region cycles x (Undefined raw) = emit_straight thumb false cycles x

-- an instruction that is not fused
unfoldable pub emit_instr : Bool → ℕ → ℕ → TimedInstr → Form × ℕ
emit_instr thumb region cycles x = emit_op thumb region cycles x x.instr.op

-- `unfused` where nothing fused, else f of target and return address
abbrev pub fused_or : {A : Type 0} → Fused → A → (ℕ → ℕ → A) → A
fused_or None unfused f = unfused
fused_or (Some (target, ret)) unfused f = f target ret

-- a form before those of the instructions after, and the cycles pending after them
abbrev pub cons_form : Form → List Form × ℕ → List Form × ℕ
cons_form r rs = (r ∷ rs.0, rs.1)

-- the loop: the forms of instructions, with cycles pending before them, and the cycles pending
-- after them
unfoldable pub emit_instrs : Bool → ℕ → ℕ → List TimedInstr → List Form × ℕ
emit_instrs thumb region cycles [] = ([], cycles)
emit_instrs thumb region cycles (x ∷ []) =
    let s : Form × ℕ = emit_instr thumb region cycles x in cons_form s.0 ([], s.1)
emit_instrs thumb region cycles (x ∷ y ∷ rest) =
    let s : Form × ℕ = emit_instr thumb region cycles x in
    let two : List Form × ℕ = cons_form s.0 (emit_instrs thumb region s.1 (y ∷ rest)) in
    fused_or (fuse x.instr y.instr) two
    (λ target ret.
    cons_form (native (emit_pair (cycles + (x.cost + y.cost)) target ret))
    (emit_instrs thumb region 0 rest))

-- the hash of a block's code bytes, or their absence
abbrev pub hash_of : ℕ → Block → Option ℕ
hash_of multiplier b = map (fnv64 multiplier) b.code

-- a block as it is printed
unfoldable pub body_of : ℕ → Block → Body
body_of multiplier b =
    let forms : List Form × ℕ = emit_instrs b.thumb (region b.addr) 0 b.instrs in
    record {
      addr = b.addr;
      thumb = b.thumb;
      count = length b.instrs;
      hash = hash_of multiplier b;
      forms = forms.0;
      pending = forms.1;
    }
