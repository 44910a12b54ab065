-- How long the text of a form is at most, for every instruction: what varies in it; the fixed text
-- around it is the layout's.
use mathlib.Core.Path.{◌≡◌}
use Prim.Native.Nat.{ℕ, zero, suc, ◌+◌, ◌*◌, ◌%◌, ◌^◌, ◌≤◌}
use package.native.Mathlib.Omega.{arith}
use mathlib.Core.Bool.{Bool, true, false, not, cond, ◌&&◌, ◌||◌}
use mathlib.Core.List.{List, [], ◌∷◌, ◌++◌}
use mathlib.Core.Option.{Option, none, some}
use lib.Dec.{eqb}
use lib.ListN.{length, get_or}
use Rattle.base_text.proofs.Lengths.{most}
use Rattle.armv4t.specs.declared.Cond.{Cond}
use Rattle.armv4t.specs.declared.Cond.TheVariants.{Eq, Ne, Cs, Cc, Mi, Pl, Vs, Vc, Hi, Ls, Ge, Lt}
use Rattle.armv4t.specs.declared.Cond.TheVariants.{Gt, Le, Al, Nv}
use Rattle.armv4t.specs.declared.AluOp.{AluOp}
use Rattle.armv4t.specs.declared.AluOp.TheVariants.{And, Eor, Sub, Rsb, Add, Adc, Sbc, Rsc, Tst}
use Rattle.armv4t.specs.declared.AluOp.TheVariants.{Teq, Cmp, Cmn, Orr, Mov, Bic, Mvn}
use Rattle.armv4t.specs.declared.ShiftKind.{ShiftKind}
use Rattle.armv4t.specs.declared.ShiftKind.TheVariants.{Lsl, Lsr, Asr, Ror}
use Rattle.armv4t.specs.declared.Shift.{Shift}
use Rattle.armv4t.specs.declared.Operand2.{Operand2}
use Rattle.armv4t.specs.declared.MemWidth.{MemWidth}
use Rattle.armv4t.specs.declared.MemWidth.TheVariants.{Byte, Half, Word}
use Rattle.armv4t.specs.declared.MemOffset.{MemOffset}
use Rattle.armv4t.specs.declared.Op.{Op}
use Rattle.armv4t.specs.declared.Op.TheVariants.{Alu, Mul, MulLong, Swap, Bx, Branch, ThumbBlHigh}
use Rattle.armv4t.specs.declared.Op.TheVariants.{ThumbBlLow, Mem, BlockMem, Mrs, MsrReg, MsrImm}
use Rattle.armv4t.specs.declared.Op.TheVariants.{Swi, Undefined}
use Rattle.armv4t.specs.declared.Instr.{Instr}
use Rattle.armv4t.specs.AluOp.{is_compare}
use Rattle.armv4t.specs.Bit0.{clear_bit0}
use Rattle.file_instrs.specs.declared.decode.TimedInstr.{TimedInstr}
use Rattle.file_blocks.specs.Parse.{Block}
use Rattle.armv4t.specs.Cond.{is_al}
use Rattle.c_tree.specs.Expr.{x-ob, reg, udec, add, Expr, lit, get, bin}
use Rattle.c_tree.specs.Stmt.{Plain}
use Rattle.c_tree.specs.Preamble.{v32}
use Rattle.c_tree.specs.Print.{expr_text, plain_text}
use Rattle.lower_forms.specs.Forms.{Lines, Native, straight, straight_if, branch_if, jump, pair}
use Rattle.lower_forms.specs.Forms.{bx, pop, Form, native, shell}
use Rattle.lower_forms.specs.Operands.{cond_expr, reg_expr, shift_exprs, op2_exprs}
use Rattle.lower_forms.specs.InlineBody.{list_if, each_on_line, set_reg, result, logical, sum}
use Rattle.lower_forms.specs.InlineBody.{alu, alu_body, mul_body, mul_long_body, base_expr}
use Rattle.lower_forms.specs.InlineBody.{shifted_offset, offset_expr, loaded, stored, access}
use Rattle.lower_forms.specs.InlineBody.{mem_body, listed, loads, moved_base, start}
use Rattle.lower_forms.specs.InlineBody.{stores_moved, stored_reg, stores, loads_or_stores}
use Rattle.lower_forms.specs.InlineBody.{block_mem_body, op_body, inline_body}
use Rattle.armv4t.specs.RegisterList.{is_listed}
use Rattle.lower_forms.specs.Block.{flush_ticks, set_word, emit_shell, emit_pair, emit_pop}
use Rattle.lower_forms.specs.Block.{emit_branch, emit_lines, emit_straight, body_of, pc_line}
use Rattle.lower_forms.proofs.Every.{every_form}
use Rattle.base_lists.proofs.Each.{Each}
use Rattle.base_lists.proofs.Bools.{either}
use Rattle.lower_forms.proofs.Listed.{listed_same}
use Rattle.lower_forms.proofs.Listed as L

-- the statements of a line, with a `;` and a space each
abbrev pub plains_most : List Plain → ℕ
plains_most [] = 0
plains_most (p ∷ ps) = most (plain_text p) + 2 + plains_most ps

-- lines, with a line end and 8 spaces each
abbrev pub lines_most : Lines → ℕ
lines_most [] = 0
lines_most (l ∷ ls) = 9 + plains_most l + lines_most ls

-- all that a native form holds
abbrev pub native_most : Native → ℕ
native_most (straight t l) = lines_most t + lines_most l
native_most (straight_if t e l) = lines_most t + most (expr_text e) + lines_most l
native_most (branch_if t e s k) = lines_most t + most (expr_text e) + plains_most s
native_most (jump t k) = lines_most t
native_most (pair t k) = lines_most t
native_most (bx t e) = lines_most t + most (expr_text e)
native_most (pop t s l u e) =
    lines_most t + most (plain_text s) + lines_most l + most (plain_text u) + most (expr_text e)

-- all that a form holds
abbrev pub form_most : Form → ℕ
form_most (native r) = native_most r
form_most (shell h t k) = lines_most t

-- an expression of at most n bytes
record Short (n : ℕ) (e : Expr) : Type 0 where
  short : most (expr_text e) ≤ n

cond_short : (c : Cond) → Short 20 (cond_expr c)
cond_short Eq = record { short = omega arith }
cond_short Ne = record { short = omega arith }
cond_short Cs = record { short = omega arith }
cond_short Cc = record { short = omega arith }
cond_short Mi = record { short = omega arith }
cond_short Pl = record { short = omega arith }
cond_short Vs = record { short = omega arith }
cond_short Vc = record { short = omega arith }
cond_short Hi = record { short = omega arith }
cond_short Ls = record { short = omega arith }
cond_short Ge = record { short = omega arith }
cond_short Lt = record { short = omega arith }
cond_short Gt = record { short = omega arith }
cond_short Le = record { short = omega arith }
cond_short Al = record { short = omega arith }
cond_short Nv = record { short = omega arith }

reg_short : (i : Instr) (r : ℕ) → Short 23 (reg_expr i r)
reg_short i r =
    either (Short 23) (eqb r 15) (record { short = omega arith }) (record { short = omega arith })

abbrev MaybeShort : ℕ → Option Expr → Type 0
MaybeShort n none = Unit {0}
MaybeShort n (some e) = Short n e

abbrev MaybeShorts : Option (Expr × Option Expr) → Type 0
MaybeShorts none = Unit {0}
MaybeShorts (some p) = Short 170 p.0 × MaybeShort 170 p.1

shift_short : {e : Expr} (k : ShiftKind) (n : ℕ) → Short 23 e
    → Short 170 (shift_exprs e k n).0 × MaybeShort 170 (shift_exprs e k n).1
shift_short Lsl zero h = (record { short = omega (arith, h.short) }, tt)
shift_short Lsl (suc n) h =
    (record { short = omega (arith, h.short) }, record { short = omega (arith, h.short) })
shift_short Lsr zero h =
    (record { short = omega arith }, record { short = omega (arith, h.short) })
shift_short Lsr (suc n) h =
    (record { short = omega (arith, h.short) }, record { short = omega (arith, h.short) })
shift_short Asr zero h =
    (record { short = omega (arith, h.short) }, record { short = omega (arith, h.short) })
shift_short Asr (suc n) h =
    (record { short = omega (arith, h.short) }, record { short = omega (arith, h.short) })
shift_short Ror zero h =
    (record { short = omega (arith, h.short) }, record { short = omega (arith, h.short) })
shift_short Ror (suc n) h =
    (record { short = omega (arith, h.short) }, record { short = omega (arith, h.short) })

op2_short : (i : Instr) (o : Operand2) → MaybeShorts (op2_exprs i o)
op2_short i (Operand2.Imm value rot) = (
  record { short = omega arith },
  either (MaybeShort 170) (eqb rot 0) tt
      (record { short = omega arith }),
)
op2_short i (Operand2.Reg rm (Shift.Imm k n)) = shift_short k n (reg_short i rm)
op2_short i (Operand2.Reg rm (Shift.Reg k rs)) = tt

-- a statement of at most n bytes, lines of at most n bytes
record Brief (n : ℕ) (p : Plain) : Type 0 where
  brief : most (plain_text p) ≤ n

record Within (n : ℕ) (ls : Lines) : Type 0 where
  within : lines_most ls ≤ n

abbrev MaybeWithin : ℕ → Option Lines → Type 0
MaybeWithin n none = Unit {0}
MaybeWithin n (some ls) = Within n ls

result_brief : (op : AluOp) (rd : ℕ) → Brief 30 (result op rd)
result_brief op rd =
    either (Brief 30) (is_compare op) (record { brief = omega arith })
    (record { brief = omega arith })

logical_within : (op : AluOp) (s : Bool) (rd : ℕ) (carry : Option Expr) (e : Expr)
    → MaybeShort 170 carry → most (expr_text e) ≤ 220
    → Within 2100 (each_on_line (logical op s rd carry e))
logical_within op true rd none e k h =
    record { within = omega (arith, h, (result_brief op rd).brief) }
logical_within op true rd (some c) e k h =
    record { within = omega (arith, h, k.short, (result_brief op rd).brief) }
logical_within op false rd carry e k h =
    record { within = omega (arith, h, (result_brief op rd).brief) }

sum_within : (op : AluOp) (s : Bool) (rd : ℕ) (x y carry : Expr)
    → most (expr_text x) + most (expr_text y) + most (expr_text carry) ≤ 320
    → Within 2100 (each_on_line (sum op s rd x y carry))
sum_within op true rd x y carry h = record { within = omega (arith, h, (result_brief op rd).brief) }
sum_within op false rd x y carry h = record { within = omega (arith, h, (result_brief op rd).brief) }

alu_within : (op : AluOp) (s : Bool) (rd : ℕ) (a b : Expr) (carry : Option Expr) → Short 23 a
    → Short 170 b → MaybeShort 170 carry → Within 2100 (each_on_line (alu op s rd a b carry))
alu_within And s rd a b carry h k c =
    logical_within And s rd carry _ c (omega (arith, h.short, k.short))
alu_within Eor s rd a b carry h k c =
    logical_within Eor s rd carry _ c (omega (arith, h.short, k.short))
alu_within Sub s rd a b carry h k c = sum_within Sub s rd _ _ _ (omega (arith, h.short, k.short))
alu_within Rsb s rd a b carry h k c = sum_within Rsb s rd _ _ _ (omega (arith, h.short, k.short))
alu_within Add s rd a b carry h k c = sum_within Add s rd _ _ _ (omega (arith, h.short, k.short))
alu_within Adc s rd a b carry h k c = sum_within Adc s rd _ _ _ (omega (arith, h.short, k.short))
alu_within Sbc s rd a b carry h k c = sum_within Sbc s rd _ _ _ (omega (arith, h.short, k.short))
alu_within Rsc s rd a b carry h k c = sum_within Rsc s rd _ _ _ (omega (arith, h.short, k.short))
alu_within Tst s rd a b carry h k c =
    logical_within Tst s rd carry _ c (omega (arith, h.short, k.short))
alu_within Teq s rd a b carry h k c =
    logical_within Teq s rd carry _ c (omega (arith, h.short, k.short))
alu_within Cmp s rd a b carry h k c = sum_within Cmp s rd _ _ _ (omega (arith, h.short, k.short))
alu_within Cmn s rd a b carry h k c = sum_within Cmn s rd _ _ _ (omega (arith, h.short, k.short))
alu_within Orr s rd a b carry h k c =
    logical_within Orr s rd carry _ c (omega (arith, h.short, k.short))
alu_within Mov s rd a b carry h k c =
    logical_within Mov s rd carry _ c (omega (arith, h.short, k.short))
alu_within Bic s rd a b carry h k c =
    logical_within Bic s rd carry _ c (omega (arith, h.short, k.short))
alu_within Mvn s rd a b carry h k c =
    logical_within Mvn s rd carry _ c (omega (arith, h.short, k.short))

alu_body_lem : (op : AluOp) (s : Bool) (rd : ℕ) (a : Expr) (o : Option (Expr × Option Expr))
    → Short 23 a → MaybeShorts o → MaybeWithin 2100 (alu_body op s rd a o)
alu_body_lem op s rd a none h k = tt
alu_body_lem op s rd a (some b) h k = alu_within op s rd a b.0 b.1 h k.0 k.1

mul_within : (acc s : Bool) (rd rn rs rm : ℕ) → Within 2100 (each_on_line (mul_body acc s rd rn rs rm))
mul_within true true rd rn rs rm = record { within = omega arith }
mul_within true false rd rn rs rm = record { within = omega arith }
mul_within false true rd rn rs rm = record { within = omega arith }
mul_within false false rd rn rs rm = record { within = omega arith }

mul_long_within : (signed acc s : Bool) (hi lo rs rm : ℕ)
    → Within 2100 (each_on_line (mul_long_body signed acc s hi lo rs rm))
mul_long_within true true true hi lo rs rm = record { within = omega arith }
mul_long_within true true false hi lo rs rm = record { within = omega arith }
mul_long_within true false true hi lo rs rm = record { within = omega arith }
mul_long_within true false false hi lo rs rm = record { within = omega arith }
mul_long_within false true true hi lo rs rm = record { within = omega arith }
mul_long_within false true false hi lo rs rm = record { within = omega arith }
mul_long_within false false true hi lo rs rm = record { within = omega arith }
mul_long_within false false false hi lo rs rm = record { within = omega arith }

base_short : (thumb : Bool) (i : Instr) (rn : ℕ) → Short 23 (base_expr thumb i rn)
base_short thumb i rn =
    either (Short 23) (thumb && eqb rn 15) (record { short = omega arith }) (reg_short i rn)

shifted_short : {e : Expr} (k : ShiftKind) (n : ℕ) → Short 23 e
    → MaybeShort 170 (shifted_offset e k n)
shifted_short Lsl n h = (shift_short Lsl n h).0
shifted_short Lsr n h = (shift_short Lsr n h).0
shifted_short Asr n h = (shift_short Asr n h).0
shifted_short Ror zero h = tt
shifted_short Ror (suc n) h = (shift_short Ror (suc n) h).0

offset_short : (i : Instr) (o : MemOffset) → MaybeShort 170 (offset_expr i o)
offset_short i (MemOffset.Imm value) = record { short = omega arith }
offset_short i (MemOffset.Reg rm (Shift.Imm k n)) = shifted_short k n (reg_short i rm)
offset_short i (MemOffset.Reg rm (Shift.Reg k rs)) = tt

loaded_short : (w : MemWidth) (signed : Bool) → Short 200 (loaded w signed)
loaded_short Byte false = record { short = omega arith }
loaded_short Byte true = record { short = omega arith }
loaded_short Half false = record { short = omega arith }
loaded_short Half true = record { short = omega arith }
loaded_short Word signed = record { short = omega arith }

stored_brief : (w : MemWidth) (rd : ℕ) → Brief 100 (stored w (get (reg rd)))
stored_brief Byte rd = record { brief = omega arith }
stored_brief Half rd = record { brief = omega arith }
stored_brief Word rd = record { brief = omega arith }

list_if_within : (b : Bool) (p : Plain) (n : ℕ) → most (plain_text p) ≤ n
    → lines_most (each_on_line (list_if b p)) ≤ n + 11
list_if_within true p n h = omega (arith, h)
list_if_within false p n h = omega arith

lines_append : (ks ls : Lines) → lines_most (ks ++ ls) ≡ lines_most ks + lines_most ls
lines_append [] ls = omega arith
lines_append (k ∷ ks) ls = omega (arith, lines_append ks ls)

access_within : (load : Bool) (w : MemWidth) (signed : Bool) (rd rn : ℕ) (wb : Bool)
    → lines_most (each_on_line (access load w signed rd rn wb)) ≤ 350
access_within true w signed rd rn wb = go (wb && not (eqb rn rd) && not (eqb rn 15))
  where
    go : (b : Bool)
        → lines_most
        (each_on_line (list_if b (set_reg rn (v32 x-ob)) ++ (set_reg rd (loaded w signed) ∷ [])))
        ≤ 350
    go true = omega (arith, (loaded_short w signed).short)
    go false = omega (arith, (loaded_short w signed).short)
access_within false w signed rd rn wb =
    omega (
      arith,
      (stored_brief w rd).brief,
      list_if_within (wb && not (eqb rn 15))
          (set_reg rn (v32 x-ob)) 40 (omega arith),
    )

mem_within : (base : Expr) (up pre : Bool) (rest : List Plain) (off : Option Expr) → Short 23 base
    → lines_most (each_on_line rest) ≤ 350 → MaybeShort 170 off
    → MaybeWithin 2100 (mem_body base up pre rest off)
mem_within base up pre rest none h k o = tt
mem_within base true true rest (some off) h k o =
    record { within = omega (arith, h.short, k, o.short) }
mem_within base true false rest (some off) h k o =
    record { within = omega (arith, h.short, k, o.short) }
mem_within base false true rest (some off) h k o =
    record { within = omega (arith, h.short, k, o.short) }
mem_within base false false rest (some off) h k o =
    record { within = omega (arith, h.short, k, o.short) }

-- BlockMem: a line for each of at most 16 registers

listed_length : (rlist n : ℕ) → length (listed rlist n) ≤ n
listed_length rlist n = rw (listed_same rlist n) (L.listed_length rlist n)

loads_within : (rs : List ℕ) → lines_most (loads rs) ≤ length rs * 116
loads_within [] = omega arith
loads_within (r ∷ rs) = omega (arith, loads_within rs)

stores_within : (value : ℕ → Expr) → ((r : ℕ) → Short 28 (value r)) → (rs : List ℕ)
    → lines_most (stores value rs) ≤ length rs * 116
stores_within value h [] = omega arith
stores_within value h (r ∷ rs) = omega (arith, (h r).short, stores_within value h rs)

moved_short : (up : Bool) (total : ℕ) → Short 28 (moved_base up total)
moved_short true total = record { short = omega arith }
moved_short false total = record { short = omega arith }

start_short : (up pre : Bool) (total : ℕ) → Short 52 (start up pre total)
start_short true true total = record { short = omega arith }
start_short true false total = record { short = omega arith }
start_short false true total = record { short = omega arith }
start_short false false total = record { short = omega arith }

stored_reg_short : (i : Instr) (rn : ℕ) (writeback : Bool) (lowest : ℕ) (moved : Expr)
    → Short 28 moved → (r : ℕ) → Short 28 (stored_reg i rn writeback lowest moved r)
stored_reg_short i rn writeback lowest moved h r =
    either (Short 28) (eqb r 15) (record { short = omega arith })
    (either (Short 28) (eqb r rn)
    (either (Short 28) (stores_moved writeback lowest r) h (record { short = omega arith }))
    (record { short = omega arith }))

transfers_within : (load : Bool) (i : Instr) (rn : ℕ) (writeback inList : Bool) (moved : Expr)
    (regs : List ℕ) → Short 28 moved → length regs ≤ 16
    → lines_most (loads_or_stores load i rn writeback inList moved regs) ≤ 1930
transfers_within true i rn writeback inList moved regs h l =
    omega (
      arith,
      lines_append (each_on_line (list_if (writeback && not inList) (set_reg rn moved))) (loads regs),
      list_if_within (writeback && not inList) (set_reg rn moved) 60 (omega (arith, h.short)),
      loads_within regs,
      l,
    )
transfers_within false i rn writeback inList moved regs h l =
    omega (
      arith,
      lines_append (stores (stored_reg i rn writeback (get_or regs 0 16) moved) regs)
          (each_on_line (list_if writeback (set_reg rn moved))),
      list_if_within writeback (set_reg rn moved) 60 (omega (arith, h.short)),
      stores_within (stored_reg i rn writeback (get_or regs 0 16) moved)
          (stored_reg_short i rn writeback (get_or regs 0 16) moved h) regs,
      l,
    )

block_mem_within : (i : Instr) (load : Bool) (rn : ℕ) (inList pre up writeback : Bool)
    (regs : List ℕ) → length regs ≤ 16
    → Within 2100 (block_mem_body i load rn inList pre up writeback regs)
block_mem_within i load rn inList pre up writeback regs l =
    let total : ℕ = length regs * 4 in
    record {
      within =
          omega (
            arith,
            (start_short up pre total).short,
            transfers_within load i rn writeback inList (moved_base up total) regs
                (moved_short up total) l,
          );
    }

-- inline_body, for every instruction

op_within : (thumb : Bool) (i : Instr) (o : Op) → MaybeWithin 2100 (op_body thumb i o)
op_within thumb i (Alu op s rd rn op2) =
    either (MaybeWithin 2100) (eqb rd 15) tt
    (alu_body_lem op s rd (reg_expr i rn) (op2_exprs i op2) (reg_short i rn) (op2_short i op2))
op_within thumb i (Mul acc s rd rn rs rm) =
    either (MaybeWithin 2100) (eqb rd 15) tt (mul_within acc s rd rn rs rm)
op_within thumb i (MulLong signed acc s hi lo rs rm) = mul_long_within signed acc s hi lo rs rm
op_within thumb i (Swap byte rd rm rn) = tt
op_within thumb i (Bx rm) = tt
op_within thumb i (Branch link target) = tt
op_within thumb i (ThumbBlHigh lr) = tt
op_within thumb i (ThumbBlLow off) = tt
op_within thumb i (Mem load width signed rd rn offset pre up writeback) =
    either (MaybeWithin 2100) (eqb rd 15) tt
    (mem_within (base_expr thumb i rn) up pre (access load width signed rd rn (not pre || writeback))
    (offset_expr i offset) (base_short thumb i rn)
    (access_within load width signed rd rn (not pre || writeback)) (offset_short i offset))
op_within thumb i (BlockMem load rn rlist pre up s_bit writeback) =
    either (MaybeWithin 2100) (s_bit || eqb rlist 0 || eqb rn 15 || (load && is_listed rlist 15)) tt
    (block_mem_within i load rn (is_listed rlist rn) pre up writeback (listed rlist 16)
    (listed_length rlist 16))
op_within thumb i (Mrs spsr rd) = tt
op_within thumb i (MsrReg spsr fields rm) = tt
op_within thumb i (MsrImm spsr fields value) = tt
op_within thumb i (Swi imm) = tt
op_within thumb i (Undefined raw) = tt

-- emit_block's loop

ticks_within : (n : ℕ) → lines_most (flush_ticks n) ≤ 44
ticks_within zero = omega arith
ticks_within (suc n) = omega arith

shell_fits : (thumb high : Bool) (cycles : ℕ) (i : Instr)
    → form_most (emit_shell thumb high cycles i) ≤ 2200
shell_fits thumb high cycles i =
    omega (arith, lines_append (flush_ticks cycles) (pc_line i.addr), ticks_within cycles)

lines_fits : (thumb touchesBus : Bool) (cycles : ℕ) (x : TimedInstr) (body : Option Lines)
    → MaybeWithin 2100 body → form_most (emit_lines thumb touchesBus cycles x body).0 ≤ 2200
lines_fits thumb touchesBus cycles x none h = shell_fits thumb false cycles x.instr
lines_fits thumb touchesBus cycles x (some body) h =
    let t : Within 44 (cond touchesBus (flush_ticks cycles) []) =
    either (Within 44) touchesBus (record { within = ticks_within cycles })
    (record { within = omega arith }) in
    either (λ r. native_most r ≤ 2200) (is_al x.instr.cond) (omega (arith, t.within, h.within))
    (omega (arith, t.within, (cond_short x.instr.cond).short, h.within))

straight_fits : (thumb touchesBus : Bool) (cycles : ℕ) (x : TimedInstr)
    → form_most (emit_straight thumb touchesBus cycles x).0 ≤ 2200
unfolding inline_body
straight_fits thumb touchesBus cycles x =
    lines_fits thumb touchesBus cycles x (inline_body thumb x.instr)
    (op_within thumb x.instr x.instr.op)

branch_fits : (thumb : Bool) (cycles : ℕ) (i : Instr) (link : Bool) (target : ℕ)
    → native_most (emit_branch thumb cycles i link target) ≤ 2200
branch_fits thumb cycles i true target =
    either (λ r. native_most r ≤ 2200) (is_al i.cond)
    (omega (
      arith,
      lines_append (flush_ticks cycles)
          (each_on_line (set_word 14 ((i.addr + 4) % 2 ^ 32) ∷ set_word 15 target ∷ [])),
      ticks_within
          cycles,
    ))
    (omega (arith, ticks_within cycles, (cond_short i.cond).short))
branch_fits thumb cycles i false target =
    either (λ r. native_most r ≤ 2200) (is_al i.cond)
    (omega (arith, lines_append (flush_ticks cycles) (pc_line target), ticks_within cycles))
    (omega (arith, ticks_within cycles, (cond_short i.cond).short))

pop_fits : (thumb : Bool) (cycles rn : ℕ) (regs : List ℕ) → length regs ≤ 15
    → native_most (emit_pop thumb cycles rn regs) ≤ 2200
pop_fits thumb cycles rn regs l =
    omega (
      arith,
      ticks_within cycles,
      loads_within regs,
      l,
      lines_append (loads regs)
          (each_on_line (set_reg rn (bin add (get (reg rn)) (lit udec ((length regs + 1) * 4))) ∷ [])),
    )

bx_fits : (cycles : ℕ) (i : Instr) (rm : ℕ)
    → native_most (bx (flush_ticks cycles) (reg_expr i rm)) ≤ 2200
bx_fits cycles i rm = omega (arith, ticks_within cycles, (reg_short i rm).short)

pair_fits : (cycles target ret : ℕ) → native_most (emit_pair cycles target ret) ≤ 2200
pair_fits cycles target ret =
    omega (
      arith,
      lines_append (flush_ticks cycles)
          (each_on_line (set_word 14 ret ∷ set_word 15 (clear_bit0 target) ∷ [])),
      ticks_within cycles,
    )

-- the lines before a closing transfer hold at most 100
pub closing_within : (cycles a : ℕ) → lines_most (flush_ticks cycles ++ pc_line a) ≤ 100
closing_within cycles a =
    omega (arith, lines_append (flush_ticks cycles) (pc_line a), ticks_within cycles)

-- each form of a block holds at most 2,200 bytes
pub forms_within : (multiplier : ℕ) (b : Block)
    → Each (λ r. form_most r ≤ 2200) (body_of multiplier b).forms
forms_within =
    every_form (λ r. form_most r ≤ 2200) shell_fits straight_fits branch_fits bx_fits
    (λ thumb cycles rn rlist. pop_fits thumb cycles rn (listed rlist 15) (listed_length rlist 15))
    pair_fits
