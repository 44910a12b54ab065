-- What body_of makes binds as C's grammar asks, for every block: so does all code that is put
-- together from it.
use mathlib.Core.Path.{◌≡◌, refl}
use Prim.Native.Nat.{ℕ, zero, suc, ◌+◌, ◌*◌, ◌%◌, ◌^◌}
use mathlib.Core.Bool.{Bool, true, false, not, cond, ◌&&◌, ◌||◌}
use mathlib.Core.List.{List, [], ◌∷◌, ◌++◌}
use mathlib.Core.Option.{Option, none, some}
use lib.Dec.{eqb, leb}
use lib.ListN.{length, get_or}
use Rattle.armv4t.specs.declared.Cond.{Cond}
use Rattle.armv4t.specs.declared.Cond.TheVariants.{Eq, Ne, Cs, Cc, Mi, Pl, Vs, Vc, Hi, Ls, Ge, Lt}
use Rattle.armv4t.specs.declared.Cond.TheVariants.{Gt, Le, Al, Nv}
use Rattle.armv4t.specs.declared.AluOp.{AluOp}
use Rattle.armv4t.specs.declared.AluOp.TheVariants.{And, Eor, Sub, Rsb, Add, Adc, Sbc, Rsc, Tst}
use Rattle.armv4t.specs.declared.AluOp.TheVariants.{Teq, Cmp, Cmn, Orr, Mov, Bic, Mvn}
use Rattle.armv4t.specs.declared.ShiftKind.{ShiftKind}
use Rattle.armv4t.specs.declared.ShiftKind.TheVariants.{Lsl, Lsr, Asr, Ror}
use Rattle.armv4t.specs.declared.Shift.{Shift}
use Rattle.armv4t.specs.declared.Operand2.{Operand2}
use Rattle.armv4t.specs.declared.MemWidth.{MemWidth}
use Rattle.armv4t.specs.declared.MemWidth.TheVariants.{Byte, Half, Word}
use Rattle.armv4t.specs.declared.MemOffset.{MemOffset}
use Rattle.armv4t.specs.declared.Op.{Op}
use Rattle.armv4t.specs.declared.Op.TheVariants.{Alu, Mul, MulLong, Swap, Bx, Branch, ThumbBlHigh}
use Rattle.armv4t.specs.declared.Op.TheVariants.{ThumbBlLow, Mem, BlockMem, Mrs, MsrReg, MsrImm}
use Rattle.armv4t.specs.declared.Op.TheVariants.{Swi, Undefined}
use Rattle.armv4t.specs.declared.Instr.{Instr}
use Rattle.armv4t.specs.AluOp.{is_compare}
use Rattle.armv4t.specs.Bit0.{clear_bit0}
use Rattle.file_instrs.specs.declared.decode.TimedInstr.{TimedInstr}
use Rattle.file_blocks.specs.Parse.{Block}
use Rattle.armv4t.specs.Cond.{is_al}
use Rattle.c_tree.specs.Expr.{Name, x-r, x-base, x-ob, x-addr, Place, reg, udec, Bin, operator, add}
use Rattle.c_tree.specs.Expr.{band, bxor, bor, Expr, lit, get, bin, un, compl}
use Rattle.c_tree.specs.Stmt.{Plain}
use Rattle.c_tree.specs.Preamble.{v32}
use Rattle.base_lists.proofs.Bools.{left_true as left, right_true as right, both_true as both}
use Rattle.base_lists.proofs.Bools.{either}
use Rattle.c_tree.specs.Binds.{level, binds, declarators_bind, plain_binds}
use Rattle.lower_forms.specs.Forms.{Lines, Native, straight, straight_if, branch_if, jump, pair}
use Rattle.lower_forms.specs.Forms.{bx, pop, Form, native, shell}
use Rattle.lower_forms.specs.Operands.{cond_expr, reg_expr, carry_in, shift_exprs, op2_exprs}
use Rattle.lower_forms.specs.InlineBody.{list_if, each_on_line, let32, set_reg, result}
use Rattle.lower_forms.specs.InlineBody.{logical, sum, alu, alu_body, mul_body, mul_long_body}
use Rattle.lower_forms.specs.InlineBody.{base_expr, shifted_offset, offset_expr, add_or_sub}
use Rattle.lower_forms.specs.InlineBody.{loaded, stored, access, mem_body, listed, loads}
use Rattle.lower_forms.specs.InlineBody.{moved_base, start, stores_moved, stored_reg, stores}
use Rattle.lower_forms.specs.InlineBody.{loads_or_stores, block_mem_body, op_body, inline_body}
use Rattle.armv4t.specs.RegisterList.{is_listed}
use Rattle.lower_forms.specs.Block.{flush_ticks, set_word, emit_shell, emit_pair, emit_pop}
use Rattle.lower_forms.specs.Block.{emit_branch, emit_lines, emit_straight, body_of, pc_line}
use Rattle.lower_forms.proofs.Every.{every_form}
use Rattle.base_lists.proofs.Each.{Each}

-- statements of one line
abbrev pub plains_bind : List Plain → Bool
plains_bind [] = true
plains_bind (p ∷ ps) = plain_binds false p && plains_bind ps

-- lines
abbrev pub lines_bind : Lines → Bool
lines_bind [] = true
lines_bind (l ∷ ls) = plains_bind l && lines_bind ls

-- all that a native form holds
abbrev pub native_binds : Native → Bool
native_binds (straight t l) = lines_bind t && lines_bind l
native_binds (straight_if t e l) = lines_bind t && binds false e && lines_bind l
native_binds (branch_if t e s k) = lines_bind t && binds false e && plains_bind s
native_binds (jump t k) = lines_bind t
native_binds (pair t k) = lines_bind t
native_binds (bx t e) = lines_bind t && binds false e
native_binds (pop t s l u e) =
    lines_bind t && plain_binds false s && lines_bind l && plain_binds false u && binds false e

-- all that a form holds
abbrev pub form_binds : Form → Bool
form_binds (native r) = native_binds r
form_binds (shell h t k) = lines_bind t

-- an operand: it binds as a primary expression, so that it may stand beside any operator
record Operand (e : Expr) : Type 0 where
  primary : level e ≡ 14
  whole : binds false e ≡ true

-- statements, lines, and lines or none, that bind
record Plains (ps : List Plain) : Type 0 where
  plains : plains_bind ps ≡ true

record Bound (ls : Lines) : Type 0 where
  lines : lines_bind ls ≡ true

abbrev MaybeBound : Option Lines → Type 0
MaybeBound none = Unit {0}
MaybeBound (some ls) = Bound ls

-- an operand or none, and its carry or none
abbrev MaybeOperand : Option Expr → Type 0
MaybeOperand none = Unit {0}
MaybeOperand (some e) = Operand e

abbrev MaybeOperands : Option (Expr × Option Expr) → Type 0
MaybeOperands none = Unit {0}
MaybeOperands (some p) = Operand p.0 × MaybeOperand p.1

bin_binds : (o : Bin) {d e : Expr} → leb (operator o).1 14 ≡ true
    → leb (suc (operator o).1) 14 ≡ true → Operand d → Operand e → binds false (bin o d e) ≡ true
unfolding binds
bin_binds o p q h k = rw (h.primary, h.whole, k.primary, k.whole, p, q)

un_binds : {e : Expr} → Operand e → binds false (un compl e) ≡ true
unfolding binds
un_binds h = rw (h.primary, h.whole)

get_binds : (p : Place) → binds false (get p) ≡ true
unfolding binds
get_binds p = refl

-- conditions and operands

cond_binds : (c : Cond) → binds false (cond_expr c) ≡ true
unfolding level binds
cond_binds Eq = refl
cond_binds Ne = refl
cond_binds Cs = refl
cond_binds Cc = refl
cond_binds Mi = refl
cond_binds Pl = refl
cond_binds Vs = refl
cond_binds Vc = refl
cond_binds Hi = refl
cond_binds Ls = refl
cond_binds Ge = refl
cond_binds Lt = refl
cond_binds Gt = refl
cond_binds Le = refl
cond_binds Al = refl
cond_binds Nv = refl

reg_operand : (i : Instr) (r : ℕ) → Operand (reg_expr i r)
unfolding level binds
reg_operand i r =
    either Operand (eqb r 15) (record { primary = refl; whole = refl })
    (record { primary = refl; whole = refl })

shift_operands : {e : Expr} (k : ShiftKind) (n : ℕ) → Operand e
    → Operand (shift_exprs e k n).0 × MaybeOperand (shift_exprs e k n).1
unfolding level binds
shift_operands Lsl zero h = (h, tt)
shift_operands Lsl (suc n) h = (
  record { primary = refl; whole = rw (h.primary, h.whole) },
  record
      { primary = refl; whole = rw (h.primary, h.whole) },
)
shift_operands Lsr zero h = (
  record { primary = refl; whole = refl },
  record
      { primary = refl; whole = rw (h.primary, h.whole) },
)
shift_operands Lsr (suc n) h = (
  record { primary = refl; whole = rw (h.primary, h.whole) },
  record
      { primary = refl; whole = rw (h.primary, h.whole) },
)
shift_operands Asr zero h = (
  record { primary = refl; whole = rw (h.primary, h.whole) },
  record
      { primary = refl; whole = rw (h.primary, h.whole) },
)
shift_operands Asr (suc n) h = (
  record { primary = refl; whole = rw (h.primary, h.whole) },
  record
      { primary = refl; whole = rw (h.primary, h.whole) },
)
shift_operands Ror zero h = (
  record { primary = refl; whole = rw (h.primary, h.whole) },
  record
      { primary = refl; whole = rw (h.primary, h.whole) },
)
shift_operands Ror (suc n) h = (
  record { primary = refl; whole = rw h.whole },
  record
      { primary = refl; whole = rw (h.primary, h.whole) },
)

op2_operands : (i : Instr) (o : Operand2) → MaybeOperands (op2_exprs i o)
unfolding level binds
op2_operands i (Operand2.Imm value rot) = (
  record { primary = refl; whole = refl },
  either MaybeOperand (eqb rot 0) tt
      (record { primary = refl; whole = refl }),
)
op2_operands i (Operand2.Reg rm (Shift.Imm k n)) = shift_operands k n (reg_operand i rm)
op2_operands i (Operand2.Reg rm (Shift.Reg k rs)) = tt

-- names of statements and lines

plains_append : {ps qs : List Plain} → Plains ps → Plains qs → Plains (ps ++ qs)
plains_append {ps} {qs} h k = record { plains = go ps h.plains }
  where
    go : (ps : List Plain) → plains_bind ps ≡ true → plains_bind (ps ++ qs) ≡ true
    go [] h = k.plains
    go (p ∷ ps) h =
        both _ _ (left (plain_binds false p) (plains_bind ps) h)
        (go ps (right (plain_binds false p) (plains_bind ps) h))

lines_append : {ks ls : Lines} → Bound ks → Bound ls → Bound (ks ++ ls)
lines_append {ks} {ls} h k = record { lines = go ks h.lines }
  where
    go : (ks : Lines) → lines_bind ks ≡ true → lines_bind (ks ++ ls) ≡ true
    go [] h = k.lines
    go (l ∷ ks) h =
        both _ _ (left (plains_bind l) (lines_bind ks) h)
        (go ks (right (plains_bind l) (lines_bind ks) h))

each_on_line_bound : {ps : List Plain} → Plains ps → Bound (each_on_line ps)
each_on_line_bound {ps} h = record { lines = go ps h.plains }
  where
    go : (ps : List Plain) → plains_bind ps ≡ true → lines_bind (each_on_line ps) ≡ true
    go [] h = refl
    go (p ∷ ps) h =
        both _ _ (both _ _ (left (plain_binds false p) (plains_bind ps) h) refl)
        (go ps (right (plain_binds false p) (plains_bind ps) h))

one : {p : Plain} → plain_binds false p ≡ true → Plains (p ∷ [])
one h = record { plains = both _ _ h refl }

infixr 60 ◌◂◌
◌◂◌ : {p : Plain} {ps : List Plain} → plain_binds false p ≡ true → Plains ps → Plains (p ∷ ps)
h ◂ k = record { plains = both _ _ h k.plains }

let_binds : (x : Name) (e : Expr) → binds false e ≡ true → plain_binds false (let32 x e) ≡ true
unfolding declarators_bind plain_binds
let_binds x e h = both (binds false e) true h refl

list_if_plains : (b : Bool) (p : Plain) → plain_binds false p ≡ true → Plains (list_if b p)
list_if_plains true p h = one h
list_if_plains false p h = record { plains = refl }

-- Alu

result_binds : (op : AluOp) (rd : ℕ) → plain_binds false (result op rd) ≡ true
unfolding binds plain_binds
result_binds op rd = either (λ p. plain_binds false p ≡ true) (is_compare op) refl refl

logical_plains : (op : AluOp) (s : Bool) (rd : ℕ) (carry : Option Expr) (e : Expr)
    → MaybeOperand carry → binds false e ≡ true → Plains (logical op s rd carry e)
unfolding binds plain_binds
logical_plains op true rd none e k h = let_binds x-r e h ◂ refl ◂ one (result_binds op rd)
logical_plains op true rd (some c) e k h =
    let_binds x-r e h ◂ refl ◂ k.whole ◂ one (result_binds op rd)
logical_plains op false rd carry e k h = let_binds x-r e h ◂ one (result_binds op rd)

-- the first term of a sum is an operand, the second may have a ~ before it
sum_plains : (op : AluOp) (s : Bool) (rd : ℕ) {x : Expr} (y : Expr) {carry : Expr} → Operand x
    → leb 12 (level y) ≡ true → binds false y ≡ true → Operand carry
    → Plains (sum op s rd x y carry)
unfolding level binds declarators_bind plain_binds
sum_plains op true rd {x} y {carry} h l k d =
    both (binds false x && binds false y) (binds false carry) (both _ _ h.whole k) d.whole ◂
    one (result_binds op rd)
sum_plains op false rd {x} y {carry} h l k d =
    let_binds x-r (bin add (bin add x y) carry)
    (rw (h.primary, h.whole, l, k, d.primary, d.whole)) ◂ one (result_binds op rd)

small_operand : (n : ℕ) → Operand (lit udec n)
unfolding level binds
small_operand n = record { primary = refl; whole = refl }

carry_operand : Operand carry_in
unfolding level binds
carry_operand = record { primary = refl; whole = refl }

alu_plains : (op : AluOp) (s : Bool) (rd : ℕ) {a b : Expr} (carry : Option Expr) → Operand a
    → Operand b → MaybeOperand carry → Plains (alu op s rd a b carry)
unfolding level binds
alu_plains And s rd carry h k c = logical_plains And s rd carry _ c (bin_binds band refl refl h k)
alu_plains Eor s rd carry h k c = logical_plains Eor s rd carry _ c (bin_binds bxor refl refl h k)
alu_plains Sub s rd carry h k c = sum_plains Sub s rd _ h refl (un_binds k) (small_operand 1)
alu_plains Rsb s rd carry h k c = sum_plains Rsb s rd _ k refl (un_binds h) (small_operand 1)
alu_plains Add s rd carry h k c =
    sum_plains Add s rd _ h (rw k.primary) k.whole (small_operand 0)
alu_plains Adc s rd carry h k c = sum_plains Adc s rd _ h (rw k.primary) k.whole carry_operand
alu_plains Sbc s rd carry h k c = sum_plains Sbc s rd _ h refl (un_binds k) carry_operand
alu_plains Rsc s rd carry h k c = sum_plains Rsc s rd _ k refl (un_binds h) carry_operand
alu_plains Tst s rd carry h k c = logical_plains Tst s rd carry _ c (bin_binds band refl refl h k)
alu_plains Teq s rd carry h k c = logical_plains Teq s rd carry _ c (bin_binds bxor refl refl h k)
alu_plains Cmp s rd carry h k c = sum_plains Cmp s rd _ h refl (un_binds k) (small_operand 1)
alu_plains Cmn s rd carry h k c =
    sum_plains Cmn s rd _ h (rw k.primary) k.whole (small_operand 0)
alu_plains Orr s rd carry h k c = logical_plains Orr s rd carry _ c (bin_binds bor refl refl h k)
alu_plains Mov s rd carry h k c = logical_plains Mov s rd carry _ c k.whole
alu_plains Bic s rd carry h k c =
    logical_plains Bic s rd carry _ c (rw (h.primary, h.whole, k.primary, k.whole))
alu_plains Mvn s rd carry h k c = logical_plains Mvn s rd carry _ c (un_binds k)

alu_bound : (op : AluOp) (s : Bool) (rd : ℕ) {a : Expr} (o : Option (Expr × Option Expr))
    → Operand a → MaybeOperands o → MaybeBound (alu_body op s rd a o)
alu_bound op s rd none h k = tt
alu_bound op s rd (some b) h k = each_on_line_bound (alu_plains op s rd b.1 h k.0 k.1)

-- Mul and MulLong: registers only, so it computes

mul_plains : (acc s : Bool) (rd rn rs rm : ℕ) → Plains (mul_body acc s rd rn rs rm)
unfolding level binds declarators_bind plain_binds
mul_plains true true rd rn rs rm = record { plains = refl }
mul_plains true false rd rn rs rm = record { plains = refl }
mul_plains false true rd rn rs rm = record { plains = refl }
mul_plains false false rd rn rs rm = record { plains = refl }

mul_long_plains : (signed acc s : Bool) (hi lo rs rm : ℕ)
    → Plains (mul_long_body signed acc s hi lo rs rm)
unfolding level binds declarators_bind plain_binds
mul_long_plains true true true hi lo rs rm = record { plains = refl }
mul_long_plains true true false hi lo rs rm = record { plains = refl }
mul_long_plains true false true hi lo rs rm = record { plains = refl }
mul_long_plains true false false hi lo rs rm = record { plains = refl }
mul_long_plains false true true hi lo rs rm = record { plains = refl }
mul_long_plains false true false hi lo rs rm = record { plains = refl }
mul_long_plains false false true hi lo rs rm = record { plains = refl }
mul_long_plains false false false hi lo rs rm = record { plains = refl }

-- Mem

base_binds : (thumb : Bool) (i : Instr) (rn : ℕ) → binds false (base_expr thumb i rn) ≡ true
unfolding binds
base_binds thumb i rn =
    either (λ e. binds false e ≡ true) (thumb && eqb rn 15) refl (reg_operand i rn).whole

shifted_operand : {e : Expr} (k : ShiftKind) (n : ℕ) → Operand e
    → MaybeOperand (shifted_offset e k n)
shifted_operand Lsl n h = (shift_operands Lsl n h).0
shifted_operand Lsr n h = (shift_operands Lsr n h).0
shifted_operand Asr n h = (shift_operands Asr n h).0
shifted_operand Ror zero h = tt
shifted_operand Ror (suc n) h = (shift_operands Ror (suc n) h).0

offset_operand : (i : Instr) (o : MemOffset) → MaybeOperand (offset_expr i o)
unfolding level binds
offset_operand i (MemOffset.Imm value) = record { primary = refl; whole = refl }
offset_operand i (MemOffset.Reg rm (Shift.Imm k n)) = shifted_operand k n (reg_operand i rm)
offset_operand i (MemOffset.Reg rm (Shift.Reg k rs)) = tt

loaded_binds : (w : MemWidth) (signed : Bool) → binds false (loaded w signed) ≡ true
unfolding level binds
loaded_binds Byte false = refl
loaded_binds Byte true = refl
loaded_binds Half false = refl
loaded_binds Half true = refl
loaded_binds Word signed = refl

stored_binds : (w : MemWidth) (rd : ℕ) → plain_binds false (stored w (get (reg rd))) ≡ true
unfolding level binds plain_binds
stored_binds Byte rd = refl
stored_binds Half rd = refl
stored_binds Word rd = refl

access_plains : (load : Bool) (w : MemWidth) (signed : Bool) (rd rn : ℕ) (wb : Bool)
    → Plains (access load w signed rd rn wb)
unfolding binds plain_binds
access_plains true w signed rd rn wb =
    plains_append
    (list_if_plains (wb && not (eqb rn rd) && not (eqb rn 15)) (set_reg rn (v32 x-ob)) refl)
    (one {p = set_reg rd (loaded w signed)} (loaded_binds w signed))
access_plains false w signed rd rn wb =
    stored_binds w rd ◂ list_if_plains (wb && not (eqb rn 15)) (set_reg rn (v32 x-ob)) refl

ob_binds : (up : Bool) {off : Expr} → Operand off
    → binds false (bin (add_or_sub up) (v32 x-base) off) ≡ true
unfolding level binds
ob_binds true h = rw (h.primary, h.whole)
ob_binds false h = rw (h.primary, h.whole)

mem_bound : (base : Expr) (up pre : Bool) {rest : List Plain} (off : Option Expr)
    → binds false base ≡ true → Plains rest → MaybeOperand off
    → MaybeBound (mem_body base up pre rest off)
mem_bound base up pre none h k o = tt
mem_bound base up pre (some off) h k o =
    each_on_line_bound
    (let_binds x-base base h ◂ let_binds x-ob (bin (add_or_sub up) (v32 x-base) off) (ob_binds up o) ◂
    let_binds x-addr (v32 (cond pre x-ob x-base)) (get_binds _) ◂ k)

-- BlockMem

loads_bound : (rs : List ℕ) → Bound (loads rs)
unfolding level binds plain_binds
loads_bound [] = record { lines = refl }
loads_bound (r ∷ rs) = record { lines = (loads_bound rs).lines }

stores_bound : (value : ℕ → Expr) → ((r : ℕ) → binds false (value r) ≡ true) → (rs : List ℕ)
    → Bound (stores value rs)
unfolding level binds plain_binds
stores_bound value h [] = record { lines = refl }
stores_bound value h (r ∷ rs) =
    record { lines = both _ _ (both _ _ (h r) refl) (stores_bound value h rs).lines }

moved_binds : (up : Bool) (total : ℕ) → binds false (moved_base up total) ≡ true
unfolding level binds
moved_binds true total = refl
moved_binds false total = refl

start_binds : (up pre : Bool) (total : ℕ) → binds false (start up pre total) ≡ true
unfolding level binds
start_binds true true total = refl
start_binds true false total = refl
start_binds false true total = refl
start_binds false false total = refl

abbrev Whole : Expr → Type 0
Whole e = binds false e ≡ true

stored_reg_binds : (i : Instr) (rn : ℕ) (writeback : Bool) (lowest : ℕ) (moved : Expr) → Whole moved
    → (r : ℕ) → Whole (stored_reg i rn writeback lowest moved r)
unfolding binds
stored_reg_binds i rn writeback lowest moved h r =
    either Whole (eqb r 15) refl
    (either Whole (eqb r rn) (either Whole (stores_moved writeback lowest r) h refl) refl)

transfers_bound : (load : Bool) (i : Instr) (rn : ℕ) (writeback inList : Bool) (moved : Expr)
    (regs : List ℕ) → Whole moved → Bound (loads_or_stores load i rn writeback inList moved regs)
unfolding plain_binds
transfers_bound true i rn writeback inList moved regs h =
    lines_append (each_on_line_bound (list_if_plains (writeback && not inList) (set_reg rn moved) h))
    (loads_bound regs)
transfers_bound false i rn writeback inList moved regs h =
    lines_append (stores_bound _ (stored_reg_binds i rn writeback (get_or regs 0 16) moved h) regs)
    (each_on_line_bound (list_if_plains writeback (set_reg rn moved) h))

block_mem_bound : (i : Instr) (load : Bool) (rn : ℕ) (inList pre up writeback : Bool) (regs : List ℕ)
    → Bound (block_mem_body i load rn inList pre up writeback regs)
block_mem_bound i load rn inList pre up writeback regs =
    let total : ℕ = length regs * 4 in
    lines_append
    (each_on_line_bound
    (let_binds x-base (get (reg rn)) (get_binds (reg rn)) ◂ one
    (let_binds x-addr (start up pre total) (start_binds up pre total))))
    (transfers_bound load i rn writeback inList (moved_base up total) regs (moved_binds up total))

-- inline_body, for every instruction

op_bound : (thumb : Bool) (i : Instr) (o : Op) → MaybeBound (op_body thumb i o)
op_bound thumb i (Alu op s rd rn op2) =
    either MaybeBound (eqb rd 15) tt
    (alu_bound op s rd (op2_exprs i op2) (reg_operand i rn) (op2_operands i op2))
op_bound thumb i (Mul acc s rd rn rs rm) =
    either MaybeBound (eqb rd 15) tt (each_on_line_bound (mul_plains acc s rd rn rs rm))
op_bound thumb i (MulLong signed acc s hi lo rs rm) =
    each_on_line_bound (mul_long_plains signed acc s hi lo rs rm)
op_bound thumb i (Swap byte rd rm rn) = tt
op_bound thumb i (Bx rm) = tt
op_bound thumb i (Branch link target) = tt
op_bound thumb i (ThumbBlHigh lr) = tt
op_bound thumb i (ThumbBlLow off) = tt
op_bound thumb i (Mem load width signed rd rn offset pre up writeback) =
    either MaybeBound (eqb rd 15) tt
    (mem_bound (base_expr thumb i rn) up pre (offset_expr i offset) (base_binds thumb i rn)
    (access_plains load width signed rd rn (not pre || writeback)) (offset_operand i offset))
op_bound thumb i (BlockMem load rn rlist pre up s_bit writeback) =
    either MaybeBound (s_bit || eqb rlist 0 || eqb rn 15 || (load && is_listed rlist 15)) tt
    (block_mem_bound i load rn (is_listed rlist rn) pre up writeback (listed rlist 16))
op_bound thumb i (Mrs spsr rd) = tt
op_bound thumb i (MsrReg spsr fields rm) = tt
op_bound thumb i (MsrImm spsr fields value) = tt
op_bound thumb i (Swi imm) = tt
op_bound thumb i (Undefined raw) = tt

-- emit_block's loop

ticks_bound : (n : ℕ) → Bound (flush_ticks n)
unfolding plain_binds
ticks_bound zero = record { lines = refl }
ticks_bound (suc n) = record { lines = refl }

word_binds : (r n : ℕ) → plain_binds false (set_word r n) ≡ true
unfolding binds plain_binds
word_binds r n = refl

shell_fits : (thumb high : Bool) (cycles : ℕ) (i : Instr)
    → form_binds (emit_shell thumb high cycles i) ≡ true
shell_fits thumb high cycles i =
    (lines_append (ticks_bound cycles) (each_on_line_bound (one (word_binds 15 i.addr)))).lines

lines_fits : (thumb touchesBus : Bool) (cycles : ℕ) (x : TimedInstr) (body : Option Lines)
    → MaybeBound body → form_binds (emit_lines thumb touchesBus cycles x body).0 ≡ true
lines_fits thumb touchesBus cycles x none h = shell_fits thumb false cycles x.instr
lines_fits thumb touchesBus cycles x (some body) h =
    let t : Bound (cond touchesBus (flush_ticks cycles) []) =
    either Bound touchesBus (ticks_bound cycles) (record { lines = refl }) in
    either (λ r. native_binds r ≡ true) (is_al x.instr.cond) (both _ _ t.lines h.lines)
    (both _ _ (both _ _ t.lines (cond_binds x.instr.cond)) h.lines)

straight_fits : (thumb touchesBus : Bool) (cycles : ℕ) (x : TimedInstr)
    → form_binds (emit_straight thumb touchesBus cycles x).0 ≡ true
unfolding inline_body
straight_fits thumb touchesBus cycles x =
    lines_fits thumb touchesBus cycles x (inline_body thumb x.instr)
    (op_bound thumb x.instr x.instr.op)

branch_fits : (thumb : Bool) (cycles : ℕ) (i : Instr) (link : Bool) (target : ℕ)
    → native_binds (emit_branch thumb cycles i link target) ≡ true
branch_fits thumb cycles i link target =
    let regs : Plains
    (list_if link (set_word 14 ((i.addr + 4) % 2 ^ 32)) ++ (set_word 15 target ∷ [])) =
    plains_append (list_if_plains link _ (word_binds 14 _)) (one (word_binds 15 target)) in
    either (λ r. native_binds r ≡ true) (is_al i.cond)
    (lines_append (ticks_bound cycles) (each_on_line_bound regs)).lines
    (both _ _ (both _ _ (ticks_bound cycles).lines (cond_binds i.cond)) regs.plains)

pop_fits : (thumb : Bool) (cycles rn : ℕ) (regs : List ℕ)
    → native_binds (emit_pop thumb cycles rn regs) ≡ true
unfolding level binds declarators_bind plain_binds
pop_fits thumb cycles rn regs =
    let l : Bound
    (loads regs
    ++ ((set_reg rn (bin add (get (reg rn)) (lit udec ((length regs + 1) * 4))) ∷ []) ∷ [])) =
    lines_append (loads_bound regs) (record { lines = refl }) in
    both _ _ (both _ _ (both _ _ (both _ _ (ticks_bound cycles).lines refl) l.lines) refl) refl

pair_fits : (cycles target ret : ℕ) → native_binds (emit_pair cycles target ret) ≡ true
pair_fits cycles target ret =
    (lines_append (ticks_bound cycles)
    (each_on_line_bound (word_binds 14 ret ◂ one (word_binds 15 (clear_bit0 target))))).lines

-- the lines before a closing transfer bind
pub closing_lines_bind : (cycles a : ℕ) → lines_bind (flush_ticks cycles ++ pc_line a) ≡ true
closing_lines_bind cycles a =
    (lines_append (ticks_bound cycles) (each_on_line_bound (one (word_binds 15 a)))).lines

-- all forms of a block bind
pub forms_bind : (multiplier : ℕ) (b : Block)
    → Each (λ r. form_binds r ≡ true) (body_of multiplier b).forms
forms_bind =
    every_form (λ r. form_binds r ≡ true) shell_fits straight_fits branch_fits
    (λ cycles i rm. both _ _ (ticks_bound cycles).lines (reg_operand i rm).whole)
    (λ thumb cycles rn rlist. pop_fits thumb cycles rn (listed rlist 15))
    pair_fits
