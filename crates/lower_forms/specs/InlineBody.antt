-- To be believed: the statements that an instruction is lowered to, without its condition:
-- inline_body, class by class, but for the saved base of request 2.
use Rattle.std.specs.Prelude.{ℕ, zero, suc, ◌+◌, ◌*◌, ◌/◌, ◌%◌, ◌^◌, Bool, true, false, not, cond, ◌&&◌, ◌||◌, List, [], ◌∷◌, ◌++◌, eqb, length, get_or}
use Rattle.std.proofs.Math.Option.{Option, none, some}
use Rattle.armv4t.specs.declared.AluOp.{AluOp}
use Rattle.armv4t.specs.declared.AluOp.TheVariants.{And, Eor, Sub, Rsb, Add, Adc, Sbc, Rsc, Tst}
use Rattle.armv4t.specs.declared.AluOp.TheVariants.{Teq, Cmp, Cmn, Orr, Mov, Bic, Mvn}
use Rattle.armv4t.specs.declared.ShiftKind.{ShiftKind}
use Rattle.armv4t.specs.declared.ShiftKind.TheVariants.{Lsl, Lsr, Asr, Ror}
use Rattle.armv4t.specs.declared.Shift.{Shift}
use Rattle.armv4t.specs.declared.MemWidth.{MemWidth}
use Rattle.armv4t.specs.declared.MemWidth.TheVariants.{Byte, Half, Word}
use Rattle.armv4t.specs.declared.MemOffset.{MemOffset}
use Rattle.armv4t.specs.declared.Op.{Op}
use Rattle.armv4t.specs.declared.Op.TheVariants.{Alu, Mul, MulLong, Swap, Bx, Branch, ThumbBlHigh}
use Rattle.armv4t.specs.declared.Op.TheVariants.{ThumbBlLow, Mem, BlockMem, Mrs, MsrReg, MsrImm}
use Rattle.armv4t.specs.declared.Op.TheVariants.{Swi, Undefined}
use Rattle.armv4t.specs.declared.Instr.{Instr}
use Rattle.armv4t.specs.AluOp.{is_compare}
use Rattle.armv4t.specs.Instr.{pc_value}
use Rattle.armv4t.specs.RegisterList.{is_listed}
use Rattle.c_tree.specs.Expr.{Ty, s8, s16, s32, u32, s64, u64, word, uhex, udec, int, Name, x-r}
use Rattle.c_tree.specs.Expr.{x-base, x-ob, x-addr, reg, var, compl, Bin, mul, add, sub, shl, shr}
use Rattle.c_tree.specs.Expr.{band, bxor, bor, Width, w8, w16, w32, Expr, lit, get, par, un, bin}
use Rattle.c_tree.specs.Expr.{cast, pick, ror, read}
use Rattle.c_tree.specs.Stmt.{is, plus, f-nz, f-c, f-nz64, Plain, declare, adds, set, discard, run}
use Rattle.c_tree.specs.Stmt.{write}
use Rattle.c_tree.specs.Preamble.{v32}
use Rattle.lower_forms.specs.Forms.{Lines}
use Rattle.lower_forms.specs.Operands.{reg_expr, carry_in, shift_exprs, op2_exprs}

-- x if b, else nothing
abbrev pub list_if : {A : Type 0} → Bool → A → List A
list_if true x = x ∷ []
list_if false x = []

-- each statement in a line of its own
abbrev pub each_on_line : List Plain → Lines
each_on_line [] = []
each_on_line (p ∷ ps) = (p ∷ []) ∷ each_on_line ps

-- uint32_t x = e;
abbrev pub let32 : Name → Expr → Plain
let32 x e = declare (u32, x) e []

-- c[r] = e;
abbrev pub set_reg : ℕ → Expr → Plain
set_reg r e = set (reg r) is e

-- the last statement of an Alu: compares have no result
abbrev pub result : AluOp → ℕ → Plain
result op rd = cond (is_compare op) (discard (u32, x-r)) (set_reg rd (v32 x-r))

-- logical_c: the statement that sets C, if there is a carry
abbrev pub logical_c : Option Expr → List Plain
logical_c none = []
logical_c (some e) = run f-c e ∷ []

-- the statements of an Alu after its outcome, where it takes the carry from its second operand
abbrev pub logical_rest : AluOp → Bool → ℕ → Option Expr → List Plain
logical_rest op s rd carry = cond s (run f-nz (v32 x-r) ∷ logical_c carry) [] ++ (result op rd ∷ [])

-- an Alu that takes the carry from its second operand
abbrev pub logical : AluOp → Bool → ℕ → Option Expr → Expr → List Plain
logical op s rd carry e = let32 x-r e ∷ logical_rest op s rd carry

-- an Alu that adds
abbrev pub sum : AluOp → Bool → ℕ → Expr → Expr → Expr → List Plain
sum op s rd x y carry =
    cond s (adds x-r x y carry) (let32 x-r (bin add (bin add x y) carry)) ∷ result op rd ∷ []

-- Alu: first operand, second operand, the carry out of the second
abbrev pub alu : AluOp → Bool → ℕ → Expr → Expr → Option Expr → List Plain
alu And s rd a b carry = logical And s rd carry (par (bin band a b))
alu Eor s rd a b carry = logical Eor s rd carry (par (bin bxor a b))
alu Sub s rd a b carry = sum Sub s rd a (un compl b) (lit udec 1)
alu Rsb s rd a b carry = sum Rsb s rd b (un compl a) (lit udec 1)
alu Add s rd a b carry = sum Add s rd a b (lit udec 0)
alu Adc s rd a b carry = sum Adc s rd a b carry_in
alu Sbc s rd a b carry = sum Sbc s rd a (un compl b) carry_in
alu Rsc s rd a b carry = sum Rsc s rd b (un compl a) carry_in
alu Tst s rd a b carry = logical Tst s rd carry (par (bin band a b))
alu Teq s rd a b carry = logical Teq s rd carry (par (bin bxor a b))
alu Cmp s rd a b carry = sum Cmp s rd a (un compl b) (lit udec 1)
alu Cmn s rd a b carry = sum Cmn s rd a b (lit udec 0)
alu Orr s rd a b carry = logical Orr s rd carry (par (bin bor a b))
alu Mov s rd a b carry = logical Mov s rd carry b
alu Bic s rd a b carry = logical Bic s rd carry (par (bin band a (un compl b)))
alu Mvn s rd a b carry = logical Mvn s rd carry (par (un compl b))

-- Alu, if its second operand can be printed
abbrev pub alu_body : AluOp → Bool → ℕ → Expr → Option (Expr × Option Expr) → Option Lines
alu_body op s rd a none = none
alu_body op s rd a (some b) = some (each_on_line (alu op s rd a b.0 b.1))

-- Mul: the product, with rn added if acc is set, into rd, and N and Z if s is set
abbrev pub mul_body : Bool → Bool → ℕ → ℕ → ℕ → ℕ → List Plain
mul_body acc s rd rn rs rm =
    let32 x-r (bin mul (get (reg rm)) (get (reg rs)))
    ∷ list_if acc (set (var (u32, x-r)) plus (get (reg rn)))
    ++ (set_reg rd (v32 x-r) ∷ list_if s (run f-nz (v32 x-r)))

-- a factor of MulLong with 64 bits: with its sign in front (true) or zeros
abbrev pub widened : Bool → Expr → Expr
widened true e = cast s64 (cast s32 e)
widened false e = cast u64 e

-- the r of MulLong
abbrev pub r64 : Expr
r64 = get (var (u64, x-r))

-- MulLong: the product, with hi and lo added if acc is set, into both, and N and Z if s is set
abbrev pub mul_long_body : Bool → Bool → Bool → ℕ → ℕ → ℕ → ℕ → List Plain
mul_long_body signed acc s hi lo rs rm =
    declare (u64, x-r)
    (cast u64 (par (bin mul (widened signed (get (reg rm))) (widened signed (get (reg rs)))))) []
    ∷ list_if acc
    (set (var (u64, x-r)) plus
    (bin bor (par (bin shl (cast u64 (get (reg hi))) (lit int 32))) (cast u64 (get (reg lo)))))
    ++ (set_reg lo (cast u32 r64)
    ∷ set_reg hi (cast u32 (par (bin shr r64 (lit int 32))))
    ∷ list_if s (run f-nz64 r64))

-- the base of a Mem: PC is word-aligned in a Thumb block
abbrev pub base_expr : Bool → Instr → ℕ → Expr
base_expr thumb i rn = cond (thumb && eqb rn 15) (par (lit word (pc_value i / 4 * 4))) (reg_expr i rn)

-- the shifted offset of a Mem; none for RRX, which needs the carry
abbrev pub shifted_offset : Expr → ShiftKind → ℕ → Option Expr
shifted_offset e Lsl n = some (shift_exprs e Lsl n).0
shifted_offset e Lsr n = some (shift_exprs e Lsr n).0
shifted_offset e Asr n = some (shift_exprs e Asr n).0
shifted_offset e Ror zero = none
shifted_offset e Ror (suc n) = some (shift_exprs e Ror (suc n)).0

-- the offset of a Mem; none for RRX, and where the interpreter is to shift by a register
abbrev pub offset_expr : Instr → MemOffset → Option Expr
offset_expr i (MemOffset.Imm value) = some (lit uhex value)
offset_expr i (MemOffset.Reg rm (Shift.Imm kind amount)) = shifted_offset (reg_expr i rm) kind amount
offset_expr i (MemOffset.Reg rm (Shift.Reg kind rs)) = none

-- the operator that moves an address upwards (true) or downwards
abbrev pub add_or_sub : Bool → Bin
add_or_sub true = add
add_or_sub false = sub

-- addr & ~nu
abbrev pub aligned : ℕ → Expr
aligned n = bin band (v32 x-addr) (un compl (lit udec n))

-- (addr & nu) * 8u
abbrev pub rotation : ℕ → Expr
rotation n = bin mul (par (bin band (v32 x-addr) (lit udec n))) (lit udec 8)

-- (uint32_t)(int32_t)(int8_t)a->read8(m, addr), or likewise with 16 bits
abbrev pub signed_read : Ty → Width → Expr
signed_read y w = cast u32 (cast s32 (cast y (read w (v32 x-addr))))

-- what a Mem loads: by width, and whether it is signed
abbrev pub loaded : MemWidth → Bool → Expr
loaded Byte false = read w8 (v32 x-addr)
loaded Byte true = signed_read s8 w8
loaded Half false = ror (read w16 (aligned 1)) (rotation 1)
loaded Half true =
    par (pick (par (bin band (v32 x-addr) (lit udec 1))) (signed_read s8 w8) (signed_read s16 w16))
loaded Word signed = ror (read w32 (aligned 3)) (rotation 3)

-- how a Mem stores a value, by width
abbrev pub stored : MemWidth → Expr → Plain
stored Byte e = write w8 (v32 x-addr) e
stored Half e = write w16 (aligned 1) e
stored Word e = write w32 (aligned 3) e

-- a load or a store, after the lines that both have; wb: the base is written back
abbrev pub access : Bool → MemWidth → Bool → ℕ → ℕ → Bool → List Plain
access true width signed rd rn wb =
    list_if (wb && not (eqb rn rd) && not (eqb rn 15)) (set_reg rn (v32 x-ob))
    ++ (set_reg rd (loaded width signed) ∷ [])
access false width signed rd rn wb =
    stored width (get (reg rd)) ∷ list_if (wb && not (eqb rn 15)) (set_reg rn (v32 x-ob))

-- the lines of a Mem, by its base, whether the offset is added, whether it counts before the
-- access, the statements of the access, and the offset
abbrev pub mem_lines : Expr → Bool → Bool → List Plain → Expr → Lines
mem_lines base up pre rest off =
    each_on_line
    (let32 x-base base
    ∷ let32 x-ob (bin (add_or_sub up) (v32 x-base) off)
    ∷ let32 x-addr (v32 (cond pre x-ob x-base))
    ∷ rest)

-- Mem, if its offset can be printed
abbrev pub mem_body : Expr → Bool → Bool → List Plain → Option Expr → Option Lines
mem_body base up pre rest none = none
mem_body base up pre rest (some off) = some (mem_lines base up pre rest off)

-- the registers below n that a register list names, in rising order
unfoldable pub listed : ℕ → ℕ → List ℕ
listed rlist zero = []
listed rlist (suc n) = listed rlist n ++ list_if (is_listed rlist n) n

-- addr += 4u;
abbrev pub advance : Plain
advance = set (var (u32, x-addr)) plus (lit udec 4)

-- the loads of a BlockMem, a line for each register
abbrev pub loads : List ℕ → Lines
loads [] = []
loads (r ∷ rs) = (set_reg r (read w32 (aligned 3)) ∷ advance ∷ []) ∷ loads rs

-- the base after a BlockMem of so many bytes
abbrev pub moved_base : Bool → ℕ → Expr
moved_base up total = bin (add_or_sub up) (v32 x-base) (lit udec total)

-- the lowest address of a BlockMem of so many bytes: whether it goes up from the base, whether the
-- base itself is passed over
abbrev pub start : Bool → Bool → ℕ → Expr
start true false total = v32 x-base
start true true total = bin add (v32 x-base) (lit udec 4)
start false false total = bin add (bin sub (v32 x-base) (lit udec total)) (lit udec 4)
start false true total = bin sub (v32 x-base) (lit udec total)

-- whether a BlockMem stores its base as it is after the instruction, and not as it was before: the
-- base is written back, and is not the lowest register listed (request 2)
abbrev pub stores_moved : Bool → ℕ → ℕ → Bool
stores_moved writeback lowest rn = writeback && not (eqb rn lowest)

-- what a BlockMem stores of a register, given its base register, whether that is written back, the
-- lowest register listed and the base after it
abbrev pub stored_reg : Instr → ℕ → Bool → ℕ → Expr → ℕ → Expr
stored_reg i rn writeback lowest moved r =
    cond (eqb r 15) (lit word ((pc_value i + 4) % 2 ^ 32))
    (cond (eqb r rn) (cond (stores_moved writeback lowest r) moved (v32 x-base)) (get (reg r)))

-- the stores of a BlockMem, a line for each register
abbrev pub stores : (ℕ → Expr) → List ℕ → Lines
stores value [] = []
stores value (r ∷ rs) = (write w32 (aligned 3) (value r) ∷ advance ∷ []) ∷ stores value rs

-- the lines of a BlockMem after its start: load or store, the base register, whether it is written
-- back and is listed, the base after, the registers
abbrev pub loads_or_stores : Bool → Instr → ℕ → Bool → Bool → Expr → List ℕ → Lines
loads_or_stores true i rn writeback inList moved regs =
    each_on_line (list_if (writeback && not inList) (set_reg rn moved)) ++ loads regs
loads_or_stores false i rn writeback inList moved regs =
    stores (stored_reg i rn writeback (get_or regs 0 16) moved) regs
    ++ each_on_line (list_if writeback (set_reg rn moved))

-- BlockMem: the base, the lowest address, and the loads or stores; inList: its base register is
-- listed
abbrev pub block_mem_body : Instr → Bool → ℕ → Bool → Bool → Bool → Bool → List ℕ → Lines
block_mem_body i load rn inList pre up writeback regs =
    let total : ℕ = length regs * 4 in
    each_on_line (let32 x-base (get (reg rn)) ∷ let32 x-addr (start up pre total) ∷ [])
    ++ loads_or_stores load i rn writeback inList (moved_base up total) regs

-- inline_body by the operation, in a block that is Thumb or not; none where the interpreter is to
-- carry it out
abbrev pub op_body : Bool → Instr → Op → Option Lines
op_body thumb i (Alu op s rd rn op2) =
    cond (eqb rd 15) none (alu_body op s rd (reg_expr i rn) (op2_exprs i op2))
op_body thumb i (Mul acc s rd rn rs rm) =
    cond (eqb rd 15) none (some (each_on_line (mul_body acc s rd rn rs rm)))
op_body thumb i (MulLong signed acc s hi lo rs rm) =
    some (each_on_line (mul_long_body signed acc s hi lo rs rm))
op_body thumb i (Swap byte rd rm rn) = none
op_body thumb i (Bx rm) = none
op_body thumb i (Branch link target) = none
op_body thumb i (ThumbBlHigh lr) = none
op_body thumb i (ThumbBlLow off) = none
op_body thumb i (Mem load width signed rd rn offset pre up writeback) =
    cond (eqb rd 15) none
    (mem_body (base_expr thumb i rn) up pre (access load width signed rd rn (not pre || writeback))
    (offset_expr i offset))
op_body thumb i (BlockMem load rn rlist pre up s_bit writeback) =
    cond (s_bit || eqb rlist 0 || eqb rn 15 || (load && is_listed rlist 15)) none
    (some (block_mem_body i load rn (is_listed rlist rn) pre up writeback (listed rlist 16)))
op_body thumb i (Mrs spsr rd) = none
op_body thumb i (MsrReg spsr fields rm) = none
op_body thumb i (MsrImm spsr fields value) = none
op_body thumb i (Swi imm) = none
op_body thumb i (Undefined raw) = none

-- inline_body; thumb is the block's
unfoldable pub inline_body : Bool → Instr → Option Lines
inline_body thumb i = op_body thumb i i.op
