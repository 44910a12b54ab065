-- Instructions keep a machine in range and go on at keys below 2^32; and which operations are
-- written out.
use mathlib.Core.Path.{◌≡◌, refl, subst}
use mathlib.Core.Logic.{◌≢◌}
use mathlib.Core.Bool.{Bool, true, false, cond, ◌&&◌, true≢false}
use mathlib.Core.Option.{Option, none, some}
use mathlib.Core.List.{List, [], ◌∷◌}
use Prim.Native.Nat.{ℕ, zero, suc, ◌+◌, ◌-◌, ◌*◌, ◌/◌, ◌%◌, ◌^◌, ◌≤◌, ◌<◌}
use native.Mathlib.Nat.{mod-lt, le_trans, lt_of_le_of_lt}
use native.Mathlib.Omega.{arith}
use lib.Dec.{T, eqb, ltb, eqb_refl, eqb→eq, lit<, lit≤}
use lib.ListN.{length}
use lib.Pow.{pow_mono, shr_lt, shr_le}
use Rattle.base_words.specs.Word.{bit, one_if}
use Rattle.base_words.proofs.Bits.{and_lt, or_lt, xor_lt, turn, is_false}
use Rattle.armv4t.specs.declared.AluOp.{AluOp}
use Rattle.armv4t.specs.declared.AluOp.TheVariants.{And, Eor, Sub, Rsb, Add, Adc, Sbc, Rsc, Tst}
use Rattle.armv4t.specs.declared.AluOp.TheVariants.{Teq, Cmp, Cmn, Orr, Mov, Bic, Mvn}
use Rattle.armv4t.specs.declared.ShiftKind.{ShiftKind}
use Rattle.armv4t.specs.declared.ShiftKind.TheVariants.{Lsl, Lsr, Asr, Ror}
use Rattle.armv4t.specs.declared.Shift.{Shift}
use Rattle.armv4t.specs.declared.Operand2.{Operand2}
use Rattle.armv4t.specs.declared.MemWidth.{MemWidth}
use Rattle.armv4t.specs.declared.MemWidth.TheVariants.{Byte, Half, Word}
use Rattle.armv4t.specs.declared.Op.{Op}
use Rattle.armv4t.specs.declared.Op.TheVariants.{Alu, Mul, MulLong, Swap, Bx, Branch, ThumbBlHigh}
use Rattle.armv4t.specs.declared.Op.TheVariants.{ThumbBlLow, Mem, BlockMem, Mrs, MsrReg, MsrImm}
use Rattle.armv4t.specs.declared.Op.TheVariants.{Swi, Undefined}
use Rattle.armv4t.specs.declared.Instr.{Instr}
use Rattle.armv4t.specs.AluOp.{is_compare}
use Rattle.armv4t.specs.Instr.{size_of, pc_ahead, pc_value}
use Rattle.armv4t_manual.specs.Machine.{two32, Machine, R, update, set_reg, set_regs, set_flags}
use Rattle.armv4t_manual.specs.Machine.{set_mem, set_t, Sound}
use Rattle.armv4t.specs.InRange.{ShiftInRange, OperandInRange, InRange}
use Rattle.armv4t_manual.specs.Operators.{arithmetic_shift_right, rotate_right, NOT}
use Rattle.armv4t_manual.specs.Operators.{SignExtend8, SignExtend16}
use Rattle.armv4t_manual.specs.Conditions.{passed}
use Rattle.armv4t_manual.specs.Shifter.{shift, shift_by, shifted, shifter}
use Rattle.armv4t_manual.specs.DataProcessing.{is_add, is_word_offset, alu, settle}
use Rattle.armv4t_manual.specs.DataProcessing.{data_processing}
use Rattle.armv4t_manual.specs.Multiply.{multiply, multiply_long}
use Rattle.armv4t_manual.specs.Transfer.{byte, Memory2, Memory4, set_memory2, set_memory4}
use Rattle.armv4t_manual.specs.Transfer.{moved, address, loaded, stored, writes_back, load}
use Rattle.armv4t_manual.specs.Transfer.{store}
use Rattle.armv4t_manual.specs.Multiple.{listed, start, load_all, store_all, load_multiple}
use Rattle.armv4t_manual.specs.Multiple.{load_multiple_with_pc, loaded_pc, store_multiple}
use Rattle.armv4t_manual.specs.Unsaid.{no_instruction, unpredictable}
use Rattle.armv4t_manual.specs.Execute.{key, following, onward, pc_read, operation, execute}
use Rattle.base_lists.proofs.Bools.{either}

either_lt : {n x y : ℕ} (b : Bool) → x < n → y < n → cond b x y < n
either_lt {n} b p q = either (λ (x : ℕ). x < n) b p q

word_mod : (x : ℕ) → x % two32 < two32
word_mod x = mod-lt x (lit< tt)

byte_mod : (x : ℕ) → x % 256 < 256
byte_mod x = mod-lt x (lit< tt)

byte_word : {x : ℕ} → x < 256 → x < two32
byte_word h = le_trans h (lit≤ tt)

-- f holds words at 0 to 14; f holds bytes
abbrev Words : (ℕ → ℕ) → Type 0
Words f = (i : ℕ) → i < 15 → f i < two32

abbrev Bytes : (ℕ → ℕ) → Type 0
Bytes f = (a : ℕ) → f a < 256

update_words : {f : ℕ → ℕ} (k : ℕ) {x : ℕ} → x < two32 → Words f → Words (update k x f)
update_words k h w i l = either_lt (eqb i k) h (w i l)

update_bytes : {f : ℕ → ℕ} (k : ℕ) {x : ℕ} → x < 256 → Bytes f → Bytes (update k x f)
update_bytes k h b a = either_lt (eqb a k) h (b a)

-- a machine, with one of its parts set

module _ {m : Machine} (s : Sound m) where
  regs_sound : {f : ℕ → ℕ} → Words f → Sound (set_regs f m)
  regs_sound w = record { words = w; other_bits = s.other_bits; bytes = s.bytes }

  reg_sound : (rd : ℕ) {x : ℕ} → x < two32 → Sound (set_reg rd x m)
  reg_sound rd h =
      record { words = update_words rd h s.words; other_bits = s.other_bits; bytes = s.bytes }

  flags_sound : (n z c v : Bool) → Sound (set_flags n z c v m)
  flags_sound n z c v = record { words = s.words; other_bits = s.other_bits; bytes = s.bytes }

  mem_sound : {f : ℕ → ℕ} → Bytes f → Sound (set_mem f m)
  mem_sound b = record { words = s.words; other_bits = s.other_bits; bytes = b }

  t_sound : (t : Bool) → Sound (set_t t m)
  t_sound t =
      record { words = s.words; other_bits = go t m.other_bits s.other_bits; bytes = s.bytes }
    where
      go : (t : Bool) (x : ℕ) → x < 268435456 → x / 64 * 64 + one_if t * 32 + x % 32 < 268435456
      go true x h = omega arith
      go false x h = omega arith

-- shifts

-- the operand is a word, whatever the carry
abbrev First : ℕ × Bool → Type 0
First p = p.0 < two32

asr_lt : (x i : ℕ) → x < two32 → arithmetic_shift_right x i < two32
asr_lt x i h =
    go (x / 2 ^ i) (2 ^ (32 - i)) (shr_lt (32 - i) i (le_trans h (pow_mono (whole i))))
    (pow_mono (part i)) (bit x 31)
  where
    whole : (i : ℕ) → 32 ≤ (32 - i) + i
    whole i = omega arith

    part : (i : ℕ) → 32 - i ≤ 32
    part i = omega arith

    go : (q p : ℕ) → q < p → p ≤ two32 → (b : Bool) → q + cond b (two32 - p) 0 < two32
    go q p h l true = omega arith
    go q p h l false = omega arith

lsr_lt : (x i : ℕ) → x < two32 → x / 2 ^ i < two32
lsr_lt x i h = lt_of_le_of_lt (shr_le x i) h

ror_lt : (x i : ℕ) → x < two32 → i ≤ 32 → rotate_right x i < two32
ror_lt x i h l =
    subst (λ (y : ℕ). y < two32) (turn x i h l)
    (or_lt 32 (x / 2 ^ i) (x * 2 ^ (32 - i) % two32) (lsr_lt x i h)
    (word_mod (x * 2 ^ (32 - i))))

rrx_lt : (c : Bool) (x : ℕ) → x < two32 → one_if c * 2 ^ 31 + x / 2 ^ 1 < two32
rrx_lt true x h = omega arith
rrx_lt false x h = omega arith

shift_lt : (k : ShiftKind) (x i : ℕ) (c : Bool) → x < two32 → i < 32 → (shift k x i c).0 < two32
shift_lt Lsl x zero c h l = h
shift_lt Lsl x (suc i) c h l = word_mod (x * 2 ^ suc i)
shift_lt Lsr x zero c h l = lit< tt
shift_lt Lsr x (suc i) c h l = lsr_lt x (suc i) h
shift_lt Asr x zero c h l = either_lt (bit x 31) (lit< tt) (lit< tt)
shift_lt Asr x (suc i) c h l = asr_lt x (suc i) h
shift_lt Ror x zero c h l = rrx_lt c x h
shift_lt Ror x (suc i) c h l = ror_lt x (suc i) h (omega arith)

shift_by_lt : (k : ShiftKind) (x i : ℕ) (c : Bool) → x < two32 → (shift_by k x i c).0 < two32
shift_by_lt Lsl x zero c h = h
shift_by_lt Lsr x zero c h = h
shift_by_lt Asr x zero c h = h
shift_by_lt Ror x zero c h = h
shift_by_lt Lsl x (suc i) c h = either First (ltb (suc i) 32) (word_mod (x * 2 ^ suc i)) (lit< tt)
shift_by_lt Lsr x (suc i) c h = either First (ltb (suc i) 32) (lsr_lt x (suc i) h) (lit< tt)
shift_by_lt Asr x (suc i) c h =
    either First (ltb (suc i) 32) (asr_lt x (suc i) h) (either_lt (bit x 31) (lit< tt) (lit< tt))
shift_by_lt Ror x (suc i) c h =
    either First (eqb (suc i % 32) 0) h (shift_lt Ror x (suc i % 32) c h (mod-lt (suc i) (lit< tt)))

-- operands

not_15 : {r : ℕ} → eqb r 15 ≡ false → r ≢ 15
not_15 {r} q e = subst T q (subst (λ (j : ℕ). T (eqb r j)) e (eqb_refl r))

reg_lt : {m : Machine} → Sound m → (pc r : ℕ) → pc < two32 → r ≤ 15 → R m pc r < two32
reg_lt {m} s pc r h l = go (eqb r 15) refl
  where
    under : r ≢ 15 → r < 15
    under n = omega arith

    go : (b : Bool) → eqb r 15 ≡ b → cond b pc (m.r r) < two32
    go true q = h
    go false q = s.words r (under (not_15 q))

pc_lt : (i : Instr) → pc_value i < two32
pc_lt i = word_mod (i.addr + pc_ahead i.thumb)

module _ {m : Machine} (s : Sound m) (pc : ℕ) (h : pc < two32) where
  shifted_lt : (rm : ℕ) (x : Shift) → rm ≤ 15 → ShiftInRange x → (shifted m pc rm x).0 < two32
  shifted_lt rm (Shift.Imm kind amount) l r =
      shift_lt kind (R m pc rm) amount m.c (reg_lt s pc rm h l) r
  shifted_lt rm (Shift.Reg kind rs) l r =
      shift_by_lt kind (R m pc rm) (R m pc rs % 256) m.c (reg_lt s pc rm h l)

  shifter_lt : (x : Operand2) → OperandInRange x → (shifter m pc x).0 < two32
  shifter_lt (Operand2.Imm value rot) r = r
  shifter_lt (Operand2.Reg rm x) r = shifted_lt rm x r.0 r.1

-- data processing

not_lt : (x : ℕ) → NOT x < two32
not_lt x = omega arith

alu_lt : (op : AluOp) (x y : ℕ) (co c v : Bool) → x < two32 → y < two32
    → (alu op x y co c v).0 < two32
alu_lt And x y co c v h l = and_lt 32 x y h l
alu_lt Eor x y co c v h l = xor_lt 32 x y h l
alu_lt Sub x y co c v h l = word_mod _
alu_lt Rsb x y co c v h l = word_mod _
alu_lt Add x y co c v h l = word_mod _
alu_lt Adc x y co c v h l = word_mod _
alu_lt Sbc x y co c v h l = word_mod _
alu_lt Rsc x y co c v h l = word_mod _
alu_lt Tst x y co c v h l = and_lt 32 x y h l
alu_lt Teq x y co c v h l = xor_lt 32 x y h l
alu_lt Cmp x y co c v h l = word_mod _
alu_lt Cmn x y co c v h l = word_mod _
alu_lt Orr x y co c v h l = or_lt 32 x y h l
alu_lt Mov x y co c v h l = l
alu_lt Bic x y co c v h l = and_lt 32 x (NOT y) h (not_lt y)
alu_lt Mvn x y co c v h l = not_lt y

settle_sound : {m : Machine} → Sound m → (op : AluOp) (w : Bool) (rd : ℕ) (a : ℕ × Bool × Bool)
    → a.0 < two32 → Sound (settle op w rd a m)
settle_sound s op w rd a h =
    let s1 = either Sound w (flags_sound s (bit a.0 31) (eqb a.0 0) a.1 a.2) s in
    either Sound (is_compare op) s1 (reg_sound s1 rd h)

processing_sound : {m : Machine} → Sound m
    → (op : AluOp) (w : Bool) (rd rn : ℕ) (op2 : Operand2) (pc : ℕ) → pc < two32 → rn ≤ 15
    → OperandInRange op2
    → Sound (data_processing op w rd rn op2 pc m)
processing_sound {m} s op w rd rn op2 pc h l r =
    settle_sound s op w rd _
    (alu_lt op _ _ (shifter m pc op2).1 m.c m.v (reg_lt s pc rn h l)
    (shifter_lt s pc h op2 r))

aligned_lt : (x : ℕ) → x < two32 → x / 4 * 4 < two32
aligned_lt x h = omega arith

aligned_pc_lt : (i : Instr) (op : AluOp) (rn : ℕ) (op2 : Operand2) → pc_read i op rn op2 < two32
aligned_pc_lt i op rn op2 =
    either_lt (i.thumb && is_add op && eqb rn 15 && is_word_offset op2)
    (aligned_lt (pc_value i) (pc_lt i)) (pc_lt i)

-- multiplies

multiply_sound : {m : Machine} → Sound m → (acc w : Bool) (rd rn rs rm : ℕ)
    → Sound (multiply acc w rd rn rs rm m)
multiply_sound s acc w rd rn rs rm =
    reg_sound (either Sound w (flags_sound s _ _ _ _) s) rd (word_mod _)

multiply_long_sound : {m : Machine} → Sound m → (signed acc w : Bool) (hi lo rs rm : ℕ)
    → Sound (multiply_long signed acc w hi lo rs rm m)
multiply_long_sound s signed acc w hi lo rs rm =
    reg_sound (reg_sound (either Sound w (flags_sound s _ _ _ _) s) lo (word_mod _)) hi (word_mod _)

-- loads and stores

module _ {f : ℕ → ℕ} (b : Bytes f) where
  half_lt : (a : ℕ) → Memory2 f a < 2 ^ 16
  half_lt a = go (f a) (byte f a 1) (b a) (b ((a + 1) % two32))
    where
      go : (p q : ℕ) → p < 256 → q < 256 → p + q * 256 < 65536
      go p q hp hq = omega arith

  half_word : (a : ℕ) → Memory2 f a < two32
  half_word a = le_trans (half_lt a) (lit≤ tt)

  word_lt : (address : ℕ) → Memory4 f address < two32
  word_lt address =
      let a : ℕ = address / 4 * 4 in
      go (f a) (byte f a 1) (byte f a 2) (byte f a 3) (b a) (b ((a + 1) % two32))
      (b ((a + 2) % two32)) (b ((a + 3) % two32))
    where
      go : (p q r s : ℕ) → p < 256 → q < 256 → r < 256 → s < 256
          → p + q * 256 + r * 65536 + s * 16777216 < two32
      go p q r s hp hq hr hs = omega arith

  sign_byte_lt : (a : ℕ) → SignExtend8 (f a) < two32
  sign_byte_lt a = either_lt (bit (f a) 7) (omega (arith, b a)) (byte_word (b a))

  sign_half_lt : (a : ℕ) → SignExtend16 (Memory2 f a) < two32
  sign_half_lt a = either_lt (bit (Memory2 f a) 15) (go (Memory2 f a) (half_lt a)) (half_word a)
    where
      go : (x : ℕ) → x < 65536 → x + 4294901760 < two32
      go x h = omega arith

  loaded_lt : (width : MemWidth) (signed : Bool) (a : ℕ) → loaded width signed f a < two32
  loaded_lt Byte false a = byte_word (b a)
  loaded_lt Byte true a = sign_byte_lt a
  loaded_lt Half false a =
      either_lt (bit a 0) (ror_lt (Memory2 f (a - 1)) 8 (half_word (a - 1)) (lit≤ tt)) (half_word a)
  loaded_lt Half true a = either_lt (bit a 0) (sign_byte_lt a) (sign_half_lt a)
  loaded_lt Word signed a = ror_lt (Memory4 f a) (8 * (a % 4)) (word_lt a) (omega arith)

  half_bytes : (a x : ℕ) → Bytes (set_memory2 a x f)
  half_bytes a x = update_bytes _ (byte_mod _) (update_bytes _ (byte_mod _) b)

  word_bytes : (address x : ℕ) → Bytes (set_memory4 address x f)
  word_bytes address x =
      update_bytes _ (byte_mod _)
      (update_bytes _ (byte_mod _)
      (update_bytes _ (byte_mod _) (update_bytes _ (byte_mod _) b)))

  stored_bytes : (width : MemWidth) (a x : ℕ) → Bytes (stored width a x f)
  stored_bytes Byte a x = update_bytes a (byte_mod x) b
  stored_bytes Half a x = half_bytes (cond (bit a 0) (a - 1) a) x
  stored_bytes Word a x = word_bytes a x

moved_lt : (up : Bool) (x off : ℕ) → moved up x off < two32
moved_lt true x off = word_mod (x + off)
moved_lt false x off = word_mod (x + (two32 - off))

module _ {m : Machine} (s : Sound m) (width : MemWidth) (rd rn x off : ℕ) (pre up writeback : Bool)
  where
    load-sound : (signed : Bool) → Sound (load width signed rd rn x off pre up writeback m)
    load-sound signed =
        reg_sound (either Sound (writes_back pre writeback) (reg_sound s rn (moved_lt up x off)) s)
        rd
        (loaded_lt s.bytes width signed (address pre up x off))

    store-sound : Sound (store width rd rn x off pre up writeback m)
    store-sound =
        let s1 = mem_sound s (stored_bytes s.bytes width (address pre up x off) (m.r rd)) in
        either Sound (writes_back pre writeback) (reg_sound s1 rn (moved_lt up x off)) s1

-- loads and stores of several registers

load_all_words : {f r : ℕ → ℕ} → Bytes f → (is : List ℕ) (a : ℕ) → Words r
    → Words (load_all is a f r)
load_all_words b [] a w = w
load_all_words {f = f} {r = r} b (i ∷ is) a w =
    load_all_words {r = update i (Memory4 f a) r} b is ((a + 4) % two32)
    (update_words i (word_lt b a) w)

store_all_bytes : {f : ℕ → ℕ} (r : ℕ → ℕ) (is : List ℕ) (a : ℕ) → Bytes f
    → Bytes (store_all r is a f)
store_all_bytes r [] a b = b
store_all_bytes {f = f} r (i ∷ is) a b =
    store_all_bytes {f = set_memory4 a (r i) f} r is ((a + 4) % two32) (word_bytes b a (r i))

module _ {m : Machine} (s : Sound m) (up pre writeback : Bool) (rn rlist : ℕ) where
  load_multiple_sound : Sound (load_multiple up pre writeback rn rlist m)
  load_multiple_sound =
      regs_sound s
      (load_all_words s.bytes (listed rlist 15) _
      (either Sound writeback
      (reg_sound s rn (moved_lt up (m.r rn) (length (listed rlist 16) * 4))) s).words)

  load_multiple_pc_sound : Sound (load_multiple_with_pc up pre writeback rn rlist m)
  load_multiple_pc_sound =
      let w =
      load_all_words s.bytes (listed rlist 15)
      (start up pre (m.r rn) (length (listed rlist 16))) s.words in
      regs_sound s
      (either Words writeback (update_words rn (moved_lt up _ (length (listed rlist 16) * 4)) w)
      w)

  store_multiple_sound : (pc : ℕ) → Sound (store_multiple up pre writeback rn rlist pc m)
  store_multiple_sound pc =
      let s1 =
      mem_sound s
      (store_all_bytes _ (listed rlist 16) (start up pre (m.r rn) (length (listed rlist 16)))
      s.bytes) in
      either Sound writeback
      (reg_sound s1 rn (moved_lt up (m.r rn) (length (listed rlist 16) * 4))) s1

-- an address with bit 0 set
return_lt : (x : ℕ) → x < two32 → x / 2 * 2 + 1 < two32
return_lt x h = omega arith

-- what an instruction makes, if that is said, has a property
abbrev pub Each : (Machine × ℕ → Type 0) → Option (Machine × ℕ) → Type 0
Each P none = Unit {0}
Each P (some next) = P next

pub each_unless : (P : Machine × ℕ → Type 0) (b : Bool) {next : Machine × ℕ} → P next
    → Each P (cond b none (some next))
each_unless P true p = tt
each_unless P false p = p

pub execute_each : (P : Machine × ℕ → Type 0) (i : Instr) (m : Machine) → P (onward i m)
    → Each P (operation i i.op m) → Each P (execute i m)
unfolding execute
execute_each P i m p q = go (no_instruction i) (passed i.cond m) (unpredictable i.op)
  where
    go : (no pass un : Bool)
        → Each P
        (cond no none (cond pass (cond un none (operation i i.op m)) (some (onward i m))))
    go true pass un = tt
    go false false un = p
    go false true true = tt
    go false true false = q

-- the machine after an operation is in range
abbrev Kept : Machine × ℕ → Type 0
Kept next = Sound next.0

operation_kept : (i : Instr) (op : Op) (m : Machine) → InRange op → Sound m
    → Each Kept (operation i op m)
operation_kept i (Alu op w rd rn op2) m r s =
    each_unless Kept (eqb rd 15)
    (processing_sound s op w rd rn op2 (pc_read i op rn op2) (aligned_pc_lt i op rn op2) r.1
    r.2)
operation_kept i (Mul acc w rd rn rs rm) m r s = multiply_sound s acc w rd rn rs rm
operation_kept i (MulLong signed acc w hi lo rs rm) m r s =
    multiply_long_sound s signed acc w hi lo rs rm
operation_kept i (Swap b rd rm rn) m r s = tt
operation_kept i (Bx rm) m r s = t_sound s (bit (R m (pc_value i) rm) 0)
operation_kept i (Branch link target) m r s =
    either Sound link (reg_sound s 14 (word_mod (i.addr + size_of i.thumb))) s
operation_kept i (ThumbBlHigh lr) m r s = reg_sound s 14 r
operation_kept i (ThumbBlLow off) m r s =
    reg_sound s 14 (return_lt (following i) (word_mod (i.addr + size_of i.thumb)))
operation_kept i (Mem ld width signed rd rn offset pre up writeback) m r s =
    each_unless Kept (eqb rd 15)
    (either Sound ld (load-sound s width rd rn _ _ pre up writeback signed)
    (store-sound s width rd rn _ _ pre up writeback))
operation_kept i (BlockMem ld rn rlist pre up s_bit writeback) m r s =
    each_unless Kept s_bit
    (either Kept ld
    (either Kept (bit rlist 15) (load_multiple_pc_sound s up pre writeback rn rlist)
    (load_multiple_sound s up pre writeback rn rlist))
    (store_multiple_sound s up pre writeback rn rlist (pc_value i)))
operation_kept i (Mrs spsr rd) m r s = tt
operation_kept i (MsrReg spsr fields rm) m r s = tt
operation_kept i (MsrImm spsr fields value) m r s = tt
operation_kept i (Swi imm) m r s = tt
operation_kept i (Undefined raw) m r s = tt

-- an instruction whose fields are in range leaves a machine in range
pub execute_sound : (i : Instr) (m : Machine) → InRange i.op → Sound m → (next : Machine × ℕ)
    → execute i m ≡ some next → Sound next.0
execute_sound i m r s next e =
    subst (Each Kept) e (execute_each Kept i m s (operation_kept i i.op m r s))

-- the key where an operation goes on is below 2^32
abbrev Below : Machine × ℕ → Type 0
Below next = next.1 < two32

-- an even address
key_lt : (t : Bool) (x : ℕ) → x < two32 → x % 2 ≡ 0 → key t x < two32
key_lt true x h e = omega arith
key_lt false x h e = omega arith

-- an address without bit 0 in Thumb, without bits 1:0 in ARM
cut_key_lt : (t : Bool) (x : ℕ) → x < two32 → key t (cond t (x / 2 * 2) (x / 4 * 4)) < two32
cut_key_lt true x h = omega arith
cut_key_lt false x h = omega arith

following_key_lt : (t : Bool) (a : ℕ) → (t ≡ true → a % 2 ≡ 0)
    → key t ((a + size_of t) % two32) < two32
following_key_lt true a e = go a (e refl)
  where
    go : (a : ℕ) → a % 2 ≡ 0 → (a + 2) % 4294967296 + 1 < 4294967296
    go a e = omega arith
following_key_lt false a e = omega arith

module _ (i : Instr) (even : i.thumb ≡ true → i.addr % 2 ≡ 0) where
  onward_key : key i.thumb (following i) < two32
  onward_key = following_key_lt i.thumb i.addr even

  operation_key : (op : Op) (m : Machine) → InRange op → Sound m → Each Below (operation i op m)
  operation_key (Alu op w rd rn op2) m r s = each_unless Below (eqb rd 15) onward_key
  operation_key (Mul acc w rd rn rs rm) m r s = onward_key
  operation_key (MulLong signed acc w hi lo rs rm) m r s = onward_key
  operation_key (Swap b rd rm rn) m r s = tt
  operation_key (Bx rm) m r s =
      let x : ℕ = R m (pc_value i) rm in cut_key_lt (bit x 0) x (reg_lt s (pc_value i) rm (pc_lt i) r)
  operation_key (Branch link target) m r s = key_lt i.thumb target r.0 r.1
  operation_key (ThumbBlHigh lr) m r s = onward_key
  operation_key (ThumbBlLow off) m r s =
      return_lt ((m.r 14 + off * 2) % two32) (word_mod (m.r 14 + off * 2))
  operation_key (Mem ld width signed rd rn offset pre up writeback) m r s =
      each_unless Below (eqb rd 15) onward_key
  operation_key (BlockMem ld rn rlist pre up s_bit writeback) m r s =
      each_unless Below s_bit
      (either Below ld
      (either Below (bit rlist 15)
      (cut_key_lt i.thumb (loaded_pc up pre rn rlist m) (word_lt s.bytes _)) onward_key)
      onward_key)
  operation_key (Mrs spsr rd) m r s = tt
  operation_key (MsrReg spsr fields rm) m r s = tt
  operation_key (MsrImm spsr fields value) m r s = tt
  operation_key (Swi imm) m r s = tt
  operation_key (Undefined raw) m r s = tt

-- and goes on at a key below 2^32, if it does not stand at an odd address in Thumb
pub execute_key : (i : Instr) (m : Machine) → InRange i.op → Sound m
    → (i.thumb ≡ true → i.addr % 2 ≡ 0)
    → (next : Machine × ℕ) → execute i m ≡ some next → next.1 < 2 ^ 32
execute_key i m r s even next e =
    subst (Each Below) e
    (execute_each Below i m (onward_key i even) (operation_key i even i.op m r s))

-- the operations that are written out: Rd of Alu and Mem is not R15, and BlockMem is without S
abbrev pub WrittenOut : Op → Type 0
WrittenOut (Alu op s rd rn op2) = rd ≢ 15
WrittenOut (Mul acc s rd rn rs rm) = Unit {0}
WrittenOut (MulLong signed acc s hi lo rs rm) = Unit {0}
WrittenOut (Swap b rd rm rn) = ⊥
WrittenOut (Bx rm) = Unit {0}
WrittenOut (Branch link target) = Unit {0}
WrittenOut (ThumbBlHigh lr) = Unit {0}
WrittenOut (ThumbBlLow off) = Unit {0}
WrittenOut (Mem ld width signed rd rn offset pre up writeback) = rd ≢ 15
WrittenOut (BlockMem ld rn rlist pre up s_bit writeback) = s_bit ≡ false
WrittenOut (Mrs spsr rd) = ⊥
WrittenOut (MsrReg spsr fields rm) = ⊥
WrittenOut (MsrImm spsr fields value) = ⊥
WrittenOut (Swi imm) = ⊥
WrittenOut (Undefined raw) = ⊥

-- an outcome is some machine and key
abbrev Said : Option (Machine × ℕ) → Type 0
Said o = (next : Machine × ℕ) × (o ≡ some next)

said_unless : (b : Bool) (next : Machine × ℕ) → b ≡ false → Said (cond b none (some next))
said_unless true next e = absurd (true≢false e)
said_unless false next e = (next, refl)

not_eqb : (r k : ℕ) → r ≢ k → eqb r k ≡ false
not_eqb r k n = is_false (eqb r k) (λ t. n (eqb→eq r k t))

pub operation_said : (i : Instr) (op : Op) (m : Machine) → WrittenOut op
    → (next : Machine × ℕ) × (operation i op m ≡ some next)
operation_said i (Alu op w rd rn op2) m h = said_unless (eqb rd 15) _ (not_eqb rd 15 h)
operation_said i (Mul acc w rd rn rs rm) m h = (_, refl)
operation_said i (MulLong signed acc w hi lo rs rm) m h = (_, refl)
operation_said i (Swap b rd rm rn) m h = absurd h
operation_said i (Bx rm) m h = (_, refl)
operation_said i (Branch link target) m h = (_, refl)
operation_said i (ThumbBlHigh lr) m h = (_, refl)
operation_said i (ThumbBlLow off) m h = (_, refl)
operation_said i (Mem ld width signed rd rn offset pre up writeback) m h =
    said_unless (eqb rd 15) _ (not_eqb rd 15 h)
operation_said i (BlockMem ld rn rlist pre up s_bit writeback) m h = said_unless s_bit _ h
operation_said i (Mrs spsr rd) m h = absurd h
operation_said i (MsrReg spsr fields rm) m h = absurd h
operation_said i (MsrImm spsr fields value) m h = absurd h
operation_said i (Swi imm) m h = absurd h
operation_said i (Undefined raw) m h = absurd h

-- an instruction of its set whose operation is written out and not unpredictable
pub execute_said : (i : Instr) (m : Machine) → WrittenOut i.op → no_instruction i ≡ false
    → unpredictable i.op ≡ false
    → (next : Machine × ℕ) × (execute i m ≡ some next)
unfolding execute
execute_said i m h = go (no_instruction i) (passed i.cond m) (unpredictable i.op)
  where
    go : (no pass un : Bool) → no ≡ false → un ≡ false
        → Said (cond no none (cond pass (cond un none (operation i i.op m)) (some (onward i m))))
    go true pass un e f = absurd (true≢false e)
    go false false un e f = (onward i m, refl)
    go false true true e f = absurd (true≢false f)
    go false true false e f = operation_said i i.op m h
