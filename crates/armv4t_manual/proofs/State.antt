-- T after an instruction of the machine's own set is bit 0 of the key where it goes on.
use mathlib.Core.Path.{◌≡◌, refl, sym, ap, ◌∙◌, subst}
use mathlib.Core.Bool.{Bool, true, false, cond, not, ◌&&◌, true≢false}
use mathlib.Core.Option.{none, some}
use Prim.Native.Nat.{ℕ, ◌+◌, ◌*◌, ◌/◌, ◌%◌, ◌^◌}
use native.Mathlib.Omega.{arith}
use lib.Dec.{eqb}
use Rattle.base_lists.proofs.Bools.{either}
use Rattle.base_words.specs.Word.{bit, one_if}
use Rattle.armv4t.specs.declared.AluOp.{AluOp}
use Rattle.armv4t.specs.declared.Operand2.{Operand2}
use Rattle.armv4t.specs.declared.MemWidth.{MemWidth}
use Rattle.armv4t.specs.declared.Op.{Op}
use Rattle.armv4t.specs.declared.Op.TheVariants.{Alu, Mul, MulLong, Swap, Bx, Branch, ThumbBlHigh}
use Rattle.armv4t.specs.declared.Op.TheVariants.{ThumbBlLow, Mem, BlockMem, Mrs, MsrReg, MsrImm}
use Rattle.armv4t.specs.declared.Op.TheVariants.{Swi, Undefined}
use Rattle.armv4t.specs.declared.Instr.{Instr}
use Rattle.armv4t.specs.AluOp.{is_compare}
use Rattle.armv4t.specs.Cond.{is_al}
use Rattle.armv4t.specs.Instr.{size_of, pc_value}
use Rattle.armv4t.specs.InRange.{InRange}
use Rattle.armv4t_manual.specs.Machine.{two32, Machine, R, set_reg, set_flags}
use Rattle.armv4t_manual.specs.Machine.{thumb_state, set_t}
use Rattle.armv4t_manual.specs.Conditions.{passed}
use Rattle.armv4t_manual.specs.DataProcessing.{alu, settle, data_processing}
use Rattle.armv4t_manual.specs.Shifter.{shifter}
use Rattle.armv4t_manual.specs.Multiply.{multiply, multiply_long}
use Rattle.armv4t_manual.specs.Transfer.{offset_value, base, writes_back, load, store}
use Rattle.armv4t_manual.specs.Multiple.{load_multiple, load_multiple_with_pc, loaded_pc}
use Rattle.armv4t_manual.specs.Multiple.{store_multiple}
use Rattle.armv4t_manual.specs.Unsaid.{no_instruction_of, no_instruction, unpredictable}
use Rattle.armv4t_manual.specs.Execute.{key, following, key_after, onward, pc_read, operation}
use Rattle.armv4t_manual.specs.Execute.{execute}
use Rattle.armv4t_manual.proofs.Kept.{Each, each_unless}

-- a bit is that of a truth value, if it is the same number
bit_is : (x i : ℕ) (t : Bool) → x / 2 ^ i % 2 ≡ one_if t → bit x i ≡ t
bit_is x i true e = ap (λ (k : ℕ). eqb k 1) e
bit_is x i false e = ap (λ (k : ℕ). eqb k 1) e

-- bit 0 of the key of an even address
key_bit : (t : Bool) (x : ℕ) → x % 2 ≡ 0 → bit (key t x) 0 ≡ t
key_bit true x e = bit_is (x + 1) 0 true (let z : (x + 1) / 1 % 2 ≡ 1 = omega arith in z)
key_bit false x e = bit_is (x + 0) 0 false (let z : (x + 0) / 1 % 2 ≡ 0 = omega arith in z)

-- an address without bit 0, or without bits 1:0
cut_even : (t : Bool) (x : ℕ) → cond t (x / 2 * 2) (x / 4 * 4) % 2 ≡ 0
cut_even true x = omega arith
cut_even false x = omega arith

-- T as it is set
set_state : (t : Bool) (m : Machine) → thumb_state (set_t t m) ≡ t
set_state t m =
    bit_is (m.other_bits / 64 * 64 + one_if t * 32 + m.other_bits % 32) 5 t (go t m.other_bits)
  where
    go : (t : Bool) (x : ℕ) → (x / 64 * 64 + one_if t * 32 + x % 32) / 32 % 2 ≡ one_if t
    go true x = omega arith
    go false x = omega arith

module _ (m : Machine) where
  -- another machine has the same T
  abbrev Same : Machine → Type 0
  Same u = u.other_bits ≡ m.other_bits

  settle_same : (op : AluOp) (s : Bool) (rd : ℕ) (a : ℕ × Bool × Bool) → Same (settle op s rd a m)
  settle_same op s rd a =
      let p : Same (cond s (set_flags (bit a.0 31) (eqb a.0 0) a.1 a.2 m) m) =
      either Same s refl refl in
      either Same (is_compare op) p p

  processing_same : (op : AluOp) (s : Bool) (rd rn : ℕ) (op2 : Operand2) (pc : ℕ)
      → Same (data_processing op s rd rn op2 pc m)
  processing_same op s rd rn op2 pc =
      let q : ℕ × Bool = shifter m pc op2 in
      settle_same op s rd (alu op (R m pc rn) q.0 q.1 m.c m.v)

-- the address after an instruction at an even one is even
following_even : (i : Instr) → i.addr % 2 ≡ 0 → following i % 2 ≡ 0
following_even i even = go i.thumb i.addr even
  where
    go : (t : Bool) (a : ℕ) → a % 2 ≡ 0 → (a + size_of t) % 4294967296 % 2 ≡ 0
    go true a e = omega arith
    go false a e = omega arith

-- bit 0 of its key is that of the instruction's set
pub key_after_bit : (i : Instr) → i.addr % 2 ≡ 0 → bit (key_after i) 0 ≡ i.thumb
key_after_bit i even = key_bit i.thumb (following i) (following_even i even)

module _ (i : Instr) (m : Machine) (even : i.addr % 2 ≡ 0) (own : thumb_state m ≡ i.thumb) where
  -- T is bit 0 of the key
  abbrev Agrees : Machine × ℕ → Type 0
  Agrees next = thumb_state next.0 ≡ bit next.1 0

  -- a machine with the same T, at a key of the same set
  stays : (u : Machine) (x : ℕ) → Same m u → x % 2 ≡ 0 → Agrees (u, key i.thumb x)
  stays u x p e =
      ap (λ (k : ℕ). bit k 5) p ∙ own ∙ sym (key_bit i.thumb x e)

  leads_on : (u : Machine) → Same m u → Agrees (onward i u)
  leads_on u p = stays u (following i) p (following_even i even)

  -- halves of BL are Thumb's
  of_thumb : (t a : Bool) → not (t && a) ≡ false → t ≡ true
  of_thumb true a e = refl
  of_thumb false a e = absurd (true≢false e)

  load_same : (width : MemWidth) (signed : Bool) (rd rn x off : ℕ) (pre up writeback : Bool)
      → Same m (load width signed rd rn x off pre up writeback m)
  load_same width signed rd rn x off pre up writeback =
      either (Same m) (writes_back pre writeback) refl refl

  store_same : (width : MemWidth) (rd rn x off : ℕ) (pre up writeback : Bool)
      → Same m (store width rd rn x off pre up writeback m)
  store_same width rd rn x off pre up writeback =
      either (Same m) (writes_back pre writeback) refl refl

  operation_state : (op : Op) → InRange op → no_instruction_of i.thumb i.cond op ≡ false
      → Each Agrees (operation i op m)
  operation_state (Alu op w rd rn op2) r n =
      each_unless Agrees (eqb rd 15)
      (leads_on (data_processing op w rd rn op2 (pc_read i op rn op2) m)
      (processing_same m op w rd rn op2 (pc_read i op rn op2)))
  operation_state (Mul acc w rd rn rs rm) r n =
      leads_on (multiply acc w rd rn rs rm m) (either (Same m) w refl refl)
  operation_state (MulLong signed acc w hi lo rs rm) r n =
      leads_on (multiply_long signed acc w hi lo rs rm m) (either (Same m) w refl refl)
  operation_state (Swap b rd rm rn) r n = tt
  operation_state (Bx rm) r n =
      let x : ℕ = R m (pc_value i) rm in
      set_state (bit x 0) m ∙ sym (key_bit (bit x 0) _ (cut_even (bit x 0) x))
  operation_state (Branch link target) r n =
      stays (cond link (set_reg 14 (following i) m) m) target (either (Same m) link refl refl) r.1
  operation_state (ThumbBlHigh lr) r n = leads_on (set_reg 14 lr m) refl
  operation_state (ThumbBlLow off) r n =
      let x : ℕ = (m.r 14 + off * 2) % two32 in
      own ∙ of_thumb i.thumb (is_al i.cond) n
      ∙ sym (key_bit true (x / 2 * 2) (cut_even true x))
  operation_state (Mem ld width signed rd rn offset pre up writeback) r n =
      let x : ℕ = base i.thumb m (pc_value i) rn in
      let off : ℕ = offset_value m (pc_value i) offset in
      each_unless Agrees (eqb rd 15)
      (leads_on
      (cond ld (load width signed rd rn x off pre up writeback m)
      (store width rd rn x off pre up writeback m))
      (either (Same m) ld (load_same width signed rd rn x off pre up writeback)
      (store_same width rd rn x off pre up writeback)))
  operation_state (BlockMem ld rn rlist pre up s_bit writeback) r n =
      let x : ℕ = loaded_pc up pre rn rlist m in
      each_unless Agrees s_bit
      (either Agrees ld
      (either Agrees (bit rlist 15)
      (stays (load_multiple_with_pc up pre writeback rn rlist m)
      (cond i.thumb (x / 2 * 2) (x / 4 * 4)) refl (cut_even i.thumb x))
      (leads_on (load_multiple up pre writeback rn rlist m) refl))
      (leads_on (store_multiple up pre writeback rn rlist (pc_value i) m)
      (either (Same m) writeback refl refl)))
  operation_state (Mrs spsr rd) r n = tt
  operation_state (MsrReg spsr fields rm) r n = tt
  operation_state (MsrImm spsr fields value) r n = tt
  operation_state (Swi imm) r n = tt
  operation_state (Undefined raw) r n = tt

  -- an instruction at an even address, of the machine's own set: T after it is bit 0 of the key
  pub execute_state : InRange i.op → (next : Machine × ℕ) → execute i m ≡ some next
      → thumb_state next.0 ≡ bit next.1 0
  unfolding execute
  execute_state r next e =
      subst (Each Agrees) e
      (go (no_instruction i) refl (passed i.cond m) (unpredictable i.op))
    where
      go : (no : Bool) → no_instruction i ≡ no → (pass un : Bool)
          → Each Agrees
          (cond no none (cond pass (cond un none (operation i i.op m)) (some (onward i m))))
      go true n pass un = tt
      go false n false un = leads_on m refl
      go false n true true = tt
      go false n true false = operation_state i.op r n
