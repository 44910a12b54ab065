-- To be believed: what is claimed of native records and of fused pairs, of Thumb's instructions
-- among them, and of the closing fall-through.
use Rattle.std.specs.Prelude.{ℕ, ◌%◌, ◌≡◌, Bool, true, false, ◌&&◌, ◌||◌, List, Some}
use Rattle.std.proofs.Math.Option.{some}
use Rattle.base_words.specs.Word.{bit}
use Rattle.armv4t.specs.declared.Op.{Op}
use Rattle.armv4t.specs.declared.Op.TheVariants.{Alu, Mul, MulLong, Swap, Bx, Branch, ThumbBlHigh}
use Rattle.armv4t.specs.declared.Op.TheVariants.{ThumbBlLow, Mem, BlockMem, Mrs, MsrReg, MsrImm}
use Rattle.armv4t.specs.declared.Op.TheVariants.{Swi, Undefined}
use Rattle.armv4t.specs.declared.Instr.{Instr}
use Rattle.armv4t.specs.Fused.{fuse}
use Rattle.file_instrs.specs.declared.decode.TimedInstr.{TimedInstr}
use Rattle.c_tree.specs.Stmt.{Owner}
use Rattle.c_meaning.specs.State.{State}
use Rattle.armv4t_manual.specs.Machine.{Machine, Sound}
use Rattle.armv4t_manual.specs.Conditions.{passed}
use Rattle.armv4t_manual.specs.Unsaid.{no_instruction, unpredictable, is_nv}
use Rattle.armv4t_manual.specs.Execute.{key_after, execute}
use Rattle.armv4t_manual.specs.Thumb.{Thumb, format_19_high, format_19_low, Fits, decoded}
use Rattle.armv4t_manual.specs.Thumb.{thumb_operation}
use Rattle.lower_forms.specs.Forms.{Native, native, Body}
use Rattle.lower_forms.specs.Block.{emit_pair, emit_instr}
use Rattle.lower_forms.specs.Agree.{Agrees}
use Rattle.lower_forms.specs.Differs.{differs_in}
use Rattle.lower_units.specs.Block.{native_text, closing}
use Rattle.lower_units.specs.Text.{Leaves, Acts}

-- of the operations that are native by themselves, whether one is a transfer: a branch, BX, or a
-- load of registers with R15 in the list
abbrev pub is_transfer : Op → Bool
is_transfer (Alu op s rd rn op2) = false
is_transfer (Mul acc s rd rn rs rm) = false
is_transfer (MulLong signed acc s hi lo rs rm) = false
is_transfer (Swap b rd rm rn) = false
is_transfer (Bx rm) = true
is_transfer (Branch link target) = true
is_transfer (ThumbBlHigh lr) = false
is_transfer (ThumbBlLow off) = false
is_transfer (Mem ld width signed rd rn offset pre up writeback) = false
is_transfer (BlockMem ld rn rlist pre up s_bit writeback) = ld && bit rlist 15
is_transfer (Mrs spsr rd) = false
is_transfer (MsrReg spsr fields rm) = false
is_transfer (MsrImm spsr fields value) = false
is_transfer (Swi imm) = false
is_transfer (Undefined raw) = false

-- whether an instruction is a transfer whose condition passes
abbrev pub is_taken : Instr → Machine → Bool
is_taken i m = passed i.cond m && is_transfer i.op

-- differences 1 and 2 of docs/DIFFERENCES.md, which are excepted here: the condition NV; and, where
-- the condition passes, that of the operation
abbrev pub is_named_difference : Instr → Machine → Bool
is_named_difference i m = is_nv i.cond || (passed i.cond m && differs_in i i.op)

-- A record in a block of its own set at an address in a region, ks being the keys of its group:
-- where it is native, with any cycles pending before it, the manual says what it does, but for the
-- records named in Unsaid; and its text, run from a state that agrees with a machine, acts as the
-- manual says, named differences aside
pub record RecordMeans (ks : List ℕ) (at region : ℕ) (x : TimedInstr) : Type 0 where
  pub said : (cycles : ℕ) (r : Native) → (emit_instr x.instr.thumb region cycles x).0 ≡ native r
      → no_instruction x.instr ≡ false → unpredictable x.instr.op ≡ false
      → (m : Machine) → (next : Machine × ℕ) × (execute x.instr m ≡ some next)
  pub acts : (cycles : ℕ) (r : Native) → (emit_instr x.instr.thumb region cycles x).0 ≡ native r
      → (o : Owner) (z : State) (m : Machine) → Sound m → Agrees z m
      → is_named_difference x.instr m ≡ false
      → (next : Machine × ℕ) → execute x.instr m ≡ some next
      → Acts (native_text ks at o r) (is_taken x.instr m) z next (key_after x.instr)

-- a record that decodes a Thumb instruction: where it is native, the manual says by A7.1 what it
-- does, and its text acts so, without exception
abbrev pub ThumbMeans : List ℕ → ℕ → ℕ → TimedInstr → Type 0
ThumbMeans ks at region x =
    (t : Thumb) → Fits t → x.instr ≡ decoded x.instr.addr t → x.instr.addr % 2 ≡ 0
    → (cycles : ℕ) (r : Native) → (emit_instr true region cycles x).0 ≡ native r
    → (o : Owner) (z : State) (m : Machine) → Sound m → Agrees z m
    → (next : Machine × ℕ) × (thumb_operation x.instr.addr t m ≡ some next)
    × Acts (native_text ks at o r) (is_taken x.instr m) z next (key_after x.instr)

-- two records that fuse: the text of the pair leaves as the manual's two instructions do, one after
-- the other
abbrev pub PairMeans : List ℕ → ℕ → TimedInstr → TimedInstr → Type 0
PairMeans ks at x y =
    (target ret : ℕ) → fuse x.instr y.instr ≡ Some (target, ret)
    → (cycles : ℕ) (o : Owner) (z : State) (m : Machine) → Sound m → Agrees z m
    → (half next : Machine × ℕ) → execute x.instr m ≡ some half
    → execute y.instr half.0 ≡ some next
    → Leaves (native_text ks at o (emit_pair cycles target ret)) z next

-- two records that decode the halves of a Thumb BL: they fuse, and the text of the pair leaves as
-- A7.1 says of the two, one after the other
abbrev pub ThumbPairMeans : List ℕ → ℕ → TimedInstr → TimedInstr → Type 0
ThumbPairMeans ks at x y =
    (h l : ℕ) → Fits (format_19_high h) → Fits (format_19_low l)
    → x.instr ≡ decoded x.instr.addr (format_19_high h)
    → y.instr ≡ decoded y.instr.addr (format_19_low l)
    → x.instr.addr % 2 ≡ 0 → y.instr.addr % 2 ≡ 0
    → (target ret : ℕ) × (fuse x.instr y.instr ≡ Some (target, ret))
    × ((cycles : ℕ) (o : Owner) (z : State) (m : Machine) → Sound m → Agrees z m
    → (half next : Machine × ℕ) × (thumb_operation x.instr.addr (format_19_high h) m ≡ some half)
    × (thumb_operation y.instr.addr (format_19_low l) half.0 ≡ some next)
    × Leaves (native_text ks at o (emit_pair cycles target ret)) z next)

-- the closing transfer (document 01) of a block with a last instruction: it leaves to the key after
-- that, with the machine as it was
abbrev pub ClosingMeans : List ℕ → Body → Instr → Type 0
ClosingMeans ks b i =
    (z : State) (m : Machine) → Agrees z m → Leaves (λ c. closing ks b) z (m, key_after i)
