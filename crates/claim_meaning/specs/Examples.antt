-- Examples: a store of a base that is not the lowest is covered. That T agrees with the key needs
-- records that are covered: the halves of a Thumb BL in an ARM block are not, and the text of the
-- pair leads to a Thumb key with T clear.
use Rattle.std.specs.Prelude.{ℕ, ◌≡◌, refl, true, false, [], ◌∷◌, Some}
use Rattle.std.proofs.Math.Option.{some}
use Rattle.armv4t.specs.declared.Cond.TheVariants.{Al}
use Rattle.armv4t.specs.declared.Op.{Op}
use Rattle.armv4t.specs.declared.Op.TheVariants.{ThumbBlHigh, ThumbBlLow, BlockMem}
use Rattle.armv4t.specs.Fused.{fuse}
use Rattle.file_instrs.specs.declared.decode.TimedInstr.{TimedInstr}
use Rattle.c_tree.specs.Stmt.{common, end}
use Rattle.c_meaning.specs.State.{bind, State, empty}
use Rattle.c_meaning.specs.Eval.{eval, eval_as}
use Rattle.c_meaning.specs.Exec.{Goes, back, exec, step, runs}
use Rattle.c_meaning.specs.Helpers.{run}
use Rattle.lower_forms.specs.InlineBody.{listed, inline_body}
use Rattle.lower_forms.specs.Block.{emit_instr, emit_pair}
use Rattle.lower_units.specs.Block.{transfer, native_text}
use Rattle.claim_meaning.specs.Block.{is_native_record, is_covered}

-- a record of an ARM block
abbrev arm_record : ℕ → Op → TimedInstr
arm_record a op =
    record { instr = record { addr = a; cond = Al; op = op; thumb = false }; cost = 1 }

-- STMIA r1, {r0, r1}, without writeback
abbrev stmia : TimedInstr
stmia = arm_record 0x08000100 (BlockMem false 1 3 false true false false)

-- it is native, and covered, so that the claim on a whole block is made of blocks with it
store_covered : (is_native_record 8 stmia ≡ true) × (is_covered 8 stmia ≡ true)
unfolding emit_instr inline_body listed
store_covered = (refl, refl)

-- the halves of a call of 0x0800010a, from an ARM block
abbrev high : TimedInstr
high = arm_record 0x08000100 (ThumbBlHigh 0x08000104)

abbrev low : TimedInstr
low = arm_record 0x08000104 (ThumbBlLow 3)

they_fuse : fuse high.instr low.instr ≡ Some (0x0800010a, 0x08000107)
unfolding fuse
they_fuse = refl

not_covered : (is_covered 8 high ≡ false) × (is_covered 8 low ≡ false)
unfolding emit_instr inline_body
not_covered = (refl, refl)

-- a state whose words are all 0, so that T, bit 5 of c[16], is clear
abbrev zeros : State
zeros =
    record {
      c = λ k. 0;
      mem = λ a. 0;
      scopes = empty ∷ [];
      answers = λ k. 0;
      interpreter = λ k c mem. record { c = c; mem = mem; answer = 0 };
    }

-- the text of the pair returns a key with bit 0 set, and leaves c[16] as it was
to_thumb_key :
    bind {B = ℕ × Goes}
    (run (native_text [] 0x08000100 common (emit_pair 2 0x0800010a 0x08000107) end) zeros)
    (λ q. some (q.0.c 16, q.1)) ≡ some (0, back 0x0800010b)
unfolding native_text transfer run runs step exec eval eval_as
to_thumb_key = refl
