-- T at the exit of a block is bit 0 of the key that it leads to, if it was the block's own set at
-- its entry, and each step of the interpreter leaves it so.
use Rattle.std.proofs.Common.{Some, None}
use Prim.Native.Nat.{ℕ, ◌%◌}
use mathlib.Core.Path.{◌≡◌, refl, sym, ap, ◌∙◌, subst}
use mathlib.Core.Bool.{Bool}
use mathlib.Core.List.{List, Memᴰ}
use mathlib.Core.Option.{some}
use native.Mathlib.Omega.{arith}
use Rattle.base_words.specs.Word.{bit}
use Rattle.armv4t.specs.declared.Op.{Op}
use Rattle.armv4t.specs.declared.Op.TheVariants.{Alu, Mul, MulLong, Swap, Bx, Branch, ThumbBlHigh}
use Rattle.armv4t.specs.declared.Op.TheVariants.{ThumbBlLow, Mem, BlockMem, Mrs, MsrReg, MsrImm}
use Rattle.armv4t.specs.declared.Op.TheVariants.{Swi, Undefined}
use Rattle.armv4t.specs.Fused.{Fused, fuse_ops, fuse}
use Rattle.armv4t.specs.declared.Instr.{Instr}
use Rattle.armv4t.specs.InRange.{InRange}
use Rattle.file_instrs.specs.declared.decode.TimedInstr.{TimedInstr}
use Rattle.file_blocks.specs.Parse.{Block}
use Rattle.file_blocks.specs.Address.{region}
use Rattle.armv4t_manual.specs.Machine.{Machine, thumb_state}
use Rattle.armv4t_manual.specs.Execute.{key_after, operation, execute}
use Rattle.armv4t_manual.proofs.Kept.{Each, execute_each}
use Rattle.armv4t_manual.proofs.State.{execute_state, key_after_bit}
use Rattle.claim_meaning.specs.Block.{CarriedOut, by_manual, by_interpreter, Sequence, last}
use Rattle.claim_meaning.specs.Block.{pair, more, in_order, granted, absent, refused}
use Rattle.claim_meaning.specs.Block.{StepsKeepState, KeepsState}

-- what is asked of a record: it is of a set, at an even address, with its fields in range
pub record OfSet (thumb : Bool) (x : TimedInstr) : Type 0 where
  pub set : x.instr.thumb ≡ thumb
  pub even : x.instr.addr % 2 ≡ 0
  pub ranges : InRange x.instr.op

no_pair : {target ret : ℕ} → ◌≡◌ {A = Fused} None (Some (target, ret)) → ⊥
no_pair e = let z : ◌≡◌ {A = ℕ} 0 1 = cc in omega arith

-- the first half of a pair only leads on
high_leads_on : (i : Instr) (m : Machine) (op low : Op) (a target ret : ℕ)
    → fuse_ops op low a ≡ Some (target, ret)
    → Each (λ (next : Machine × ℕ). next.1 ≡ key_after i) (operation i op m)
high_leads_on i m (Alu op s rd rn op2) low a target ret e = absurd (no_pair e)
high_leads_on i m (Mul acc s rd rn rs rm) low a target ret e = absurd (no_pair e)
high_leads_on i m (MulLong signed acc s hi lo rs rm) low a target ret e = absurd (no_pair e)
high_leads_on i m (Swap b rd rm rn) low a target ret e = absurd (no_pair e)
high_leads_on i m (Bx rm) low a target ret e = absurd (no_pair e)
high_leads_on i m (Branch link t) low a target ret e = absurd (no_pair e)
high_leads_on i m (ThumbBlHigh lr) low a target ret e = refl
high_leads_on i m (ThumbBlLow off) low a target ret e = absurd (no_pair e)
high_leads_on i m (Mem ld width signed rd rn offset pre up writeback) low a target ret e =
    absurd (no_pair e)
high_leads_on i m (BlockMem ld rn rlist pre up s_bit writeback) low a target ret e =
    absurd (no_pair e)
high_leads_on i m (Mrs spsr rd) low a target ret e = absurd (no_pair e)
high_leads_on i m (MsrReg spsr fields rm) low a target ret e = absurd (no_pair e)
high_leads_on i m (MsrImm spsr fields value) low a target ret e = absurd (no_pair e)
high_leads_on i m (Swi imm) low a target ret e = absurd (no_pair e)
high_leads_on i m (Undefined raw) low a target ret e = absurd (no_pair e)

pair_leads_on : (i j : Instr) (m : Machine) (target ret : ℕ) (half : Machine × ℕ)
    → fuse i j ≡ Some (target, ret) → execute i m ≡ some half → half.1 ≡ key_after i
unfolding fuse
pair_leads_on i j m target ret half e f =
    subst (Each (λ (next : Machine × ℕ). next.1 ≡ key_after i)) f
    (execute_each (λ (next : Machine × ℕ). next.1 ≡ key_after i) i m refl
    (high_leads_on i m i.op j.op j.addr target ret e))

module _ (step : ℕ → ℕ → Machine → Machine × ℕ) (keeps : StepsKeepState step) (place : ℕ)
    (thumb : Bool) where
  carried_state : (x : TimedInstr) → OfSet thumb x → (m : Machine) (next : Machine × ℕ)
      {before after : ℕ} → thumb_state m ≡ thumb → CarriedOut step place x m next before after
      → thumb_state next.0 ≡ bit next.1 0
  carried_state x o m next own (by_manual n e f) =
      execute_state x.instr m o.even (own ∙ sym o.set) o.ranges next f
  carried_state x o m next own (by_interpreter n e f) =
      subst (λ (q : Machine × ℕ). thumb_state q.0 ≡ bit q.1 0) f (keeps n x.instr.addr m)

  -- where it leads on, T is that of the set
  still : (x : TimedInstr) → OfSet thumb x → (next : Machine × ℕ)
      → thumb_state next.0 ≡ bit next.1 0 → next.1 ≡ key_after x.instr
      → thumb_state next.0 ≡ thumb
  still x o next p e =
      p ∙ ap (λ (k : ℕ). bit k 0) e ∙ key_after_bit x.instr o.even ∙ o.set

  sequence_state : {before after : ℕ} {xs : List TimedInstr} {m : Machine} {out : Machine × ℕ}
      → ((x : TimedInstr) → Memᴰ x xs → OfSet thumb x) → thumb_state m ≡ thumb
      → Sequence step place before after xs m out → thumb_state out.0 ≡ bit out.1 0
  sequence_state o own (last i j x xs m next alone by ends) =
      carried_state x (o x (Memᴰ.head refl)) m next own by
  sequence_state o own (pair n x y xs target ret m half next e f g) =
      let ox = o x (Memᴰ.head refl) in
      let oy = o y (Memᴰ.tail (Memᴰ.head refl)) in
      let p = execute_state x.instr m ox.even (own ∙ sym ox.set) ox.ranges half f in
      let q = pair_leads_on x.instr y.instr m target ret half e f in
      execute_state y.instr half.0 oy.even (still x ox half p q ∙ sym oy.set)
      oy.ranges next g
  sequence_state o own (more i j k x xs m next out alone by stays e s) =
      let ox = o x (Memᴰ.head refl) in
      sequence_state (λ y n. o y (Memᴰ.tail n))
      (still x ox next (carried_state x ox m next own by) e) s

-- a block whose records are so
pub keeps_state : (multiplier : ℕ) (b : Block)
    → ((x : TimedInstr) → Memᴰ x b.instrs → OfSet b.thumb x) → KeepsState multiplier b
keeps_state multiplier b o step keeps z m out used own (in_order n e s) =
    sequence_state step keeps (region b.addr) b.thumb o own s
keeps_state multiplier b o step keeps z m out used own (granted n h e f g s) =
    sequence_state step keeps (region b.addr) b.thumb o own s
keeps_state multiplier b o step keeps z m out used own (absent e f s) =
    subst (λ (q : Machine × ℕ). thumb_state q.0 ≡ bit q.1 0) s (keeps 0 b.addr m)
keeps_state multiplier b o step keeps z m out used own (refused h e f g s) =
    subst (λ (q : Machine × ℕ). thumb_state q.0 ≡ bit q.1 0) s (keeps 0 b.addr m)
