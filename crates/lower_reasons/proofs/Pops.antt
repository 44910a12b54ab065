-- The reason of a BlockMem: of the pop of PC that of an exit, of another the first of four.
-- Assumes nothing.
use Prim.Native.Nat.{ℕ, zero, suc}
use mathlib.Core.Path.{◌≡◌, refl, sym}
use mathlib.Core.Bool.{Bool, true, false, not, cond, ◌&&◌, and-true, false≢true}
use mathlib.Core.Option.{Option, none, some}
use lib.Dec.{eqb, eqb-suc-zero}
use Rattle.armv4t.specs.RegisterList.{is_listed}
use Rattle.lower_reasons.specs.declared.types.Reason.{Reason}
use Rattle.lower_reasons.specs.declared.types.Reason.TheVariants.{ConditionalExit, BiosExit}
use Rattle.lower_reasons.specs.declared.types.Reason.TheVariants.{UserRegisters, EmptyList}
use Rattle.lower_reasons.specs.declared.types.Reason.TheVariants.{PcBase, PcLoaded}
use Rattle.lower_reasons.specs.Reasons.{ListFields, pops_pc, loads_pc}

-- the reason of a BlockMem: whether it is the pop of PC, user registers, an empty list, PC as base,
-- PC in a loaded list, the condition Al, region 0
abbrev pub list_reason : Bool → Bool → Bool → Bool → Bool → Bool → Bool → Option Reason
list_reason p s e b l al bios =
    cond (p && not al) (some ConditionalExit)
    (cond (p && bios) (some BiosExit)
    (cond s (some UserRegisters)
    (cond e (some EmptyList)
    (cond b (some PcBase)
    (cond (l && not (p && (al && not bios))) (some PcLoaded) none)))))

-- PC is in no empty list
not_empty : (n : ℕ) → is_listed n 15 ≡ true → eqb n 0 ≡ false
not_empty zero h = sym h
not_empty (suc n) h = eqb-suc-zero n

pop_parts : (load pre up s wb l b : Bool)
    → (load && not pre && up && not s && wb && l && not b) ≡ true
    → (s ≡ false) × (l ≡ true) × (b ≡ false) × ((load && l) ≡ true)
pop_parts false pre up s wb l b h = absurd (false≢true h)
pop_parts true true up s wb l b h = absurd (false≢true h)
pop_parts true false false s wb l b h = absurd (false≢true h)
pop_parts true false true true wb l b h = absurd (false≢true h)
pop_parts true false true false false l b h = absurd (false≢true h)
pop_parts true false true false true false b h = absurd (false≢true h)
pop_parts true false true false true true true h = absurd (false≢true h)
pop_parts true false true false true true false h = (refl, refl, refl, refl)

-- the pop of PC is none of the others but the last
pub pop_facts : (t : ListFields) → pops_pc t ≡ true
    → (t.s_bit ≡ false) × (eqb t.rlist 0 ≡ false) × (eqb t.rn 15 ≡ false)
    × (loads_pc t ≡ true)
pop_facts t h =
    let p =
    pop_parts t.load t.pre t.up t.s_bit t.writeback (is_listed t.rlist 15)
    (eqb t.rn 15) h in
    (p.0, not_empty t.rlist p.1, p.2, p.3)

-- the reason of the pop of PC is that of an exit
pub pop_reason : (t : ListFields) (al bios : Bool) → pops_pc t ≡ true
    → list_reason (pops_pc t) t.s_bit (eqb t.rlist 0) (eqb t.rn 15) (loads_pc t) al bios
    ≡ cond (not al) (some ConditionalExit) (cond bios (some BiosExit) none)
pop_reason t al bios h =
    rw (h, (pop_facts t h).0, (pop_facts t h).1, (pop_facts t h).2, (pop_facts t h).3) (by al bios)
  where
    by : (al bios : Bool) → list_reason true false false false true al bios
        ≡ cond (not al) (some ConditionalExit) (cond bios (some BiosExit) none)
    by false bios = refl
    by true true = refl
    by true false = refl

-- the reason of another BlockMem
pub other_reason : (p s e b l al bios : Bool) → p ≡ false
    → list_reason p s e b l al bios
    ≡ cond s (some UserRegisters)
    (cond e (some EmptyList) (cond b (some PcBase) (cond l (some PcLoaded) none)))
other_reason p s e b l al bios h = rw (h, and-true l)
