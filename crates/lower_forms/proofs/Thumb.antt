-- No Thumb instruction, as thumb.rs decodes it, is a named difference.
use Prim.Native.Nat.{ℕ, ◌/◌, ◌%◌, ◌<◌}
use native.Mathlib.Omega.{arith}
use mathlib.Core.Path.{◌≡◌, refl}
use mathlib.Core.Bool.{Bool, true, false, not, ◌&&◌}
use lib.Dec.{eqb}
use Rattle.armv4t_manual.specs.Thumb.{Opcode2, Opcode3, Opcode4, Opcode5, Opcode7, Opcode8, Opcode9}
use Rattle.armv4t_manual.specs.Thumb.{Opcode10, Opcode11, Opcode12, Opcode13, Opcode14, Opcode15}
use Rattle.armv4t_manual.specs.Thumb.{Thumb, Fits, decoded, PC}
use Rattle.armv4t_manual.specs.Thumb.{add-1, add-3, sub-1, sub-3, mov-1, cmp-1, add-2, sub-2, and}
use Rattle.armv4t_manual.specs.Thumb.{eor, lsl-2, lsr-2, asr-2, adc, sbc, ror, tst, neg, cmp-2, cmn}
use Rattle.armv4t_manual.specs.Thumb.{orr, mul, bic, mvn, add-4, cmp-3, mov-3, bx, str-2, strb-2}
use Rattle.armv4t_manual.specs.Thumb.{ldr-2, ldrb-2, strh-2, ldrsb, ldrh-2, ldrsh, str-1, ldr-1}
use Rattle.armv4t_manual.specs.Thumb.{strb-1, ldrb-1, strh-1, ldrh-1, str-3, ldr-4, add-5, add-6}
use Rattle.armv4t_manual.specs.Thumb.{add-7, sub-4, push, pop, stmia, ldmia}
use Rattle.armv4t_manual.specs.Thumb.{format_1, format_2, format_3, format_4, format_5, format_6}
use Rattle.armv4t_manual.specs.Thumb.{format_7, format_8, format_9, format_10, format_11, format_12}
use Rattle.armv4t_manual.specs.Thumb.{format_13, format_14, format_15, format_16, format_17}
use Rattle.armv4t_manual.specs.Thumb.{format_18, format_19_high, format_19_low}
use Rattle.armv4t_manual.proofs.Thumb.{low, folded_odd, folded_even, multiple, by_bit}
use Rattle.lower_forms.specs.Differs.{differs_in}

-- an instruction at an address is no named difference
abbrev Same : ℕ → Thumb → Type 0
Same a t = differs_in (decoded a t) (decoded a t).op ≡ false

same_2 : (a : ℕ) (op : Opcode2) (rm rn rd : ℕ) → rn < 8 → Same a (format_2 op rm rn rd)
same_2 a add-1 rm rn rd h = rw (low rn h)
same_2 a add-3 rm rn rd h = rw (low rn h)
same_2 a sub-1 rm rn rd h = refl
same_2 a sub-3 rm rn rd h = refl

same_3 : (a : ℕ) (op : Opcode3) (rd immed : ℕ) → rd < 8 → Same a (format_3 op rd immed)
same_3 a mov-1 rd immed h = refl
same_3 a cmp-1 rd immed h = refl
same_3 a add-2 rd immed h = rw (low rd h)
same_3 a sub-2 rd immed h = refl

same_4 : (a : ℕ) (op : Opcode4) (rm rd : ℕ) → Same a (format_4 op rm rd)
same_4 a and rm rd = refl
same_4 a eor rm rd = refl
same_4 a lsl-2 rm rd = refl
same_4 a lsr-2 rm rd = refl
same_4 a asr-2 rm rd = refl
same_4 a adc rm rd = refl
same_4 a sbc rm rd = refl
same_4 a ror rm rd = refl
same_4 a tst rm rd = refl
same_4 a neg rm rd = refl
same_4 a cmp-2 rm rd = refl
same_4 a cmn rm rd = refl
same_4 a orr rm rd = refl
same_4 a mul rm rd = refl
same_4 a bic rm rd = refl
same_4 a mvn rm rd = refl

same_5 : (a : ℕ) (op : Opcode5) (rm rd : ℕ) → Same a (format_5 op rm rd)
same_5 a add-4 rm rd = go (eqb rd 15) (not (eqb (PC a % 4) 0))
  where
    go : (b c : Bool) → (b && false && c) ≡ false
    go true c = refl
    go false c = refl
same_5 a cmp-3 rm rd = refl
same_5 a mov-3 rm rd = refl
same_5 a bx rm rd = refl

same_7 : (a : ℕ) (op : Opcode7) (rm rn rd : ℕ) → Same a (format_7 op rm rn rd)
same_7 a str-2 rm rn rd = refl
same_7 a strb-2 rm rn rd = refl
same_7 a ldr-2 rm rn rd = refl
same_7 a ldrb-2 rm rn rd = refl

same_8 : (a : ℕ) (op : Opcode8) (rm rn rd : ℕ) → Same a (format_8 op rm rn rd)
same_8 a strh-2 rm rn rd = refl
same_8 a ldrsb rm rn rd = refl
same_8 a ldrh-2 rm rn rd = refl
same_8 a ldrsh rm rn rd = refl

same_9 : (a : ℕ) (op : Opcode9) (immed rn rd : ℕ) → Same a (format_9 op immed rn rd)
same_9 a str-1 immed rn rd = refl
same_9 a ldr-1 immed rn rd = refl
same_9 a strb-1 immed rn rd = refl
same_9 a ldrb-1 immed rn rd = refl

same_10 : (a : ℕ) (op : Opcode10) (immed rn rd : ℕ) → Same a (format_10 op immed rn rd)
same_10 a strh-1 immed rn rd = refl
same_10 a ldrh-1 immed rn rd = refl

same_11 : (a : ℕ) (op : Opcode11) (rd immed : ℕ) → Same a (format_11 op rd immed)
same_11 a str-3 rd immed = refl
same_11 a ldr-4 rd immed = refl

-- ADD (5): where PC has bit 1 the value is no multiple of 4
same_12 : (a : ℕ) (op : Opcode12) (rd immed : ℕ) → a % 2 ≡ 0 → immed < 256
    → Same a (format_12 op rd immed)
same_12 a add-5 rd immed e h =
    by_bit a (λ q. rw (folded_even a immed h q, multiple immed, aligned a e q))
    (λ q. rw (folded_odd a immed h q))
  where
    aligned : (a : ℕ) → a % 2 ≡ 0 → a / 2 % 2 ≡ 0 → PC a % 4 ≡ 0
    aligned a e q = omega arith
same_12 a add-6 rd immed e h = refl

same_13 : (a : ℕ) (op : Opcode13) (immed : ℕ) → Same a (format_13 op immed)
same_13 a add-7 immed = refl
same_13 a sub-4 immed = refl

same_14 : (a : ℕ) (op : Opcode14) (r : Bool) (list : ℕ) → Same a (format_14 op r list)
same_14 a push r list = refl
same_14 a pop r list = refl

same_15 : (a : ℕ) (op : Opcode15) (rn list : ℕ) → Same a (format_15 op rn list)
same_15 a stmia rn list = refl
same_15 a ldmia rn list = refl

-- the record that an instruction decodes to is no named difference
pub thumb_same : (a : ℕ) (t : Thumb) → Fits t → a % 2 ≡ 0
    → differs_in (decoded a t) (decoded a t).op ≡ false
thumb_same a (format_1 op immed rm rd) h e = refl
thumb_same a (format_2 op rm rn rd) h e = same_2 a op rm rn rd h.1
thumb_same a (format_3 op rd immed) h e = same_3 a op rd immed h.0
thumb_same a (format_4 op rm rd) h e = same_4 a op rm rd
thumb_same a (format_5 op rm rd) h e = same_5 a op rm rd
thumb_same a (format_6 rd immed) h e = refl
thumb_same a (format_7 op rm rn rd) h e = same_7 a op rm rn rd
thumb_same a (format_8 op rm rn rd) h e = same_8 a op rm rn rd
thumb_same a (format_9 op immed rn rd) h e = same_9 a op immed rn rd
thumb_same a (format_10 op immed rn rd) h e = same_10 a op immed rn rd
thumb_same a (format_11 op rd immed) h e = same_11 a op rd immed
thumb_same a (format_12 op rd immed) h e = same_12 a op rd immed e h.1
thumb_same a (format_13 op immed) h e = same_13 a op immed
thumb_same a (format_14 op r list) h e = same_14 a op r list
thumb_same a (format_15 op rn list) h e = same_15 a op rn list
thumb_same a (format_16 c immed) h e = refl
thumb_same a (format_17 immed) h e = refl
thumb_same a (format_18 immed) h e = refl
thumb_same a (format_19_high offset) h e = refl
thumb_same a (format_19_low offset) h e = refl
