-- Each instruction of a block is counted once: forms stand for as many records as the block has.
use mathlib.Core.Path.{◌≡◌, refl}
use Prim.Native.Nat.{ℕ, ◌+◌}
use package.native.Mathlib.Omega.{arith}
use mathlib.Core.Bool.{Bool}
use mathlib.Core.List.{List, [], ◌∷◌}
use mathlib.Core.Option.{Option, none, some}
use lib.ListN.{length}
use Rattle.armv4t.specs.Fused.{fuse}
use Rattle.file_instrs.specs.declared.decode.TimedInstr.{TimedInstr}
use Rattle.file_blocks.specs.Parse.{Block}
use Rattle.armv4t.specs.Cond.{is_al}
use Rattle.lower_forms.specs.Forms.{Lines, records_in, Form, native, shell}
use Rattle.lower_forms.specs.InlineBody.{inline_body}
use Rattle.lower_forms.specs.Block.{emit_lines, emit_instr, emit_instrs, body_of}
use Rattle.file_blocks.specs.Address.{region}
use Rattle.lower_forms.proofs.Every.{fused_or_lem, every_instr}
use Rattle.base_lists.proofs.Bools.{either}

-- how many records a form stands for
abbrev pub record_count : Form → ℕ
record_count (native r) = records_in r
record_count (shell h t k) = 1

-- how many records some forms stand for
abbrev pub record_counts : List Form → ℕ
record_counts [] = 0
record_counts (r ∷ rs) = record_count r + record_counts rs

lines_count : (thumb touchesBus : Bool) (cycles : ℕ) (x : TimedInstr) (body : Option Lines)
    → record_count (emit_lines thumb touchesBus cycles x body).0 ≡ 1
lines_count thumb touchesBus cycles x none = refl
lines_count thumb touchesBus cycles x (some body) =
    either (λ r. records_in r ≡ 1) (is_al x.instr.cond) refl refl

-- an instruction that is not fused is one record
pub instr_count_lem : (thumb : Bool) (region cycles : ℕ) (x : TimedInstr)
    → record_count (emit_instr thumb region cycles x).0 ≡ 1
instr_count_lem =
    every_instr (λ r. record_count r ≡ 1) (λ thumb high cycles i. refl)
    (λ thumb touchesBus cycles x. lines_count thumb touchesBus cycles x
    (inline_body thumb x.instr))
    (λ thumb cycles i link target. either (λ r. records_in r ≡ 1) (is_al i.cond) refl refl)
    (λ cycles i rm. refl)
    (λ thumb cycles rn rlist. refl)

-- forms, and cycles pending, for n records
record All (n : ℕ) (rs : List Form × ℕ) : Type 0 where
  counted : record_counts rs.0 ≡ n

instrs_all : (thumb : Bool) (region cycles : ℕ) (xs : List TimedInstr)
    → All (length xs) (emit_instrs thumb region cycles xs)
unfolding emit_instrs
instrs_all thumb region cycles [] = record { counted = refl }
instrs_all thumb region cycles (x ∷ []) =
    record { counted = omega (arith, instr_count_lem thumb region cycles x) }
instrs_all thumb region cycles (x ∷ y ∷ rest) =
    fused_or_lem (All (length (x ∷ y ∷ rest))) (fuse x.instr y.instr)
    (record {
      counted =
          omega (
            arith,
            instr_count_lem thumb region cycles x,
            (instrs_all thumb region
                (emit_instr thumb region cycles x).1 (y ∷ rest)).counted,
          );
    })
    (λ t r. record { counted = omega (arith, (instrs_all thumb region 0 rest).counted) })

pub instrs_count : (thumb : Bool) (region cycles : ℕ) (xs : List TimedInstr)
    → record_counts (emit_instrs thumb region cycles xs).0 ≡ length xs
instrs_count thumb region cycles xs = (instrs_all thumb region cycles xs).counted

-- the forms of a block stand for all its instructions
pub body_count : (multiplier : ℕ) (b : Block)
    → record_counts (body_of multiplier b).forms ≡ length b.instrs
unfolding body_of
body_count multiplier b = instrs_count b.thumb (region b.addr) 0 b.instrs
