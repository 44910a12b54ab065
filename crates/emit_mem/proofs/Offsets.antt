-- The offset of a Mem with no case left out is the definition's, where that has one; and when the
-- definition has a body.
use Rattle.std.proofs.Common.{◌≡◌, ℕ, zero, suc, Bool, true, false, cond, not, ◌&&◌, ◌||◌, eqb, List, [], sym, refl, ap, true≢false, arith, ne_eqb}
use mathlib.Core.Option.{Option, none, some}
use Rattle.armv4t.specs.declared.ShiftKind.TheVariants.{Lsl, Lsr, Asr, Ror}
use Rattle.armv4t.specs.declared.Shift.{Shift}
use Rattle.armv4t.specs.declared.MemWidth.{MemWidth}
use Rattle.armv4t.specs.declared.MemOffset.{MemOffset}
use Rattle.armv4t.specs.declared.Op.TheVariants.{Mem, BlockMem}
use Rattle.armv4t.specs.declared.Instr.{Instr}
use Rattle.armv4t.specs.Instr.{pc_value}
use Rattle.c_tree.specs.Expr.{Expr}
use Rattle.c_tree.specs.Stmt.{Plain}
use Rattle.lower_forms.specs.Forms.{Lines}
use Rattle.lower_forms.specs.InlineBody.{base_expr, shifted_offset, offset_expr, access, mem_body}
use Rattle.lower_forms.specs.InlineBody.{listed, block_mem_body, op_body, mem_lines}
use Rattle.armv4t.specs.RegisterList.{is_listed}
use Rattle.base_lists.specs.Lists.{is_some}
use Rattle.emit_mem.specs.Mem.{offset_of}

-- what is there, or nothing
abbrev given : Option Lines → Lines
given none = []
given (some ls) = ls

pub mem_lines_lem : (i : Instr) (base : Expr) (up pre : Bool) (rest : List Plain) (offset : MemOffset)
    (ls : Lines)
    → mem_body base up pre rest (offset_expr i offset) ≡ some ls
    → mem_lines base up pre rest (offset_of (pc_value i) offset) ≡ ls
mem_lines_lem i base up pre rest (MemOffset.Imm value) ls e = ap given e
mem_lines_lem i base up pre rest (MemOffset.Reg rm (Shift.Imm Lsl amount)) ls e = ap given e
mem_lines_lem i base up pre rest (MemOffset.Reg rm (Shift.Imm Lsr amount)) ls e = ap given e
mem_lines_lem i base up pre rest (MemOffset.Reg rm (Shift.Imm Asr amount)) ls e = ap given e
mem_lines_lem i base up pre rest (MemOffset.Reg rm (Shift.Imm Ror zero)) ls e =
    absurd (true≢false (sym (ap is_some e)))
mem_lines_lem i base up pre rest (MemOffset.Reg rm (Shift.Imm Ror (suc n))) ls e = ap given e
mem_lines_lem i base up pre rest (MemOffset.Reg rm (Shift.Reg kind rs)) ls e =
    absurd (true≢false (sym (ap is_some e)))

-- Ror by zero is RRX
pub ror_inlined : (e : Expr) (n : ℕ) → not (eqb n 0) ≡ is_some (shifted_offset e Ror n)
ror_inlined e zero = refl
ror_inlined e (suc n) =
    let nonzero : eqb (suc n) 0 ≡ false = ne_eqb (suc n) 0 (λ p. omega (arith, p)) in ap not nonzero

-- what is tested before a body is written is whether the definition has one
mem_some : (base : Expr) (up pre : Bool) (rest : List Plain) (pc : Bool) (off : Option Expr)
    → is_some (cond pc none (mem_body base up pre rest off)) ≡ (not pc && is_some off)
mem_some base up pre rest true off = refl
mem_some base up pre rest false none = refl
mem_some base up pre rest false (some off) = refl

pub mem_inlined : (thumb : Bool) (i : Instr) (load : Bool) (width : MemWidth) (signed : Bool)
    (rd rn : ℕ) (offset : MemOffset)
    (pre up writeback : Bool)
    → is_some (op_body thumb i (Mem load width signed rd rn offset pre up writeback))
    ≡ (not (eqb rd 15) && is_some (offset_expr i offset))
mem_inlined thumb i load width signed rd rn offset pre up writeback =
    mem_some (base_expr thumb i rn) up pre (access load width signed rd rn (not pre || writeback))
    (eqb rd 15) (offset_expr i offset)

block_some : (left : Bool) (ls : Lines) → is_some (cond left none (some ls)) ≡ not left
block_some true ls = refl
block_some false ls = refl

pub block_mem_inlined : (thumb : Bool) (i : Instr) (load : Bool) (rn rlist : ℕ)
    (pre up s_bit writeback : Bool)
    → is_some (op_body thumb i (BlockMem load rn rlist pre up s_bit writeback))
    ≡ not (s_bit || eqb rlist 0 || eqb rn 15 || (load && is_listed rlist 15))
block_mem_inlined thumb i load rn rlist pre up s_bit writeback =
    block_some (s_bit || eqb rlist 0 || eqb rn 15 || (load && is_listed rlist 15))
    (block_mem_body i load rn (is_listed rlist rn) pre up writeback (listed rlist 16))
