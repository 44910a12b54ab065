-- `emit_record` reads a record, and writes it alone or with the one that it makes a pair with.
-- Assumes nothing.
use Rattle.std.proofs.Common.{ℕ, ◌∷◌, sym, refl, ap, ◌∙◌, subst, arith}
use Rattle.c_tree.specs.Stmt.{end}
use Rattle.lower_forms.specs.Forms.{Form}
use Rattle.lower_forms.specs.Block.{emit_pair}
use Rattle.lower_units.specs.Block.{code_from}
use Rattle.base_lists.specs.Lists.{among}
use Rattle.file_blocks.proofs.ReadInstrs.{not_missing}
use Rattle.emit_instr.specs.Onward.{Onward}
use Rattle.file_blocks.proofs.ReadNext.{here_read}
use Rattle.emit_block.proofs.Recording.{pair_sum, pair_recorded}
use Rattle.emit_block.proofs.instrs.emit_record.Goals as goal

pub returns-in_default : goal.returns-in_default
returns-in_default c =
    λ ks b here few. absurd
    (not_missing here.is _ _ c.requires.1
    c.instr_of.ensures c.in_default.is)

pub is_inside-inside-requires : goal.is_inside-inside-requires
is_inside-inside-requires c =
    c.requires.0

pub returns-in-None : goal.returns-in-None
returns-in-None c =
    let v = c.args in
    λ ks b here few.
    c.emit_alone.ensures v.file.now ks b v.m.first here.body
    (c.branch_inside-inside.ensures ks here.stands)
    (here_read here.is v.j c.requires.1 _ _ c.instr_of.ensures
    c.in-Some.is)
    (sym (c.next_of.ensures _ here.is) ∙ c.in-None.is)
    (omega (arith, c.struct_known-1.given)) few

pub returns-in-Some-next_of : goal.returns-in-Some-next_of
returns-in-Some-next_of c =
    let v = c.args in
    λ ks b here few.
    pair_recorded v.file.now v.m.block v.m.first ks b v.j v.cycles _
    v.out.now v.at c.emit_fused.new.out _
    (here_read here.is v.j c.requires.1 _ _ c.instr_of.ensures
    c.in-Some.is)
    _ (sym (c.next_of.ensures _ here.is) ∙ c.in-Some-next_of.is) refl refl
    (λ fs. subst
    (λ (n : ℕ). Onward v.out.now v.at
    (code_from ks b v.j (Form.native (emit_pair n c.in-Some-next_of.pair.target c.in-Some-next_of.pair.ret) ∷ fs)) end
    c.emit_fused.new.out c.emit_fused.result)
    (pair_sum v.cycles _ _ v.j _ c.wrapping_add_u64-all.ensures.value few
    (omega (arith, c.ranges.j)) (omega (arith, c.struct_known-1.given))
    (omega arith))
    (c.emit_fused.ensures ks b v.j fs
    (ap (λ (k : ℕ). among k ks) (sym c.set_bit0.ensures)
    ∙ c.is_inside-inside.ensures ks here.stands) here.body.addr))
