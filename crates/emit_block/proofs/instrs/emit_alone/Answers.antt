-- `emit_alone` writes an instruction that makes no pair.
-- Assumes nothing.
use Rattle.std.proofs.Common.{ℕ, suc, List, ap, arith}
use Rattle.lower_forms.specs.Forms.{Form}
use Rattle.lower_forms.specs.Block.{emit_instr}
use Rattle.file_blocks.specs.Address.{region}
use Rattle.emit_instr.proofs.Steps.{same_form}
use Rattle.emit_block.specs.Walk.{forms_from}
use Rattle.emit_block.proofs.FormsFrom.{empty_after}
use Rattle.emit_block.proofs.Recording.{alone_recorded}
use Rattle.emit_block.proofs.instrs.emit_alone.Goals as goal

pub returns : goal.returns
returns c =
    let v = c.args in
    let s = c.emit_instr.result in
    λ f ks b first body inside at alone small few.
    let fs : List Form = (forms_from f v.block first (suc v.j) s.cycles).0 in
    let step =
    same_form _ (emit_instr v.block.thumb (region v.block.addr) v.cycles v.x)
    (ap (λ (n : ℕ). emit_instr v.block.thumb n v.cycles v.x) c.region_of.ensures)
    (c.emit_instr.ensures ks b v.j fs
    (empty_after f v.block.thumb v.block.count first v.block.addr
    v.j (region v.block.addr) s.cycles c.requires) body.addr
    (omega arith) inside) in
    alone_recorded f v.block first ks b v.j v.cycles v.x v.out.now
    v.at c.emit_instr.new.out s at alone small step.cycles step.onward
