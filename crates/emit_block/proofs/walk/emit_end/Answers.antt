-- `emit_end` writes the closing transfer to the address after the block.
-- Assumes nothing.
use Rattle.emit_instr.proofs.Texts.{closing_step}
use Rattle.emit_block.proofs.Walking.{end_lines, end_key}
use Rattle.emit_block.proofs.walk.emit_end.Goals as goal

pub returns : goal.returns
returns c =
    let v = c.args in
    λ ks b j here pending.
    closing_step ks b j v.cycles _ _ v.m.block.addr
    (end_lines here.is here.body v.cycles _ pending c.instr_addr-next.ensures)
    (end_key here.is here.body _ _ c.instr_addr-next.ensures c.key_of-key.ensures)
    here.body.addr
    (c.emit_closing.ensures ks (c.is_inside.ensures ks here.stands))
