use Rattle.std.proofs.Common.{sym, ◌∙◌, arith}
use Rattle.base_text.proofs.Overlay.{overlay_none}
use Rattle.base_text.proofs.Printers.{copy_more}
use Rattle.base_text.proofs.clip.Goals as goal

pub loop-i-init : goal.loop-i-init
loop-i-init c = sym (overlay_none _ _)

pub loop-i-preserved : goal.loop-i-preserved
loop-i-preserved c = c.store.ensures ∙ copy_more _ _ _ _ (omega arith) c.loop-i.invariant
