-- `shells::emit_half` meets its contract: its call writes the text. Assumes nothing.
use Rattle.std.proofs.Common.{true, refl}
use Rattle.emit_instr.proofs.shells.emit_half.Goals as goal

pub returns : goal.returns
returns c =
    λ ks b j fs h. record
    { onward = c.put_shell.ensures true ks b j fs h; cycles = refl }
