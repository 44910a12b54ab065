-- `shells::emit_interpreted` meets its contract: its call writes the text. Assumes nothing.
use Rattle.std.proofs.Common.{false, refl}
use Rattle.emit_instr.proofs.shells.emit_interpreted.Goals as goal

pub returns : goal.returns
returns c =
    λ ks b j fs h. record
    { onward = c.put_shell.ensures false ks b j fs h; cycles = refl }
