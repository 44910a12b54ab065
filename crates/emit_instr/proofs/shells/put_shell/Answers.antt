-- `shells::put_shell` meets its contract: its call writes the text of a shell, the last or not.
-- Assumes nothing.
use Rattle.std.proofs.Common.{ℕ, [], ◌++◌, ap}
use Rattle.base_text.specs.Flat.{flat}
use Rattle.base_text.proofs.Laws.{wrote_as}
use Rattle.c_tree.specs.Stmt.{common, end}
use Rattle.c_tree.specs.Print.{code_text}
use Rattle.file_blocks.specs.Address.{fall_through}
use Rattle.lower_forms.specs.Forms.{Lines}
use Rattle.lower_forms.specs.Block.{flush_ticks, pc_line}
use Rattle.lower_units.specs.Block.{body_key, lines, shell_code}
use Rattle.emit_instr.proofs.Texts.{shell_step, last_step}
use Rattle.emit_instr.proofs.shells.put_shell.Goals as goal

pub returns-then-last : goal.returns-then-last
returns-then-last c =
    let a = c.args in
    let t : Lines = flush_ticks a.cycles ++ pc_line a.i.addr in
    λ high ks b j fs h.
    last_step ks b j high a.last t (fall_through a.thumb a.i) fs h c.if-last.true
    (c.emit_last_shell.ensures (body_key b) j)

pub returns-else-last : goal.returns-else-last
returns-else-last c =
    let a = c.args in
    let t : Lines = flush_ticks a.cycles ++ pc_line a.i.addr in
    λ high ks b j fs h.
    shell_step ks b j high a.last t (fall_through a.thumb a.i) fs h c.if-last.false
    (wrote_as (c.emit_shell.ensures b j)
    (ap (λ (n : ℕ). flat (code_text (lines common 4 t (shell_code b j n end))) [])
    c.fall_through-expect.ensures))
