-- `put_mem` writes the lines of a Mem, where the definition has such.
-- Assumes nothing.
use Rattle.emit_mem.specs.Mem.{whole_access}
use Rattle.std.proofs.Common.{[], ap}
use Rattle.emit_mem.proofs.Offsets.{mem_lines_lem}
use Rattle.lower_forms.specs.Forms.{Lines}
use Rattle.lower_forms.specs.InlineBody.{base_expr}
use Rattle.lower_units.specs.Lines.{lines_text}
use Rattle.base_text.proofs.Laws.{wrote_as, kept}
use Rattle.base_text.specs.Flat.{flat}
use Rattle.emit_mem.proofs.mem.put_mem.Goals as goal

pub returns : goal.returns
returns c = λ ls e.
    let a = c.args in
    wrote_as c.put_mem_lines.ensures
    (ap (λ (ks : Lines). flat (lines_text 8 ks) [])
    (mem_lines_lem a.i (base_expr a.thumb a.i a.m.rn) a.m.up a.m.pre
    (whole_access a.m) a.m.offset ls e))

pub shape_of-out : goal.shape_of-out
shape_of-out c = kept c.put_mem_lines.ensures
