-- `mem::put_address` meets its contract: what its calls write, one after another.
-- Assumes nothing.
use Rattle.std.proofs.Common.{ℕ, [], ◌∷◌, refl, subst}
use Rattle.base_text.specs.Wrote.{Wrote}
use Rattle.base_text.proofs.Laws.{seq, wrote_as}
use Rattle.c_tree.specs.Expr.{x-base, x-ob, bin}
use Rattle.c_tree.specs.Preamble.{v32}
use Rattle.lower_forms.specs.InlineBody.{each_on_line, let32, add_or_sub}
use Rattle.lower_units.specs.Lines.{lines_text}
use Rattle.emit_mem.specs.Mem.{offset_of}
use Rattle.emit_mem.proofs.mem.put_address.Goals as goal

pub returns : goal.returns
returns c =
    let m = c.args.m in
    let q = c.put_moved_base_line-q in
    let moved =
    subst
    (λ (pc : ℕ). Wrote c.put_base_line-p.new.out c.put_base_line-p.result
    (lines_text 8
    (each_on_line
    (let32 x-ob (bin (add_or_sub m.up) (v32 x-base) (offset_of pc m.offset)) ∷ [])))
    q.new.out q.result)
    c.pc_value-pc.ensures q.ensures in
    wrote_as (seq c.put_base_line-p.ensures (seq moved c.put_addr_line.ensures)) refl
