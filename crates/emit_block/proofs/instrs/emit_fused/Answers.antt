-- `emit_fused` writes a pair, and drops what would stand after it.
-- Assumes nothing.
use Rattle.std.proofs.Common.{ℕ, ◌+◌, sym, subst}
use Rattle.c_tree.specs.Stmt.{Owner, end}
use Rattle.lower_forms.specs.Block.{emit_pair}
use Rattle.lower_units.specs.Block.{body_key, native_text, code_from}
use Rattle.emit_flow.proofs.Blocks.{code_native}
use Rattle.emit_instr.specs.Onward.{Onward}
use Rattle.emit_instr.proofs.Onward.{same_from, start}
use Rattle.emit_block.proofs.instrs.emit_fused.Goals as goal

pub returns : goal.returns
returns c =
    let v = c.args in
    λ ks b j fs inside e.
    same_from _ (code_native ks b j (emit_pair v.cycles v.target v.ret) fs)
    (subst (λ (a : ℕ). Onward v.out.now v.at
    (native_text ks a (Owner.native_of (body_key b)) (emit_pair v.cycles v.target v.ret)
    (code_from ks b (j + 2) fs)) end c.emit_pair.new.out c.emit_pair.result) (sym e)
    (start (c.emit_pair.ensures ks (Owner.native_of (body_key b)) (code_from ks b (j + 2) fs)
    inside)))
