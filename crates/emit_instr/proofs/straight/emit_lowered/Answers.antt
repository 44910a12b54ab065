-- `straight::emit_lowered` meets its contract: what its calls write, one after the other, is a form
-- with lines. Assumes nothing.
use Rattle.std.proofs.Common.{cond, []}
use Rattle.base_text.proofs.Laws.{seq}
use Rattle.armv4t.specs.Cond.{is_al}
use Rattle.lower_forms.specs.Operands.{cond_expr}
use Rattle.lower_forms.specs.Block.{flush_ticks}
use Rattle.emit_instr.proofs.Texts.{lowered_step}
use Rattle.emit_instr.proofs.straight.emit_lowered.Goals as goal

pub returns : goal.returns
returns c =
    let a = c.args in
    λ body e ks b j fs h.
    record {
      onward =
          lowered_step ks b j (is_al a.x.instr.cond)
          (cond a.touches_bus (flush_ticks a.cycles) []) (cond_expr a.x.instr.cond)
          body fs
          (seq c.put_ticks-p.ensures (c.put_lowered-q.ensures body e));
      cycles = c.pending.ensures h;
    }
