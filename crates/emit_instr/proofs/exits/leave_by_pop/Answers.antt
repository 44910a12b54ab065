-- `exits::leave_by_pop` meets its contract: its calls write the whole text of an exit, one after
-- the other. Assumes nothing.
use Rattle.std.proofs.Common.{◌+◌, [], sym, refl}
use Rattle.c_tree.specs.Stmt.{Owner}
use Rattle.base_text.proofs.Laws.{seq, wrote_as}
use Rattle.lower_forms.specs.InlineBody.{listed}
use Rattle.lower_forms.specs.Block.{emit_pop}
use Rattle.lower_units.specs.Block.{body_key, code_from}
use Rattle.emit_mem.proofs.PopText.{ticks_then_pop}
use Rattle.emit_instr.proofs.Texts.{exit_step}
use Rattle.emit_instr.proofs.exits.leave_by_pop.Goals as goal

pub returns : goal.returns
returns c =
    let a = c.args in
    λ ks b j fs.
    record {
      onward =
          exit_step ks b j (emit_pop a.thumb a.cycles a.rn (listed a.rlist 15)) b.addr
          fs refl
          (wrote_as (seq c.flush_ticks-p.ensures c.put_pop-q.ensures)
          (sym (ticks_then_pop ks b.addr (Owner.native_of (body_key b)) a.thumb a.cycles
          a.rn (listed a.rlist 15) (code_from ks b (j + 1) fs) [])));
      cycles = refl;
    }
