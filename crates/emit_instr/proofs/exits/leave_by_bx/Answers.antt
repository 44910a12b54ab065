-- `exits::leave_by_bx` meets its contract: its call writes the whole text of an exit. Assumes
-- nothing.
use Rattle.std.proofs.Common.{ℕ, ◌+◌, [], refl, ap}
use Rattle.base_text.specs.Flat.{flat}
use Rattle.base_text.proofs.Laws.{wrote_as}
use Rattle.c_tree.specs.Stmt.{Owner}
use Rattle.c_tree.specs.Print.{code_text}
use Rattle.lower_forms.specs.Forms.{bx}
use Rattle.lower_forms.specs.Operands.{reg_expr, reg_of}
use Rattle.lower_forms.specs.Block.{flush_ticks}
use Rattle.lower_units.specs.Block.{body_key, native_text, code_from}
use Rattle.emit_instr.proofs.Texts.{exit_step}
use Rattle.emit_instr.proofs.exits.leave_by_bx.Goals as goal

pub returns : goal.returns
returns c =
    let a = c.args in
    λ ks b j fs.
    record {
      onward =
          exit_step ks b j (bx (flush_ticks a.cycles) (reg_expr a.i a.rm)) b.addr fs refl
          (wrote_as (c.emit_bx-p.ensures ks b.addr (Owner.native_of (body_key b))
          (code_from ks b (j + 1) fs))
          (ap (λ (n : ℕ). flat
          (code_text
          (native_text ks b.addr (Owner.native_of (body_key b))
          (bx (flush_ticks a.cycles) (reg_of n a.rm)) (code_from ks b (j + 1) fs))) [])
          c.pc_value-pc.ensures));
      cycles = refl;
    }
