-- `emit_operands::put_cond_expr` meets its contract: what its calls write, one after another.
-- Assumes nothing.
use mathlib.Core.Path.{refl}
use mathlib.Core.List.{[]}
use Rattle.emit_operands.proofs.Operands.{one_text}
use Rattle.base_text.proofs.Laws.{wrote_as}
use Rattle.emit_operands.proofs.put_cond_expr.Goals as goal

pub returns-in-Eq : goal.returns-in-Eq
returns-in-Eq c =
    rw c.in-Eq.is (wrote_as c.put.ensures refl)

pub returns-in-Ne : goal.returns-in-Ne
returns-in-Ne c =
    rw c.in-Ne.is (wrote_as c.put-in-Ne.ensures refl)

pub returns-in-Cs : goal.returns-in-Cs
returns-in-Cs c =
    rw c.in-Cs.is (wrote_as c.put-in-Cs.ensures refl)

pub returns-in-Cc : goal.returns-in-Cc
returns-in-Cc c =
    rw c.in-Cc.is (wrote_as c.put-in-Cc.ensures refl)

pub returns-in-Mi : goal.returns-in-Mi
returns-in-Mi c =
    rw c.in-Mi.is (wrote_as c.put-in-Mi.ensures refl)

pub returns-in-Pl : goal.returns-in-Pl
returns-in-Pl c =
    rw c.in-Pl.is (wrote_as c.put-in-Pl.ensures refl)

pub returns-in-Vs : goal.returns-in-Vs
returns-in-Vs c =
    rw c.in-Vs.is (wrote_as c.put-in-Vs.ensures refl)

pub returns-in-Vc : goal.returns-in-Vc
returns-in-Vc c =
    rw c.in-Vc.is (wrote_as c.put-in-Vc.ensures refl)

pub returns-in-Hi : goal.returns-in-Hi
returns-in-Hi c =
    rw c.in-Hi.is (wrote_as c.put-in-Hi.ensures refl)

pub returns-in-Ls : goal.returns-in-Ls
returns-in-Ls c =
    rw c.in-Ls.is (wrote_as c.put-in-Ls.ensures refl)

pub returns-in-Ge : goal.returns-in-Ge
returns-in-Ge c =
    rw c.in-Ge.is (wrote_as c.put-in-Ge.ensures refl)

pub returns-in-Lt : goal.returns-in-Lt
returns-in-Lt c =
    rw c.in-Lt.is (wrote_as c.put-in-Lt.ensures refl)

pub returns-in-Gt : goal.returns-in-Gt
returns-in-Gt c =
    rw c.in-Gt.is (wrote_as c.put-in-Gt.ensures refl)

pub returns-in-Le : goal.returns-in-Le
returns-in-Le c =
    rw c.in-Le.is (wrote_as c.put-in-Le.ensures refl)

pub returns-in-Al : goal.returns-in-Al
returns-in-Al c =
    rw c.in-Al.is (wrote_as c.put-in-Al.ensures (one_text []))

pub returns-in-Nv : goal.returns-in-Nv
returns-in-Nv c =
    rw c.in-Nv.is (wrote_as c.put-in-Nv.ensures (one_text []))
