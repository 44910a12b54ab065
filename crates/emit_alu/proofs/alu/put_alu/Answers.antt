-- `emit_alu::alu::put_alu` meets its contract: what its calls write, one after another. Assumes
-- nothing.
use mathlib.Core.Path.{refl}
use Rattle.emit_alu.proofs.Texts.{one_u}
use Rattle.emit_operands.proofs.Operands.{zero_text, carry_in_text}
use Rattle.lower_forms.specs.Operands.{carry_in}
use Rattle.emit_alu.specs.Processing.{second}
use Rattle.c_tree.specs.Expr.{udec, compl, lit, un}
use Rattle.base_text.proofs.Laws.{wrote_as}
use Rattle.emit_alu.proofs.alu.put_alu.Goals as goal

pub returns-in-And : goal.returns-in-And
returns-in-And c =
    rw c.in-And.is (wrote_as (rw c.in-And.is at c.put_two.ensures) refl)

pub returns-in-Eor : goal.returns-in-Eor
returns-in-Eor c =
    rw c.in-Eor.is (wrote_as (rw c.in-Eor.is at c.put_two-in-Eor.ensures) refl)

pub returns-in-Sub : goal.returns-in-Sub
returns-in-Sub c =
    let a = c.args.a in
    rw c.in-Sub.is (rw c.in-Sub.is at (c.put_sum.ensures (un compl (second a)) (lit udec 1) (λ k. refl) one_u))

pub returns-in-Rsb : goal.returns-in-Rsb
returns-in-Rsb c =
    rw c.in-Rsb.is (rw c.in-Rsb.is at (c.put_reversed.ensures (lit udec 1) one_u))

pub returns-in-Add : goal.returns-in-Add
returns-in-Add c =
    let a = c.args.a in
    rw c.in-Add.is (rw c.in-Add.is at (c.put_sum-in-Add.ensures (second a) (lit udec 0) (λ k. refl) zero_text))

pub returns-in-Adc : goal.returns-in-Adc
returns-in-Adc c =
    let a = c.args.a in
    rw c.in-Adc.is (rw c.in-Adc.is at (c.put_sum-in-Adc.ensures (second a) carry_in (λ k. refl) carry_in_text))

pub returns-in-Sbc : goal.returns-in-Sbc
returns-in-Sbc c =
    let a = c.args.a in
    rw c.in-Sbc.is (rw c.in-Sbc.is at (c.put_sum-in-Sbc.ensures (un compl (second a)) carry_in (λ k. refl) carry_in_text))

pub returns-in-Rsc : goal.returns-in-Rsc
returns-in-Rsc c =
    rw c.in-Rsc.is (rw c.in-Rsc.is at (c.put_reversed-in-Rsc.ensures carry_in carry_in_text))

pub returns-in-Tst : goal.returns-in-Tst
returns-in-Tst c =
    rw c.in-Tst.is (wrote_as (rw c.in-Tst.is at c.put_two-in-Tst.ensures) refl)

pub returns-in-Teq : goal.returns-in-Teq
returns-in-Teq c =
    rw c.in-Teq.is (wrote_as (rw c.in-Teq.is at c.put_two-in-Teq.ensures) refl)

pub returns-in-Cmp : goal.returns-in-Cmp
returns-in-Cmp c =
    let a = c.args.a in
    rw c.in-Cmp.is (rw c.in-Cmp.is at (c.put_sum-in-Cmp.ensures (un compl (second a)) (lit udec 1) (λ k. refl) one_u))

pub returns-in-Cmn : goal.returns-in-Cmn
returns-in-Cmn c =
    let a = c.args.a in
    rw c.in-Cmn.is (rw c.in-Cmn.is at (c.put_sum-in-Cmn.ensures (second a) (lit udec 0) (λ k. refl) zero_text))

pub returns-in-Orr : goal.returns-in-Orr
returns-in-Orr c =
    rw c.in-Orr.is (wrote_as (rw c.in-Orr.is at c.put_two-in-Orr.ensures) refl)

pub returns-in-Mov : goal.returns-in-Mov
returns-in-Mov c =
    rw c.in-Mov.is (wrote_as (rw c.in-Mov.is at c.put_one.ensures) refl)

pub returns-in-Bic : goal.returns-in-Bic
returns-in-Bic c =
    rw c.in-Bic.is (wrote_as (rw c.in-Bic.is at c.put_two-in-Bic.ensures) refl)

pub returns-in-Mvn : goal.returns-in-Mvn
returns-in-Mvn c =
    rw c.in-Mvn.is (wrote_as (rw c.in-Mvn.is at c.put_one-in-Mvn.ensures) refl)
