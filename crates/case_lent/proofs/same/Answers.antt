use Rattle.std.proofs.Common.{◌<◌, length, sym, ◌∙◌, arith}
use Rattle.std.proofs.lemmas.List.{take_more_same}
use Rattle.case_io.proofs.Same.{place_differs, place_same, end_same}
use Rattle.case_lent.proofs.Kept.{kept_then}
use Rattle.case_lent.proofs.Numbers.{as_many, at_place}
use Rattle.case_lent.proofs.same.Goals as goal

pub returns-then-e-g-clause-same : goal.returns-then-e-g-clause-same
returns-then-e-g-clause-same g c =
    let law = g.met.T.Cell in
    let all = g.T.Cell.numbers in
    let a = all c.args.expected.now in
    let b = all c.args.got.now in
    let i = c.loop-i.i in
    let size = as_many g.T.Cell.number all law.none law.more in
    let place = at_place g.T.Cell.number all law.none law.more in
    let inside : i < length c.args.expected.now = omega arith in
    let inside' : i < length c.args.got.now = omega arith in
    let e = place _ i _ _ inside c.index-expected-i.is c.number-e.ensures in
    let f = place _ i _ _ inside' c.index-got-i.is c.number-g.ensures in
    place_differs a b i (omega (arith, size c.args.expected.now))
    (omega (arith, size c.args.got.now)) (λ h. c.if-e-g.true (sym e ∙ h ∙ f))
    ∙ sym c.loop-i.invariant.0

pub returns-then-e-g-clause-told : goal.returns-then-e-g-clause-told
returns-then-e-g-clause-told g c =
    let law = g.met.T.Cell in
    let all = g.T.Cell.numbers in
    let i = c.loop-i.i in
    let size = as_many g.T.Cell.number all law.none law.more in
    let place = at_place g.T.Cell.number all law.none law.more in
    let inside : i < length c.args.expected.now = omega arith in
    let inside' : i < length c.args.got.now = omega arith in
    let e = place _ i _ _ inside c.index-expected-i.is c.number-e.ensures in
    let f = place _ i _ _ inside' c.index-got-i.is c.number-g.ensures in (
      i,
      omega (arith, size c.args.expected.now),
      c.loop-i.invariant.1,
      (λ h. c.if-e-g.true (sym e ∙ h ∙ f)),
      rw (e, f, ← c.kind.ensures)
          (kept_then _ _ _ _ c.loop-i.invariant.2 c.in_ok-place_differs.ensures),
    )

pub loop-i-preserved : goal.loop-i-preserved
loop-i-preserved g c =
    let law = g.met.T.Cell in
    let all = g.T.Cell.numbers in
    let a = all c.args.expected.now in
    let b = all c.args.got.now in
    let i = c.loop-i.i in
    let size = as_many g.T.Cell.number all law.none law.more in
    let place = at_place g.T.Cell.number all law.none law.more in
    let inside : i < length c.args.expected.now = omega arith in
    let inside' : i < length c.args.got.now = omega arith in
    let e = place _ i _ _ inside c.index-expected-i.is c.number-e.ensures in
    let f = place _ i _ _ inside' c.index-got-i.is c.number-g.ensures in
    let here = e ∙ c.if-e-g.false ∙ sym f in
    let ha : i < length a = omega (arith, size c.args.expected.now) in
    let hb : i < length b = omega (arith, size c.args.got.now) in (
      c.loop-i.invariant.0 ∙ place_same a b i ha hb here,
      take_more_same a b i 0 ha hb c.loop-i.invariant.1 here,
      c.loop-i.invariant.2,
    )

pub returns-clause-same : goal.returns-clause-same
returns-clause-same g c =
    let law = g.met.T.Cell in
    let size = as_many g.T.Cell.number g.T.Cell.numbers law.none law.more in
    end_same _ _ c.loop-i.i (omega (arith, size c.args.expected.now, c.loop-i.auto.i-end))
    (omega (arith, size c.args.got.now, c.loop-i.auto.i-end)) ∙ sym c.loop-i.invariant.0
