-- One law for each of the answers.
-- Assumes nothing.
use Prim.Native.Nat.{◌+◌, ◌-◌}
use mathlib.Core.List.{[], ◌∷◌}
use mathlib.Core.Path.{sym, ◌∙◌, subst}
use native.Mathlib.Omega.{arith}
use Rattle.file_blocks.specs.Parse.{blocks_of}
use Rattle.file_blocks.proofs.Accepted.{few_in_block}
use Rattle.call_frame.proofs.Opening.{settled_call}
use Rattle.call_reasons.specs.Calls.{asks_reasons}
use Rattle.call_reasons.specs.Steps.{StandsAt, IsFoundPlace}
use Rattle.call_reasons.proofs.Answers.{cleared_none, reasons_9, reasons_made}
use Rattle.call_reasons.proofs.Answers.{reasons_10, reasons_none}
use Rattle.call_reasons.proofs.Rest.{in_file}
use Rattle.call_reasons.proofs.Written.{put_from}
use Rattle.call_reasons.proofs.reasons.make_reasons.Goals as goal

pub find_instr-requires : goal.find_instr-requires
find_instr-requires c =
    (c.requires.0.accepted, c.requires.0.blocks)

pub returns-in_default : goal.returns-in_default
unfolding IsFoundPlace
returns-in_default c =
    record {
      answer = let a = c.args in
          settled_call (asks_reasons a.k) [] (_ ∷ []) _ _ c.requires.0 [] (cleared_none a.n) _
          (reasons_9 (blocks_of a.file.now) a.k _
          (subst (IsFoundPlace a.file.now a.k) c.in_default.is
          c.find_instr.ensures));
    }

pub overflow_sub-index : goal.overflow_sub-index
unfolding IsFoundPlace
overflow_sub-index c =
    let a = c.args in
    let f = a.file.now in
    let stands : StandsAt f a.k _ _ =
    subst (IsFoundPlace f a.k) c.in-Some.is c.find_instr.ensures in
    omega (arith, stands.from)

pub overflow_cast-index : goal.overflow_cast-index
unfolding IsFoundPlace
overflow_cast-index c =
    let a = c.args in
    let f = a.file.now in
    let stands : StandsAt f a.k _ _ =
    subst (IsFoundPlace f a.k) c.in-Some.is c.find_instr.ensures in
    omega (
      arith,
      stands.before,
      few_in_block _ _ c.requires.0.accepted _ stands.inside,
    )

pub put_lines-put-requires : goal.put_lines-put-requires
unfolding IsFoundPlace
put_lines-put-requires c =
    let a = c.args in
    let f = a.file.now in
    let stands : StandsAt f a.k _ _ =
    subst (IsFoundPlace f a.k) c.in-Some.is c.find_instr.ensures in (
      record {
        accepted = c.requires.0.accepted;
        inside = stands.inside;
        starts = stands.starts;
        has = omega (arith, stands.from, stands.before);
      },
      c.requires.0.blocks,
    )

pub returns-then-put-ne0 : goal.returns-then-put-ne0
unfolding IsFoundPlace
returns-then-put-ne0 c =
    record {
      answer = let a = c.args in
          let f = a.file.now in
          let stands : StandsAt f a.k c.in-Some.place.block c.in-Some.place.first =
          subst (IsFoundPlace f a.k) c.in-Some.is c.find_instr.ensures in
          let here = in_file f c.requires.0.accepted stands in
          let made =
          put_from (blocks_of f) (c.in-Some.place.first + (a.k - c.in-Some.place.first)) a.k (omega (arith, stands.from))
          c.put_lines-put.ensures in
          settled_call (asks_reasons a.k) [] (_ ∷ []) _ _ c.requires.0 [] (cleared_none a.n) _
          (reasons_made (blocks_of f) a.k _ here made c.if-put-ne0.true);
    }

pub returns-then-next-total : goal.returns-then-next-total
unfolding IsFoundPlace
returns-then-next-total c =
    record {
      answer = let a = c.args in
          let f = a.file.now in
          let stands : StandsAt f a.k c.in-Some.place.block c.in-Some.place.first =
          subst (IsFoundPlace f a.k) c.in-Some.is c.find_instr.ensures in
          let here = in_file f c.requires.0.accepted stands in
          let made =
          put_from (blocks_of f) (c.in-Some.place.first + (a.k - c.in-Some.place.first)) a.k (omega (arith, stands.from))
          c.put_lines-put.ensures in
          settled_call (asks_reasons a.k) [] (_ ∷ []) _ _ c.requires.0 [] (cleared_none a.n) _
          (reasons_10 (blocks_of f) a.k _ here made c.if-put-ne0.false
          (λ e. c.if-next-total.true (e ∙ sym c.requires.1)));
    }

pub returns : goal.returns
unfolding IsFoundPlace
returns c =
    record {
      answer = let a = c.args in
          let f = a.file.now in
          let stands : StandsAt f a.k c.in-Some.place.block c.in-Some.place.first =
          subst (IsFoundPlace f a.k) c.in-Some.is c.find_instr.ensures in
          let here = in_file f c.requires.0.accepted stands in
          let made =
          put_from (blocks_of f) (c.in-Some.place.first + (a.k - c.in-Some.place.first)) a.k (omega (arith, stands.from))
          c.put_lines-put.ensures in
          settled_call (asks_reasons a.k) [] (_ ∷ []) _ _ c.requires.0 [] (cleared_none a.n) _
          (reasons_none (blocks_of f) a.k _ here made c.if-put-ne0.false
          (c.if-next-total.false ∙ c.requires.1));
    }
