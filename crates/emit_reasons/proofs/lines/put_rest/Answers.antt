use Prim.Native.Nat.{ℕ, suc, ◌+◌, ◌≤◌}
use borrow.Author.Rules.{rules}
use lib.ListN.{length as size, drop}
use mathlib.Core.List.{◌++◌}
use mathlib.Core.Path.{◌≡◌, refl, sym, ap, ◌∙◌}
use native.Mathlib.Omega.{arith}
use Rattle.file_blocks.specs.Read.{instrs_of}
use Rattle.lower_reasons.specs.Lines.{lines_of}
use Rattle.lower_reasons.specs.Said.{said_each}
use Rattle.file_blocks.proofs.Accepted.{few_instrs}
use Rattle.file_blocks.proofs.IsBlock.{instrs_counted}
use Rattle.file_blocks.proofs.ReadInstrs.{not_missing, drop_all}
use Rattle.file_blocks.proofs.ReadNext.{here_read}
use Rattle.emit_reasons.proofs.Putting.{putting_as, progress_on, rest_end, rest_pair}
use Rattle.emit_reasons.proofs.Putting.{alone-over, alone-drops, alone-on}
use Rattle.emit_reasons.proofs.lines.put_rest.Goals as goal

-- the numbers of instructions are small
pub overflow_add-end : goal.overflow_add-end
overflow_add-end c =
    let is = c.requires.0.1 in
    omega (arith, instrs_counted is, few_instrs _ _ is.accepted)

pub loop-j-init : goal.loop-j-init
loop-j-init c =
    (c.requires.2, λ whole all after put. put)

pub returns-in_default : goal.returns-in_default
returns-in_default c =
    absurd
    (not_missing c.requires.0.1 _ _ (omega arith) c.instr_of.ensures
    c.in_default.is)

pub pairs_at-requires : goal.pairs_at-requires
pairs_at-requires c =
    (c.requires.0, omega arith)

pub shape_of-text-then-pairs_at : goal.shape_of-text-then-pairs_at
shape_of-text-then-pairs_at c =
    c.loop-j.auto.text

-- no line comes after a pair
pub returns-then-pairs_at : goal.returns-then-pairs_at
returns-then-pairs_at c = record {
  within = omega (arith, c.loop-j.invariant.0);
  lines = λ whole all after put.
      progress_on
      (putting_as
      (rest_pair c.args.region
      (here_read c.requires.0.1 _ (omega arith) _ _ c.instr_of.ensures
      c.in-Some.is) _ after (sym c.pairs_at.ensures ∙ c.if-pairs_at.true))
      (c.loop-j.invariant.1 whole all after put));
}

pub overflow_sub-text : goal.overflow_sub-text
overflow_sub-text c =
    omega (arith, c.loop-j.auto.text, c.loop-j.invariant.0)

pub overflow_add-next : goal.overflow_add-next
overflow_add-next c =
    let is = c.requires.0.1 in
    omega (arith, instrs_counted is, few_instrs _ _ is.accepted)

pub shape_of-text-then-text-length : goal.shape_of-text-then-text-length
shape_of-text-then-text-length c =
    c.loop-j.auto.text

-- the next line does not fit
pub returns-then-text-length : goal.returns-then-text-length
returns-then-text-length c = record {
  within = omega (arith, c.loop-j.invariant.0);
  lines = λ whole all after put.
      alone-over c.args.region
      (here_read c.requires.0.1 _ (omega arith) _ _ c.instr_of.ensures
      c.in-Some.is) _ after
      (sym c.pairs_at.ensures ∙ c.if-pairs_at.false)
      (c.loop-j.invariant.1 whole all after put) c.said_of-said.ensures
      c.line_length-size.ensures
      (omega arith) (omega arith);
}

pub overflow_add-length : goal.overflow_add-length
overflow_add-length c =
    let small : size c.args.text.now ≤ 18446744073709551615 = search rules in
    omega (arith, c.loop-j.auto.text, c.loop-j.invariant.0)

-- no line comes after an exit that drops the rest
pub returns-then-drops_rest : goal.returns-then-drops_rest
returns-then-drops_rest c = record {
  within = omega (arith, c.loop-j.auto.text, c.loop-j.invariant.0);
  lines = λ whole all after put.
      progress_on
      (alone-drops c.args.region
      (here_read c.requires.0.1 _ (omega arith) _ _ c.instr_of.ensures
      c.in-Some.is) _ after
      (sym c.pairs_at.ensures ∙ c.if-pairs_at.false)
      (c.loop-j.invariant.1 whole all after put) c.said_of-said.ensures
      c.line_length-size.ensures
      (omega arith) c.put_line.ensures (sym c.drops_rest.ensures
      ∙ c.if-drops_rest.true));
}

-- no instruction is left
pub returns : goal.returns
returns c =
    let a = c.args in
    let b = a.block in
    let all_read : c.loop-j.j ≡ b.count = omega arith in record {
      within = c.loop-j.invariant.0;
      lines = λ whole all after put.
          progress_on
          (putting_as
          (rest_end a.region
          (ap (λ (n : ℕ). drop n (instrs_of a.file.now b a.first)) all_read
          ∙ drop_all a.file.now b.thumb b.count a.first b.addr) _ after)
          (c.loop-j.invariant.1 whole all after put));
    }

pub loop-j-preserved : goal.loop-j-preserved
loop-j-preserved c =
    let a = c.args in (
      omega (arith, c.loop-j.auto.text, c.loop-j.invariant.0),
      λ whole all after put.
          putting_as
          (ap (λ (n : ℕ). lines_of n
          (said_each a.region (drop (suc c.loop-j.j) (instrs_of a.file.now a.block
          a.first)))
          ++ after)
          (let e : suc (a.first + c.loop-j.j) ≡ a.first +
          (c.loop-j.j + 1) = omega arith in e)
          ∙ ap (λ (n : ℕ). lines_of (a.first + (c.loop-j.j + 1))
          (said_each a.region (drop n (instrs_of a.file.now a.block a.first))) ++ after)
          (let e : suc c.loop-j.j ≡ c.loop-j.j + 1 = omega arith in e))
          (alone-on a.region
          (here_read c.requires.0.1 _ (omega arith) _ _ c.instr_of.ensures
          c.in-Some.is) _ after
          (sym c.pairs_at.ensures ∙ c.if-pairs_at.false)
          (c.loop-j.invariant.1 whole all after put) c.said_of-said.ensures
          c.line_length-size.ensures
          (omega arith) c.put_line.ensures (sym c.drops_rest.ensures
          ∙ c.if-drops_rest.false)),
    )

pub shape_of-text-then-drops_rest : goal.shape_of-text-then-drops_rest
shape_of-text-then-drops_rest c =
    c.put_line.auto.out
    ∙ c.loop-j.auto.text
