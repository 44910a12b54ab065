use Prim.Native.Nat.{ℕ, ◌+◌, ◌<◌, ◌≤◌}
use mathlib.Core.Path.{sym, ap, ◌∙◌, subst}
use native.Mathlib.Omega.{arith}
use lib.ListN.{length, drop}
use Rattle.file_keys.specs.Order.{block_keys}
use Rattle.file_keys.specs.First.{rises_from}
use Rattle.file_keys.proofs.Reading.{length_keys}
use Rattle.file_keys.proofs.Rising as laws
use Rattle.file_keys.proofs.keys.rises.Goals as goal

pub loop-i-init : goal.loop-i-init
loop-i-init c =
    let keys = block_keys c.args.file.now in
    laws.rises_start keys ∙ ap (λ (k : ℕ). rises_from k (drop 1 keys)) (sym c.key_at-last.ensures)

pub returns-then-next-last : goal.returns-then-next-last
returns-then-next-last c =
    let keys = block_keys c.args.file.now in
    let h : c.loop-i.i < length keys = omega (
      arith,
      length_keys
          c.args.file.now,
      c.requires.many,
    ) in
    laws.rises_no keys c.loop-i.last c.loop-i.i c.loop-i.invariant h
    (subst (λ (k : ℕ). k ≤ c.loop-i.last) c.key_at-next.ensures c.if-next-last.true)

pub loop-i-preserved : goal.loop-i-preserved
loop-i-preserved c =
    let keys = block_keys c.args.file.now in
    let h : c.loop-i.i < length keys = omega (
      arith,
      length_keys
          c.args.file.now,
      c.requires.many,
    ) in
    laws.rises_more keys c.loop-i.last c.loop-i.i c.loop-i.invariant h
    (subst (λ (k : ℕ). c.loop-i.last < k) c.key_at-next.ensures c.if-next-last.false)
    ∙ ap (λ (k : ℕ). rises_from k (drop (c.loop-i.i + 1) keys)) (sym c.key_at-next.ensures)

pub returns : goal.returns
returns c =
    let keys = block_keys c.args.file.now in
    laws.rises_end keys c.loop-i.last c.loop-i.i c.loop-i.invariant
    (omega (
      arith,
      length_keys c.args.file.now,
      c.requires.many,
    ))
