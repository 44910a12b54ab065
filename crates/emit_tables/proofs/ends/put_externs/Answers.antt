use Prim.Native.Nat.{ℕ}
use borrow.Author.Rules.{rules}
use mathlib.Core.List.{[]}
use mathlib.Core.Path.{ap}
use native.Mathlib.Omega.{arith}
use Rattle.c_tree.specs.Print.{top_text}
use Rattle.c_tree.specs.Stmt.{extern}
use Rattle.base_text.proofs.Laws.{none, wrote_as, each_more, each_all}
use Rattle.base_text.specs.Flat.{flat}
use Rattle.file_keys.specs.Order.{block_keys}
use Rattle.file_keys.proofs.Reading.{length_keys}
use Rattle.emit_tables.proofs.ends.put_externs.Goals as goal

pub loop-i-init : goal.loop-i-init
loop-i-init c = none (search rules) (search rules)

pub loop-i-preserved : goal.loop-i-preserved
loop-i-preserved c =
    let f = c.args.file.now in
    each_more (λ (k : ℕ). top_text (extern k)) (block_keys f) 0 _
    (omega (arith, c.requires.0, length_keys f)) c.loop-i.invariant
    (wrote_as c.put_extern-p.ensures
    (ap (λ (k : ℕ). flat (top_text (extern k)) []) (c.block_key.ensures c.requires.1)))

pub returns : goal.returns
returns c =
    let f = c.args.file.now in
    each_all (λ (k : ℕ). top_text (extern k)) (block_keys f) c.loop-i.i
    (omega (arith, c.requires.0, length_keys f)) c.loop-i.invariant
