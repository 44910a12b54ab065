use Prim.Native.Nat.{◌<◌}
use borrow.Author.Rules.{rules}
use lib.ListN.{length}
use mathlib.Core.List.{[]}
use mathlib.Core.Path.{refl, ◌∙◌}
use native.Mathlib.Omega.{arith}
use Rattle.plan_members.specs.Members.{members_of, group_keys}
use Rattle.file_blocks.specs.Parse.{blocks_of}
use Rattle.base_text.proofs.Laws.{none, seq, wrote_as, kept}
use Rattle.emit_tables.proofs.Around.{numbered_more, entry, forwarders_keys}
use Rattle.plan_members.proofs.RowKeys.{group_size, keys_size, row_first, row_of}
use Rattle.emit_tables.proofs.entries.put_forwarders.Goals as goal

pub loop-k-init : goal.loop-k-init
loop-k-init c = λ limit g is. none (search rules) (search rules)

pub loop-k-preserved : goal.loop-k-preserved
loop-k-preserved c =
    let k = c.loop-k.k in
    let file = c.args.file.now in
    λ limit g is.
    let inside : k < length (members_of limit (blocks_of file) g) =
    omega (arith, group_size is) in
    numbered_more (entry c.row_key-group.result) (group_keys limit file g) k _
    (omega (arith, keys_size is))
    (c.row_key.ensures _ limit g k (row_of is k inside))
    (c.loop-k.invariant limit g is) c.put_forwarder-q.ensures

pub returns : goal.returns
returns c = λ limit g is b bs keys.
    let file = c.args.file.now in
    wrote_as (seq (c.loop-k.invariant limit g is) c.put.ensures)
    (forwarders_keys b bs (group_keys limit file g) c.row_key-group.result c.loop-k.k [] keys
    (c.row_key-group.ensures _ limit g 0
    (row_first is c.requires.1))
    (omega (arith, keys_size is, group_size is)))
