use Prim.Native.Nat.{◌<◌}
use borrow.Author.Rules.{rules}
use lib.ListN.{length}
use mathlib.Core.List.{[]}
use mathlib.Core.Path.{refl, ◌∙◌}
use native.Mathlib.Omega.{arith}
use Rattle.plan_members.proofs.RowKeys.{group_size}
use Rattle.plan_members.specs.Members.{members_of, group_keys}
use Rattle.file_blocks.specs.Parse.{blocks_of}
use Rattle.base_text.proofs.Laws.{none, wrote_as, each_more, each_all}
use Rattle.emit_group.specs.Groups.{labelled_text}
use Rattle.emit_group.proofs.Functions.{members_each}
use Rattle.emit_group.proofs.groups.put_members.Goals as goal

pub loop-k-init : goal.loop-k-init
loop-k-init c = λ limit g is. none (search rules) (search rules)

pub loop-k-preserved : goal.loop-k-preserved
loop-k-preserved c =
    let k = c.loop-k.k in
    let a = c.args in
    let f = a.file.now in
    λ limit g is.
    let inside : k < length (members_of limit (blocks_of f) g) = omega (arith, group_size is) in
    each_more (labelled_text a.hashing f (group_keys limit f g))
    (members_of limit (blocks_of f) g) 0 k inside (c.loop-k.invariant limit g is)
    (c.put_member-q.ensures limit g is)

pub returns : goal.returns
returns c = λ limit g is.
    let a = c.args in
    let f = a.file.now in
    let ms = members_of limit (blocks_of f) g in
    wrote_as (each_all (labelled_text a.hashing f (group_keys limit f g)) ms c.loop-k.k
    (omega (arith, group_size is)) (c.loop-k.invariant limit g is))
    (members_each a.hashing f (group_keys limit f g) ms [])
