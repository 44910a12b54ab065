-- `put_lone` writes head, code and end.
-- Assumes nothing.
use Prim.Native.Nat.{ℕ}
use lib.ListN.{length}
use mathlib.Core.List.{[]}
use mathlib.Core.Path.{◌≡◌, ap}
use native.Mathlib.Omega.{arith}
use Rattle.emit_tables.proofs.Around.{hashed_member_keys}
use Rattle.plan_members.proofs.RowKeys.{group_size, row_first}
use Rattle.base_hash.specs.Fnv.{hash_multiplier}
use Rattle.plan_members.specs.Members.{members_of, group_keys}
use Rattle.file_blocks.specs.Parse.{blocks_of}
use Rattle.base_text.proofs.Laws.{wrote_as}
use Rattle.base_text.specs.Flat.{flat}
use Rattle.emit_group.specs.Groups.{member_text}
use Rattle.emit_group.proofs.Functions.{lone_wrote}
use Rattle.emit_group.proofs.groups.put_lone.Goals as goal

pub put_code-b-requires : goal.put_code-b-requires
put_code-b-requires c =
    c.member_at-m.ensures.row c.args.file.now
    (c.requires, omega (arith, c.requires.1))

pub returns : goal.returns
returns c = λ limit g is single.
    let a = c.args in
    let f = a.file.now in
    let ms = members_of limit (blocks_of f) g in
    let one : length (members_of limit (blocks_of f) g) ≡ 1 = omega (arith, group_size is, single) in
    let row = row_first is c.requires.1 in
    lone_wrote a.hashing f ms (group_keys limit f g) _ one
    (hashed_member_keys a.hashing hash_multiplier (blocks_of f) ms)
    (c.row_key.ensures _ limit g 0 row) c.put_block_head-a.ensures
    (wrote_as
    (c.put_code-b.ensures []
    (c.member_at-m.ensures.stands f limit g is))
    (ap (λ (i : ℕ). flat (member_text a.hashing f [] i) [])
    (c.member_at-m.ensures.number f limit g is)))
    c.put_function_end.ensures
