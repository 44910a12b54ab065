-- `put_several` writes the functions of the group piece by piece.
-- Assumes nothing.
use mathlib.Core.List.{map}
use native.Mathlib.Omega.{arith}
use Rattle.emit_tables.proofs.Around.{hashed_member_keys}
use Rattle.plan_members.proofs.RowKeys.{row_first}
use Rattle.base_hash.specs.Fnv.{hash_multiplier}
use Rattle.lower_units.specs.Measured.{hashed_if}
use Rattle.lower_units.specs.Units.{bodies_of}
use Rattle.plan_members.specs.Members.{members_of, group_keys}
use Rattle.file_blocks.specs.Parse.{blocks_of}
use Rattle.emit_group.specs.Groups.{file_bodies}
use Rattle.emit_group.proofs.Functions.{members_count, several_wrote}
use Rattle.emit_group.proofs.groups.put_several.Goals as goal

pub returns : goal.returns
returns c = λ limit g is some.
    let a = c.args in
    let f = a.file.now in
    let is' = members_of limit (blocks_of f) g in
    let ms = map (hashed_if a.hashing) (bodies_of (file_bodies f) is') in
    let keys = hashed_member_keys a.hashing hash_multiplier (blocks_of f) is' in
    several_wrote ms (group_keys limit f g) _ (omega (arith, members_count a.hashing f is')) keys
    (c.row_key.ensures _ limit g 0 (row_first is c.requires.1))
    c.put_group_head-a.ensures
    (c.put_cases-b.ensures limit g is ms keys) c.put_switch_end-c.ensures
    (c.put_members-d.ensures limit g is) c.put_function_end-e.ensures
    (c.put_forwarders.ensures limit g is)
