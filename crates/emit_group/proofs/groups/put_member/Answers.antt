-- `put_member` writes label, code and an empty line.
-- Assumes nothing.
use Prim.Native.Nat.{ℕ}
use mathlib.Core.List.{[]}
use mathlib.Core.Path.{ap, ◌∙◌}
use native.Mathlib.Omega.{arith}
use Rattle.plan_members.proofs.RowKeys.{group_size, row_of}
use Rattle.c_tree.specs.Print.{code_text}
use Rattle.c_tree.specs.Stmt.{label, end, ◌⨾◌}
use Rattle.lower_units.specs.Block.{nl}
use Rattle.base_text.proofs.Laws.{seq, wrote_as}
use Rattle.base_text.specs.Flat.{flat}
use Rattle.plan_members.specs.Members.{group_keys}
use Rattle.emit_group.specs.Groups.{member_text}
use Rattle.emit_group.proofs.Functions.{member_key}
use Rattle.emit_group.proofs.groups.put_member.Goals as goal

pub put_code-b-requires : goal.put_code-b-requires
put_code-b-requires c =
    c.member_at-m.ensures.row c.args.file.now c.requires

pub returns : goal.returns
returns c = λ limit g is.
    let a = c.args in
    let k = a.k in
    let row = row_of is k (omega (arith, group_size is, c.requires.1)) in
    let f = a.file.now in
    let ks = group_keys limit f g in
    let key = c.row_key.ensures _ limit g k row ∙ member_key limit f g k row.inside
    in
    seq (wrote_as c.put_label-a.ensures
    (ap (λ (j : ℕ). flat (code_text (label j ⨾ nl ⨾ end)) []) key))
    (seq (wrote_as
    (c.put_code-b.ensures ks (c.member_at-m.ensures.stands f limit g is))
    (ap (λ (i : ℕ). flat (member_text a.hashing f ks i) [])
    (c.member_at-m.ensures.number f limit g is)))
    c.put_member_end.ensures)
