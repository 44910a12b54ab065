-- Whether a transfer is a goto, by the group of its block.
-- Assumes nothing.
use Rattle.std.proofs.Common.{◌≡◌, ℕ, Bool, true, false, List, sym, ap, ◌∙◌}
use Rattle.base_lists.specs.Lists.{among}
use Rattle.plan_members.specs.Members.{group_keys}
use Rattle.plan_members.specs.Lookup.{SaysInGroup}
use Rattle.emit_block.specs.declared.member.Member.{Member}
use Rattle.emit_block.specs.Walk.{IsMember}

module _ {f work : List ℕ} {m : Member} {ks : List ℕ} (s : IsMember f work m ks) (key : ℕ) where
  -- a block with others in its group
  pub inside_group : (r : Bool) → m.several ≡ true → SaysInGroup f work m.rows key r
      → among key ks ≡ r
  inside_group r e found =
      let same : ks ≡ group_keys s.limit f s.group = rw e at s.keys in
      ap (among key) same ∙ sym (found s.limit s.group s.rows)

  -- a lone block
  pub inside_lone : m.several ≡ false → among key ks ≡ false
  inside_lone e = ap (among key) (rw e at s.keys)
