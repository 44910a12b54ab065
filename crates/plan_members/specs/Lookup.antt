-- Steps: the search for a key among those of a group's members.
use Rattle.std.specs.Prelude.{ℕ, ◌≤◌, ◌<◌, ◌≡◌, Bool, true, false, List, length, get_or}
use Rattle.base_lists.specs.Lists.{among}
use Rattle.plan_members.specs.declared.group_rows.Rows.{Rows}
use Rattle.plan_members.specs.Members.{group_keys}
use Rattle.plan_members.specs.GroupRows.{IsGroup}

-- of some keys, those before place low are below a key, and those from place high on are not
pub record KeyBetween (ks : List ℕ) (key low high : ℕ) : Type 0 where
  pub below : (k : ℕ) → k < low → get_or ks k 0 < key
  pub above : (k : ℕ) → high ≤ k → k < length ks → key ≤ get_or ks k 0

-- r says whether some keys have a place k, and a key stands there
pub record SaysAt (ks : List ℕ) (key k : ℕ) (r : Bool) : Type 0 where
  pub here : r ≡ true → (k < length ks) × (get_or ks k 0 ≡ key)
  pub absent : r ≡ false → k < length ks → get_or ks k 0 ≡ key → ⊥

-- r says whether a key is that of a member of the group in some rows
abbrev pub SaysInGroup : List ℕ → List ℕ → Rows → ℕ → Bool → Type 0
SaysInGroup f work rows key r =
    (limit g : ℕ) → IsGroup f limit work g rows → r ≡ among key (group_keys limit f g)
