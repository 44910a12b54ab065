-- Steps: the units of a file, by the groups and the rows that each takes.
use Rattle.std.specs.Prelude.{ℕ, ◌+◌, ◌≤◌, min, ◌≡◌, Bool, cond, List, [], ◌∷◌, ◌++◌, map, length, take, drop}
use Rattle.std.specs.Prelude.{Option, None, Some}
use Rattle.std.proofs.Math.Option.{none, some}
use Rattle.std.proofs.Math.ListN.{get_elem?}
use Rattle.base_text.specs.Doc.{Doc, nothing, ◌▸◌, each}
use Rattle.base_text.specs.Wrote.{max_usize, Wrote}
use Rattle.base_hash.specs.Fnv.{hash_multiplier}
use Rattle.file_blocks.specs.Parse.{blocks_of}
use Rattle.plan_groups.specs.Plan.{groups}
use Rattle.plan_members.specs.Members.{start_of}
use Rattle.c_tree.specs.Stmt.{Top}
use Rattle.c_tree.specs.Print.{unit_text}
use Rattle.lower_forms.specs.Forms.{Body}
use Rattle.lower_units.specs.Units.{TranslationUnit, emit_group, unit_head, last_unit_end, text_of, cut}
use Rattle.lower_units.specs.Units.{bodies_of, units}
use Rattle.emit_units.specs.declared.extents.Extent.{Extent}
use Rattle.emit_group.specs.Groups.{file_bodies, group_text}

-- the length of at bytes and the text of a tree, or the largest `usize` where that is less
abbrev pub after : ℕ → List Top → ℕ
after at ts = min (at + length (text_of ts)) max_usize

-- a tree with some groups after it
unfoldable pub grown : List Body → List Top → List (List ℕ) → List Top
grown bs ts [] = ts
grown bs ts (is ∷ gs) = grown bs (ts ++ emit_group (bodies_of bs is)) gs

-- so many groups of a file from group g on, as a unit has them
abbrev pub unit_groups : List ℕ → ℕ → ℕ → ℕ → List Top
unit_groups f limit g size =
    grown (file_bodies f) unit_head (take size (drop g (groups limit (blocks_of f))))

-- the tree of a unit with so many groups from group g on
abbrev pub unit_tree : List ℕ → ℕ → ℕ → ℕ → Bool → List Top
unit_tree f limit g size last =
    cond last (unit_groups f limit g size ++ last_unit_end (file_bodies f)) (unit_groups f limit g size)

-- the units of the groups from group g on, where the tree of the one reached is ts
abbrev pub units_with : List ℕ → ℕ → ℕ → List Top → ℕ → List TranslationUnit
units_with f limit max ts g =
    cut max (last_unit_end (file_bodies f)) ts (start_of (groups limit (blocks_of f)) g)
    (map (bodies_of (file_bodies f)) (drop g (groups limit (blocks_of f))))

-- where nothing of one is reached yet
abbrev pub units_from : List ℕ → ℕ → ℕ → ℕ → List TranslationUnit
units_from f limit max g = units_with f limit max unit_head g

-- the rows of so many groups from group g on
pub record SpansGroups (f : List ℕ) (limit g size : ℕ) (e : Extent) : Type 0 where
  pub within : g + size ≤ length (groups limit (blocks_of f))
  pub start : e.start ≡ start_of (groups limit (blocks_of f)) g
  pub end : e.end ≡ start_of (groups limit (blocks_of f)) (g + size)

-- an extent is that of the first unit of the groups from group g on
pub record FirstUnit (f : List ℕ) (limit max g : ℕ) (e : Extent) : Type 0 where
  pub size : ℕ
  pub takes : SpansGroups f limit g size e
  pub bytes : e.length ≡ after 0 (unit_tree f limit g size e.last)
  pub units : units_from f limit max g
      ≡ record { tree = unit_tree f limit g size e.last; done = e.end; last = e.last }
      ∷ cond e.last [] (units_from f limit max (g + size))

-- the text of a unit with so many groups from group g on, written (true) or measured (false)
abbrev pub unit_doc : Bool → List ℕ → ℕ → ℕ → ℕ → Bool → Doc
unit_doc hashing f limit g size last =
    (unit_text unit_head
    ▸ each (group_text hashing f) (take size (drop g (groups limit (blocks_of f)))))
    ▸ cond last (unit_text (last_unit_end (file_bodies f))) nothing

-- an extent is that of the first unit of the groups from group g on, whose text was put over the
-- front of o, which became o'
pub record MadeUnit (hashing : Bool) (f : List ℕ) (limit max g : ℕ) (o o' : List ℕ) (e : Extent) :
    Type 0 where
  pub first : FirstUnit f limit max g e
  pub wrote : Wrote o 0 (unit_doc hashing f limit g first.size e.last) o' e.length

-- unit k is the first of the groups from row p on, whose number is `group`
pub record StartsAt (f : List ℕ) (limit max k p : ℕ) : Type 0 where
  pub group : ℕ
  pub within : group ≤ length (groups limit (blocks_of f))
  pub here : p ≡ start_of (groups limit (blocks_of f)) group
  pub units : drop k (units hash_multiplier limit max (blocks_of f)) ≡ units_from f limit max group

-- the row found is that of unit k, or there is no such unit
unfoldable pub IsFoundStart : List ℕ → ℕ → ℕ → ℕ → Option ℕ → Type 0
IsFoundStart f limit max k None =
    drop k (units hash_multiplier limit max (blocks_of f)) ≡ []
IsFoundStart f limit max k (Some p) = StartsAt f limit max k p

-- a row found is a row of n, or the one after
unfoldable pub StartWithin : ℕ → Option ℕ → Type 0
StartWithin n None = Unit {0}
StartWithin n (Some p) = p ≤ n

-- an extent is that of unit k
pub record IsUnit (f : List ℕ) (limit max k : ℕ) (e : Extent) : Type 0 where
  pub at : StartsAt f limit max k e.start
  pub first : FirstUnit f limit max at.group e
  pub unit : TranslationUnit
  pub found : get_elem? (units hash_multiplier limit max (blocks_of f)) k ≡ some unit
  pub bytes : e.length ≡ length (text_of unit.tree)
  pub done : e.end ≡ unit.done
  pub last : e.last ≡ unit.last
  pub tree : unit.tree ≡ unit_tree f limit at.group first.size e.last

-- what is found is unit k, or there is none
unfoldable pub IsFoundUnit : List ℕ → ℕ → ℕ → ℕ → Option Extent → Type 0
IsFoundUnit f limit max k None =
    get_elem? (units hash_multiplier limit max (blocks_of f)) k ≡ none
IsFoundUnit f limit max k (Some e) = IsUnit f limit max k e
