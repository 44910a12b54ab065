-- The text of a unit, as the pieces that are written one after another.
use mathlib.Core.Path.{◌≡◌, refl, sym, ap, ap₂, ◌∙◌}
use Prim.Native.Nat.{ℕ, suc, ◌+◌, ◌≤◌, ◌<◌, min}
use native.Mathlib.Omega.{arith}
use mathlib.Core.Bool.{Bool, true, false}
use mathlib.Core.List.{List, [], ◌∷◌, ◌++◌, map}
use lib.ListN.{length, get_or, take, drop, length-drop}
use lib.Seq.{get_or-drop}
use Rattle.base_text.specs.Doc.{◌▸◌, each}
use Rattle.base_text.specs.Flat.{flat}
use Rattle.base_text.specs.Wrote.{max_usize, Wrote}
use Rattle.base_text.proofs.Laws.{none, seq, wrote_as, each_append, each_more}
use Rattle.file_blocks.specs.Parse.{blocks_of}
use Rattle.plan_groups.specs.Plan.{groups}
use Rattle.plan_members.specs.Members.{start_of}
use Rattle.plan_members.specs.Prepared.{HoldsPlan}
use Rattle.c_tree.specs.Stmt.{Top}
use Rattle.c_tree.specs.Print.{top_text, unit_text}
use Rattle.lower_forms.specs.Forms.{Body}
use Rattle.lower_units.specs.Measured.{hashed_if}
use Rattle.lower_units.specs.Units.{emit_group, unit_head, last_unit_end, text_of, bodies_of}
use Rattle.lower_units.proofs.Measured.{hashed_written, hashed_length}
use Rattle.emit_units.specs.declared.extents.Extent.{Extent}
use Rattle.emit_group.specs.Groups.{file_bodies, group_text}
use Rattle.emit_units.specs.Units.{after, grown, unit_groups, unit_tree, unit_doc, MadeUnit}
use Rattle.emit_units.proofs.Cuts.{Walked, walked_none, walked_more, walked_handed}
use Rattle.emit_units.proofs.Cuts.{walked_end, inside}

-- bodies as they are written are themselves
all_written : (bs : List Body) → map (hashed_if true) bs ≡ bs
all_written [] = refl
all_written (b ∷ bs) =
    ap₂ (λ (c : Body) (cs : List Body). c ∷ cs) (hashed_written b) (all_written bs)

-- a tree with some groups after it
grown_text : (f : List ℕ) (ts : List Top) (gs : List (List ℕ)) (k : List ℕ)
    → flat (unit_text ts ▸ each (group_text true f) gs) k
    ≡ flat (unit_text (grown (file_bodies f) ts gs)) k
unfolding grown
grown_text f ts [] k = refl
grown_text f ts (is ∷ gs) k =
    let ms : List Body = bodies_of (file_bodies f) is in
    ap (λ (bs : List Body). flat (unit_text ts ▸ unit_text (emit_group bs))
    (flat (each (group_text true f) gs) k)) (all_written ms)
    ∙ each_append top_text ts (emit_group ms) (flat (each (group_text true f) gs) k)
    ∙ grown_text f (ts ++ emit_group ms) gs k

-- a group that is written or measured makes a text longer by its length
pub group_after : (hashing : Bool) (f : List ℕ) (is : List ℕ) {o o' : List ℕ} {at r : ℕ}
    → Wrote o at (group_text hashing f is) o' r
    → r ≡ after at (emit_group (bodies_of (file_bodies f) is))
unfolding text_of
group_after hashing f is {o} {o'} {at} {r} w =
    w.next
    ∙ ap (λ (m : ℕ). min (at + m) max_usize)
    (hashed_length hashing (bodies_of (file_bodies f) is))

-- how far the first unit of the groups from group g on has come: row q and so many bytes, of which
-- those from `from` on were put over o
pub record Making (hashing : Bool) (f : List ℕ) (limit max g q from at : ℕ) (o o' : List ℕ) : Type 0
  where
    pub walked : Walked f limit max g q at
    pub wrote : Wrote o from
        (each (group_text hashing f) (take walked.size (drop g (groups limit (blocks_of f)))))
        o' at

-- PREAMBLE is written, and no group yet
pub making_none : {hashing : Bool} {f : List ℕ} {limit max g p at : ℕ} {o o' : List ℕ}
    → g ≤ length (groups limit (blocks_of f)) → p ≡ start_of (groups limit (blocks_of f)) g
    → Wrote o 0 (unit_text unit_head) o' at → length o' ≡ length o
    → Making hashing f limit max g p at at o' o'
unfolding text_of walked_none
making_none {limit = limit} h e w same =
    record {
      walked = walked_none _ limit _ _ _ _ h e w.next;
      wrote = none (omega (arith, w.small)) (omega (arith, w.next));
    }

module _ {hashing : Bool} {f : List ℕ} {n limit : ℕ} {work : List ℕ}
    (ready : HoldsPlan f n limit work)
    {max g q from at : ℕ} {o₁ o₂ : List ℕ} (m : Making hashing f limit max g q from at o₁ o₂) where
  abbrev gs : List (List ℕ)
  gs = groups limit (blocks_of f)

  module _ (left : q < n) {end at' : ℕ} {o₃ : List ℕ}
      (ends : end ≡ start_of (groups limit (blocks_of f)) (suc (g + m.walked.size)))
      (put : Wrote o₂ at
      (group_text hashing f (get_or (groups limit (blocks_of f)) (g + m.walked.size) [])) o₃ at')
      (most : max ≤ max_usize) where
    long : at' ≡ after at (emit_group (bodies_of (file_bodies f) (get_or gs (g + m.walked.size) [])))
    long = group_after hashing f (get_or gs (g + m.walked.size) []) put

    -- one group more
    wrote_more : Wrote o₁ from
        (each (group_text hashing f) (take (suc m.walked.size) (drop g gs))) o₃ at'
    wrote_more =
        rw (sym (add-one m.walked.size))
        (each_more (group_text hashing f) (drop g gs) [] m.walked.size
        (omega (arith, length-drop g gs, inside ready m.walked left _ _ ends long most))
        m.wrote (wrote_as put (ap (λ (is : List ℕ). flat (group_text hashing f is) [])
        (sym (get_or-drop g gs m.walked.size [])))))
      where
        add-one : (k : ℕ) → k + 1 ≡ suc k
        add-one k = omega arith

    -- a group after which the unit goes on
    pub making_more : at' < max → Making hashing f limit max g end from at' o₁ o₃
    unfolding walked_more
    making_more short =
        record {
          walked = walked_more ready m.walked left _ _ ends long most short;
          wrote = wrote_more;
        }

    -- a group after which it is handed on
    pub making_handed : {o : List ℕ} (start : ℕ) → start ≡ start_of (groups limit (blocks_of f)) g
        → max ≤ at' → Wrote o 0 (unit_text unit_head) o₁ from
        → MadeUnit hashing f limit max g o o₃
        (record { start = start; end = end; length = at'; last = false })
    unfolding walked_handed
    making_handed start first enough head =
        record {
          first = walked_handed ready m.walked left _ _ ends long most start first enough;
          wrote = wrote_as (seq head wrote_more) refl;
        }

  -- where no row is left
  pub making_end : {o o₃ : List ℕ} {r : ℕ} (start : ℕ)
      → start ≡ start_of (groups limit (blocks_of f)) g → n ≤ q
      → Wrote o 0 (unit_text unit_head) o₁ from
      → Wrote o₂ at (unit_text (last_unit_end (file_bodies f))) o₃ r
      → MadeUnit hashing f limit max g o o₃
      (record { start = start; end = q; length = r; last = true })
  unfolding text_of walked_end
  making_end start first none_left head put =
      record {
        first = walked_end ready m.walked start _ first none_left put.next;
        wrote = seq (seq head m.wrote) put;
      }

-- a unit that is written has the text of its tree
pub made_text : {f : List ℕ} {limit max g : ℕ} {o o' : List ℕ} {e : Extent}
    (m : MadeUnit true f limit max g o o' e)
    → Wrote o 0 (unit_text (unit_tree f limit g m.first.size e.last)) o' e.length
made_text {f} {limit} {max} {g} {o} {o'} {e} m =
    wrote_as m.wrote (go e.last)
  where
    size : ℕ
    size = m.first.size

    go : (last : Bool)
        → flat (unit_doc true f limit g size last) []
        ≡ flat (unit_text (unit_tree f limit g size last)) []
    go true =
        grown_text f unit_head (take size (drop g (groups limit (blocks_of f))))
        (flat (unit_text (last_unit_end (file_bodies f))) [])
        ∙ each_append top_text (unit_groups f limit g size) (last_unit_end (file_bodies f)) []
    go false = grown_text f unit_head (take size (drop g (groups limit (blocks_of f)))) []
