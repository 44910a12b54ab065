-- How long groups and units are at most, by the instructions of their blocks.
-- Assumes nothing.
use Rattle.std.proofs.Common.{Some}
use Prim.Native.Nat.{ℕ, suc, ◌+◌, ◌*◌, ◌≤◌, ◌<◌, min}
use mathlib.Core.Path.{◌≡◌, refl, sym, ap, ◌∙◌, subst}
use mathlib.Core.Bool.{false}
use mathlib.Core.Option.{none}
use mathlib.Core.List.{List, [], ◌∷◌, ◌++◌, map}
use native.Mathlib.Omega.{arith}
use native.Mathlib.Decide.{dec_lt}
use lib.ListN.{length, get_or, take, length-map}
use lib.Seq.{take-suc, take_all}
use Rattle.base_hash.specs.Fnv.{hash_multiplier}
use Rattle.base_text.specs.Wrote.{max_usize}
use Rattle.base_lists.proofs.Each.{Each}
use Rattle.base_lists.proofs.Places.{map_at}
use Rattle.file_records.specs.Trailer.{block_count}
use Rattle.file_blocks.specs.Parse.{Block, blocks_of, Accepted}
use Rattle.file_blocks.specs.declared.read.BlockRecord.{BlockRecord}
use Rattle.file_blocks.specs.Read.{found_block}
use Rattle.file_blocks.proofs.Accepted.{length_of_lem, record_reads}
use Rattle.file_blocks.proofs.IsBlock.{nth_block, found_record}
use Rattle.plan_groups.specs.Plan.{groups}
use Rattle.plan_members.specs.Members.{members_of, start_of}
use Rattle.plan_members.specs.Prepared.{HoldsPlan}
use Rattle.plan_members.proofs.Places.{start_next, start_inside, group_left, group_has}
use Rattle.plan_members.proofs.Places.{row_member, row_block_inside, blocks_all}
use Rattle.lower_forms.specs.Forms.{Body}
use Rattle.lower_forms.specs.Block.{body_of}
use Rattle.lower_units.specs.Units.{emit_group, text_of, default_body, bodies_of}
use Rattle.lower_units.specs.Units.{units_by}
use Rattle.lower_units.proofs.Lengths.{members_most, group_within, units_within, units_short}
use Rattle.plan_members.specs.declared.group_rows.Rows.{Rows}
use Rattle.plan_members.specs.GroupRows.{IsGroup}
use Rattle.emit_group.specs.Groups.{file_bodies}
use Rattle.emit_units.specs.Bounds.{IsBlockBound, Bounds}

-- the count of a block's instructions, as its record has it
pub body_counts : (f : List ℕ) (i : ℕ) (r : BlockRecord) → Accepted f → i < block_count f
    → found_block f i ≡ Some r
    → (get_or (file_bodies f) i default_body).count ≡ r.count
unfolding body_of
body_counts f i r ok inside found =
    let d : Block = record { addr = 0; thumb = false; instrs = []; code = none } in
    ap (λ (b : Body). b.count)
    (map_at (body_of hash_multiplier) (blocks_of f) i d default_body
    (omega (arith, length_of_lem f (blocks_of f) ok)))
    ∙ ap (λ (b : Block). length b.instrs) (nth_block f i d inside)
    ∙ sym (record_reads f (blocks_of f) ok i inside).count
    ∙ sym (ap (λ (b : BlockRecord). b.count) (found_record f i r found))

-- one member more
members_more : (bs : List Body) (is : List ℕ) (i : ℕ)
    → members_most (bodies_of bs (is ++ (i ∷ [])))
    ≡ members_most (bodies_of bs is) + (700 + (get_or bs i default_body).count * 2600)
unfolding bodies_of
members_more bs [] i = omega arith
members_more bs (j ∷ is) i = omega (arith, members_more bs is i)

-- what holds at each place of a list holds of each element
each_at : {A : Type 0} (P : A → Type 0) (xs : List A) (d : A)
    → ((h : ℕ) → h < length xs → P (get_or xs h d)) → Each P xs
each_at P [] d all = tt
each_at P (x ∷ xs) d all =
    (all 0 (omega arith), each_at P xs d (λ h below. all (suc h) (omega arith)))

-- what the first members of a group take at most
pub record BoundTo (f : List ℕ) (limit g k bound : ℕ) : Type 0 where
  pub most : bound ≡ members_most (bodies_of (file_bodies f) (take k (members_of limit (blocks_of f) g)))

pub bound_none : {f : List ℕ} {limit g : ℕ} → BoundTo f limit g 0 0
unfolding bodies_of
bound_none = record { most = refl }

module _ {f : List ℕ} {limit : ℕ} {work : List ℕ} {g : ℕ} {rows : Rows}
    (is : IsGroup f limit work g rows) where
  abbrev members : List ℕ
  members = members_of limit (blocks_of f) g

  -- as many rows as members
  pub rows_all : rows.end ≡ rows.first + length members
  rows_all = omega (arith, is.first, is.next, start_next (groups limit (blocks_of f)) g)

  module _ {k bound : ℕ} (to : BoundTo f limit g k bound) where
    -- a row more
    pub bound_more : (more : ℕ) → rows.first + k < rows.end
        → IsBlockBound f (get_or members k 0) more → BoundTo f limit g (k + 1) (bound + more)
    bound_more more inside is_bound =
        let here : k < length members = omega (arith, rows_all) in
        record {
          most =
              omega (
                arith,
                to.most,
                is_bound is.ready.accepted
                    (omega (
                      arith,
                      is.ready.all,
                      row_member is.ready (rows.first + k) g k
                          (omega (arith, is.first)) here,
                      row_block_inside is.ready (rows.first + k) g k
                          (omega (arith, is.first)) here,
                    )),
                members_more (file_bodies f) (take k members) (get_or members k 0),
                ap (λ (js : List ℕ). members_most (bodies_of (file_bodies f) js))
                    (ap (λ (m : ℕ). take m members) (let one : k + 1 ≡ suc k = omega arith in one)
                    ∙ take-suc members k 0 here),
              );
        }

    -- all rows
    pub bound_all : rows.end ≤ rows.first + k
        → length (text_of (emit_group (bodies_of (file_bodies f) (members_of limit (blocks_of f) g))))
        ≤ bound
    bound_all over =
        omega (
          arith,
          to.most,
          ap (λ (js : List ℕ). members_most (bodies_of (file_bodies f) js))
              (take_all k members (omega (arith, rows_all))),
          group_within hash_multiplier (blocks_of f) members,
        )

-- no group before group g is longer than `longest`
pub record LongestTo (f : List ℕ) (limit p longest : ℕ) : Type 0 where
  pub group : ℕ
  pub within : group ≤ length (groups limit (blocks_of f))
  pub here : p ≡ start_of (groups limit (blocks_of f)) group
  pub longer : (h : ℕ) → h < group
      → length (text_of (emit_group (bodies_of (file_bodies f) (members_of limit (blocks_of f) h))))
      ≤ longest

pub longest_none : (f : List ℕ) (limit : ℕ) → LongestTo f limit 0 0
unfolding start_of
longest_none f limit =
    record {
      group = 0;
      within = omega arith;
      here = refl;
      longer = λ h below. absurd (omega arith);
    }

module _ {f : List ℕ} {n limit : ℕ} {work : List ℕ} (ready : HoldsPlan f n limit work)
    {p longest : ℕ} (to : LongestTo f limit p longest) where
  -- a group more
  pub longest_more : (end bound longest' : ℕ) → p < n
      → end ≡ start_of (groups limit (blocks_of f)) (suc to.group)
      → length
      (text_of (emit_group (bodies_of (file_bodies f) (members_of limit (blocks_of f) to.group))))
      ≤ bound
      → longest ≤ longest' → bound ≤ longest' → LongestTo f limit end longest'
  longest_more end bound longest' left ends fits keeps holds =
      record {
        group = suc to.group;
        within = omega (arith, group_left ready to.group (omega (arith, to.here)));
        here = ends;
        longer = λ h below.
            elim (dec_lt h to.group) [
              | yes l ↦ omega (arith, to.longer h l)
              | no d ↦ subst (λ (j : ℕ). length
                  (text_of (emit_group (bodies_of (file_bodies f) (members_of limit (blocks_of f) j))))
                  ≤ longest') (let same : to.group ≡ h = omega arith in same) (omega arith)
            ];
      }

  -- all groups
  pub longest_all : (max bound : ℕ) → n ≤ p
      → bound ≡ min (max + (4200 + 100 * n + longest)) max_usize → Bounds f limit max bound
  unfolding units_by
  longest_all max bound over is u m =
      omega (
        arith,
        units_within hash_multiplier limit max longest (blocks_of f) each u m,
        units_short f (blocks_of f) ready.accepted hash_multiplier limit max u m,
        blocks_all ready,
      )
    where
      count : to.group ≡ length (groups limit (blocks_of f))
      count =
          elim (dec_lt to.group (length (groups limit (blocks_of f)))) [
            | yes l ↦ absurd
                (omega (
                  arith,
                  to.here,
                  group_has ready to.group l,
                  start_next (groups limit (blocks_of f)) to.group,
                  start_inside ready (suc to.group),
                ))
            | no d ↦ omega (arith, to.within)
          ]

      each : Each (λ (g : List Body). length (text_of (emit_group g)) ≤ longest)
          (map (bodies_of (file_bodies f)) (groups limit (blocks_of f)))
      each =
          each_at (λ (g : List Body). length (text_of (emit_group g)) ≤ longest)
          (map (bodies_of (file_bodies f)) (groups limit (blocks_of f)))
          (bodies_of (file_bodies f) [])
          (λ h below.
          let inside : h < length (groups limit (blocks_of f)) =
          omega (arith, length-map (groups limit (blocks_of f)) (bodies_of (file_bodies f))) in
          subst (λ (g : List Body). length (text_of (emit_group g)) ≤ longest)
          (sym (map_at (bodies_of (file_bodies f)) (groups limit (blocks_of f)) h []
          (bodies_of (file_bodies f) []) inside))
          (to.longer h (omega (arith, count))))
