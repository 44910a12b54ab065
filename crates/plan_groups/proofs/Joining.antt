-- Edges in the work numbers: one, those of a block, and those of all blocks.
-- Assumes nothing.
use Rattle.std.proofs.Common.{Option, Some, None}
use mathlib.Core.Path.{◌≡◌, refl, sym, ap, ◌∙◌, subst}
use mathlib.Core.Bool.{true, false}
use mathlib.Core.List.{List}
use Prim.Native.Nat.{ℕ, ◌+◌, ◌*◌, ◌-◌, ◌≤◌, ◌<◌}
use native.Mathlib.Nat.{add_assoc}
use native.Mathlib.Omega.{arith}
use borrow.Rule.Slice.PartMut.{put_mid}
use lib.ListN.{length}
use Rattle.file_blocks.specs.declared.read.BlockRecord.{BlockRecord}
use Rattle.file_records.specs.Trailer.{block_count, block_start}
use Rattle.file_records.specs.BlockRecord.{count_sum}
use Rattle.file_blocks.specs.Parse.{block_at, blocks_of, Accepted}
use Rattle.file_blocks.specs.Read.{record_at, found_block}
use Rattle.base_forest.specs.Forest.{Forest, SameRoots, Hung}
use Rattle.plan_exits.specs.declared.exits.Exits.{Exits}
use Rattle.plan_exits.specs.Exits.{keys_of, exits}
use Rattle.plan_search.specs.Target.{target, joinable, on_page8}
use Rattle.plan_groups.specs.Plan.{join_to, join_exits}
use Rattle.file_keys.specs.Answers.{number_of}
use Rattle.plan_search.specs.Search.{TargetInside}
use Rattle.plan_groups.specs.Groups.{quarter1, HasOrder, Joined, join_record}
use Rattle.file_blocks.proofs.IsBlock.{missing, found_record}
use Rattle.plan_groups.proofs.Lending.{take_kept, quarter_length, back_length, back_quarter}
use Rattle.plan_groups.proofs.Lending.{back_before, back_after}
use Rattle.base_forest.proofs.Roots.{deeper, same_deeper}

module _ (f w : List ℕ) (n i key : ℕ) (found : Option ℕ)
    (says : number_of found ≡ target key (blocks_of f) 0) where
  abbrev joins : List ℕ → List ℕ
  joins q = join_to i q (target key (blocks_of f) 0)

  -- no block to join
  pub join_nothing : found ≡ None
      → Joined 1 n w w (λ q. join_to i q (target key (blocks_of f) 0))
  join_nothing e =
      record {
        same = refl;
        before = λ k h. refl;
        after = λ k h. refl;
        depth = λ d g. deeper g (d + 1) (omega arith);
        roots = λ d q room g.
            subst (SameRoots (d + 1) (quarter1 n w))
            (ap (join_to i q) (sym (ap number_of e) ∙ says))
            (same_deeper g (d + 1) (omega arith));
      }

  -- a block to join
  pub join_at : (j : ℕ) (p' : List ℕ) → 4 * n ≤ length w → found ≡ Some j
      → Hung (quarter1 n w) i j p'
      → Joined 1 n w (put_mid n (2 * n - n) w p') (λ q. join_to i q (target key (blocks_of f) 0))
  join_at j p' room e h =
      let long : length p' ≡ n = h.lengths ∙ quarter_length n w room in
      let part-is : quarter1 n (put_mid n (2 * n - n) w p') ≡ p' = back_quarter n w p' room long in
      record {
        same = back_length n w p' room long;
        before = back_before n w p' room long;
        after = back_after n w p' room long;
        depth = λ d g. subst (Forest (d + 1)) (sym part-is) (h.depth d g);
        roots = λ d q few g.
            subst (λ (l : List ℕ). SameRoots (d + 1) l (joins q)) (sym part-is)
            (subst (SameRoots (d + 1) p') (ap (join_to i q) (sym (ap number_of e) ∙ says))
            (h.roots d q (omega (arith, quarter_length n w room)) g));
      }

-- the block found is inside
pub target_inside : (f : List ℕ) (found : Option ℕ) (j n : ℕ) → TargetInside f found
    → found ≡ Some j → n ≡ block_count f → j < n
target_inside f found j n h e g = subst (λ (m : ℕ). j < m) (sym g) (subst (TargetInside f) e h)

-- edges leave the key order in quarter 0
pub order_kept : {edges n : ℕ} {joins : List ℕ → List ℕ} (f w w' : List ℕ) → 4 * n ≤ length w
    → Joined edges n w w' joins → HasOrder f n w → HasOrder f n w'
order_kept {edges} {n} f w w' room j h =
    take_kept n w w' j.same (omega arith) j.before ∙ h

-- no edge
pub joined_none : (n : ℕ) (w : List ℕ) → Joined 0 n w w (λ q. q)
joined_none n w =
    record {
      same = refl;
      before = λ k h. refl;
      after = λ k h. refl;
      depth = λ d g. deeper g (d + 0) (omega arith);
      roots = λ d q few g. same_deeper g (d + 0) (omega arith);
    }

-- some edges and then some more
pub joined_then : {e₁ e₂ n : ℕ} {w w₁ w₂ : List ℕ} {j₁ j₂ : List ℕ → List ℕ}
    → Joined e₁ n w w₁ j₁ → Joined e₂ n w₁ w₂ j₂ → Joined (e₁ + e₂) n w w₂ (λ q. j₂ (j₁ q))
joined_then {e₁} {e₂} {n} {w} {w₁} {w₂} {j₁} {j₂} a b =
    record {
      same = b.same ∙ a.same;
      before = λ k h. b.before k h ∙ a.before k h;
      after = λ k h. b.after k h ∙ a.after k h;
      depth =
          λ d g. subst (λ (m : ℕ). Forest m (quarter1 n w₂)) (add_assoc d e₁ e₂)
          (b.depth (d + e₁) (a.depth d g));
      roots = λ d q few g.
          subst (λ (m : ℕ). SameRoots m (quarter1 n w₂) (j₂ (j₁ q))) (add_assoc d e₁ e₂)
          (b.roots (d + e₁) (j₁ q) (omega arith) (a.roots d q (omega arith) g));
    }

-- edges that make no way longer than more edges would
pub joined_more : {e₁ n : ℕ} {w w₁ : List ℕ} {j : List ℕ → List ℕ} (e₂ : ℕ)
    → e₁ ≤ e₂ → Joined e₁ n w w₁ j → Joined e₂ n w w₁ j
joined_more {e₁} {n} {w} {w₁} e₂ h a =
    record {
      same = a.same;
      before = a.before;
      after = a.after;
      depth = λ d g. deeper (a.depth d g) (d + e₂) (omega arith);
      roots =
          λ d q few g. same_deeper (a.roots d q (omega arith) g) (d + e₂) (omega arith);
    }

-- the edges of an exit list, by its case
module _ (f : List ℕ) (i n : ℕ) (w : List ℕ) (x : Exits) where
  pub exits_none : x ≡ Exits.None
      → Joined 2 n w w (λ q. join_exits (blocks_of f) i q (keys_of x))
  unfolding join_exits
  exits_none e = rw e (joined_more 2 (omega arith) (joined_none n w))

  pub exits_one : (k : ℕ) (w₁ : List ℕ) → x ≡ Exits.One k
      → Joined 1 n w w₁ (λ q. join_to i q (target k (blocks_of f) 0))
      → Joined 2 n w w₁ (λ q. join_exits (blocks_of f) i q (keys_of x))
  unfolding join_exits
  exits_one k w₁ e a = rw e (joined_more 2 (omega arith) a)

  pub exits_two : (k l : ℕ) (w₁ w₂ : List ℕ) → x ≡ Exits.Two k l
      → Joined 1 n w w₁ (λ q. join_to i q (target k (blocks_of f) 0))
      → Joined 1 n w₁ w₂ (λ q. join_to i q (target l (blocks_of f) 0))
      → Joined 2 n w w₂ (λ q. join_exits (blocks_of f) i q (keys_of x))
  unfolding join_exits
  exits_two k l w₁ w₂ e a b = rw e (joined_then a b)

-- block i as a pass over the records has it
module _ (f : List ℕ) (i n : ℕ) (w : List ℕ) (found : Option BlockRecord) (reads : found ≡ found_block f i)
    (inside : i < n) (all : n ≡ block_count f) where
  -- the reader finds nothing: not in an accepted file
  pub block_missing : Accepted f → found ≡ None → Joined 2 n w w (join_record f i)
  block_missing a e = absurd (omega (arith, missing f a i (sym reads ∙ e)))

  module _ (b : BlockRecord) (at : found ≡ Some b) where
    record_is : b ≡ record_at f (block_start f i)
    record_is = found_record f i b (sym reads ∙ at)

    page_is : joinable (block_at f (block_start f i) (count_sum f i)) ≡ on_page8 b.addr
    unfolding block_at record_at
    page_is = ap (λ (r : BlockRecord). on_page8 r.addr) (sym record_is)

    -- a block of another page makes no edge
    pub block_apart : on_page8 b.addr ≡ false → Joined 2 n w w (join_record f i)
    block_apart off =
        record {
          same = refl;
          before = λ k h. refl;
          after = λ k h. refl;
          depth = λ d g. deeper g (d + 2) (omega arith);
          roots =
              λ d q few g. subst (SameRoots (d + 2) (quarter1 n w)) (sym (rw (page_is, off)))
              (same_deeper g (d + 2) (omega arith));
        }

    -- a block of page 8 makes those of its exits
    pub block_joins : on_page8 b.addr ≡ true → (x : Exits) (w₁ : List ℕ)
        → keys_of x ≡ exits (block_at f (block_start f i) (count_sum f i))
        → Joined 2 n w w₁ (λ q. join_exits (blocks_of f) i q (keys_of x))
        → Joined 2 n w w₁ (join_record f i)
    block_joins e x w₁ keys j =
        record {
          same = j.same;
          before = j.before;
          after = j.after;
          depth = j.depth;
          roots = λ d q few g.
              subst (SameRoots (d + 2) (quarter1 n w₁))
              (ap (join_exits (blocks_of f) i q) keys ∙ sym (rw (page_is, e)))
              (j.roots d q few g);
        }
