-- The passes over all blocks: first instructions, edges, and what they make together.
-- Assumes nothing.
use mathlib.Core.Path.{◌≡◌, refl, sym, ap, ap₂, ◌∙◌, subst}
use mathlib.Core.List.{List, ◌∷◌}
use Prim.Native.Nat.{ℕ, suc, zero-le, ◌+◌, ◌*◌, ◌-◌, ◌≤◌, ◌<◌}
use native.Mathlib.Nat.{not-suc-le-zero}
use native.Mathlib.Numerals.{add-one}
use native.Mathlib.Omega.{arith}
use native.Mathlib.Decide.{ℕ_discrete}
use borrow.Rule.Slice.PartMut.{put_mid}
use lib.ListN.{length, get_or, set, take, drop, length-set, get_or-map}
use lib.Seq.{get_or-set_same, get_or-set_other, drop-cons, drop-length, get_or-drop}
use Rattle.base_lists.specs.Lists.{range}
use Rattle.base_lists.specs.Interleave.{interleave}
use Rattle.base_lists.proofs.Range.{length_range}
use Rattle.base_forest.specs.Forest.{Forest, SameRoots}
use Rattle.base_forest.specs.Roots.{root}
use Rattle.base_forest.proofs.Roots.{forest_range, same_self}
use Rattle.file_records.specs.Trailer.{block_count, block_start}
use Rattle.file_records.specs.BlockRecord.{count_at, count_sum}
use Rattle.file_blocks.specs.Parse.{Block, blocks_of, Accepted}
use Rattle.file_blocks.specs.Read.{record_at}
use Rattle.file_blocks.proofs.Accepted.{few_instrs, instrs_inside, length_of_lem, record_reads}
use Rattle.file_blocks.proofs.IsBlock.{nth_block}
use Rattle.file_blocks.proofs.Nowhere.{nowhere}
use Rattle.file_keys.specs.Order.{block_keys, key_order}
use Rattle.file_keys.specs.Steps.{InKeyOrder}
use Rattle.file_keys.proofs.Reading.{length_keys}
use Rattle.plan_groups.specs.Plan.{join_blocks, parents, plan}
use Rattle.plan_groups.specs.Groups.{quarter1, Joined, HasFirsts, FirstsInQuarter3, HasOrder}
use Rattle.plan_groups.specs.Groups.{join_record, AllJoined, AllRooted, Grouped}
use Rattle.plan_groups.specs.Links.{AllOnce, HasRoots, RootsInside, Linked, AllLinked}
use Rattle.plan_groups.specs.Links.{Outside}
use Rattle.plan_groups.specs.Order.{order_from, numbers_from, HasCounts, Placed}
use Rattle.plan_groups.proofs.Components.{counts_of}
use Rattle.plan_groups.proofs.Numbering.{plan_is, order_all}
use Rattle.plan_groups.proofs.Lending.{take_kept, quarter_length, back_length, back_quarter}
use Rattle.plan_groups.proofs.Lending.{back_before, back_after}
use Rattle.plan_groups.proofs.Tails.{order_once}

-- what the pass over the counts keeps
pub record Counting (f : List ℕ) (n : ℕ) (work : List ℕ) (sum m : ℕ) (work' : List ℕ) : Type 0 where
  pub few : m ≤ n
  pub small : sum ≤ 1048576
  pub same : length work' ≡ length work
  pub before : (k : ℕ) → k < 3 * n → get_or work' k 0 ≡ get_or work k 0
  pub after : (k : ℕ) → 3 * n + m ≤ k → get_or work' k 0 ≡ get_or work k 0
  pub sums : sum ≡ count_sum f m
  pub firsts : (j : ℕ) → j < m → get_or work' (3 * n + j) 0 ≡ count_sum f j

pub counting_none : (f : List ℕ) (n : ℕ) (w : List ℕ) → Counting f n w 0 0 w
unfolding count_sum
counting_none f n w =
    record {
      few = zero-le;
      small = zero-le;
      same = refl;
      before = λ k h. refl;
      after = λ k h. refl;
      sums = refl;
      firsts = λ j h. absurd (not-suc-le-zero h);
    }

pub counting_more : (f : List ℕ) (n : ℕ) (w : List ℕ) (sum m : ℕ) (w' : List ℕ) (count : ℕ)
    → 4 * n ≤ length w → n ≡ block_count f → Accepted f → m < n
    → count ≡ count_at f (block_start f m) → Counting f n w sum m w'
    → Counting f n w (sum + count) (m + 1) (set w' (3 * n + m) sum)
unfolding count_sum
counting_more f n w sum m w' count room all a h counted c =
    record {
      few = omega arith;
      small = omega (
        arith,
        c.sums,
        instrs_inside f (blocks_of f) a m (omega arith),
        few_instrs f (blocks_of f) a,
      );
      same = length-set w' (3 * n + m) _ ∙ c.same;
      before = λ k l. get_or-set_other w' (3 * n + m) k _ 0 (omega arith) ∙ c.before k l;
      after = λ k l. get_or-set_other w' (3 * n + m) k _ 0 (omega arith) ∙ c.after k (omega arith);
      sums = ap₂ (λ (x y : ℕ). x + y) c.sums counted ∙ sym (rw (add-one m));
      firsts = λ j l.
          elim (ℕ_discrete j m) [
            | yes g ↦ subst
                (λ (k : ℕ). get_or (set w' (3 * n + m) sum) (3 * n + k) 0 ≡ count_sum f k) (sym g)
                (get_or-set_same w' (3 * n + m) sum 0 (omega (arith, c.same)) ∙ c.sums)
            | no g ↦ get_or-set_other w' (3 * n + m) (3 * n + j) _ 0 (omega arith)
                ∙ c.firsts j (omega arith)
          ];
    }

pub counted_all : (f : List ℕ) (n : ℕ) (w : List ℕ) (sum : ℕ) (w' : List ℕ)
    → Counting f n w sum n w' → FirstsInQuarter3 f n w w'
counted_all f n w sum w' c =
    record {
      same = c.same;
      before = c.before;
      after = λ k h. c.after k (omega arith);
      firsts = c.firsts;
    }

-- what the pass over the edges keeps
pub record Edges (f : List ℕ) (n i : ℕ) (work work' : List ℕ) : Type 0 where
  pub few : i ≤ n
  pub same : length work' ≡ length work
  pub before : (k : ℕ) → k < n → get_or work' k 0 ≡ get_or work k 0
  pub after : (k : ℕ) → 2 * n ≤ k → get_or work' k 0 ≡ get_or work k 0
  pub forest : Forest (2 * i) (quarter1 n work')
  pub roots : (q : List ℕ) × SameRoots (2 * i) (quarter1 n work') q
      × (parents (blocks_of f) ≡ join_blocks (blocks_of f) q i (drop i (blocks_of f)))

-- each block its own root, in the quarter that was lent
module _ (f : List ℕ) (n : ℕ) (w p' : List ℕ) (room : 4 * n ≤ length w)
    (own : p' ≡ range (length (quarter1 n w)) 0) where
  own_n : p' ≡ range n 0
  own_n = own ∙ ap (λ (m : ℕ). range m 0) (quarter_length n w room)

  own_long : length p' ≡ n
  own_long = ap length own_n ∙ length_range n 0

  pub own_room : 4 * n ≤ length (put_mid n (2 * n - n) w p')
  own_room = omega (arith, back_length n w p' room own_long)

  pub own_length : length (put_mid n (2 * n - n) w p') ≡ length w
  own_length = back_length n w p' room own_long

  pub own_firsts : HasFirsts f n w → HasFirsts f n (put_mid n (2 * n - n) w p')
  own_firsts h k l = back_after n w p' room own_long (3 * n + k) (omega arith) ∙ h k l

  pub own_order : HasOrder f n w → HasOrder f n (put_mid n (2 * n - n) w p')
  own_order h =
      take_kept n w (put_mid n (2 * n - n) w p') own_length (omega arith)
      (back_before n w p' room own_long) ∙ h

  pub edges_none : Accepted f → n ≡ block_count f
      → Edges f n 0 (put_mid n (2 * n - n) w p') (put_mid n (2 * n - n) w p')
  unfolding parents
  edges_none a all =
      let quarter-is : quarter1 n (put_mid n (2 * n - n) w p') ≡ range n 0 =
      back_quarter n w p' room own_long ∙ own_n in
      record {
        few = zero-le;
        same = refl;
        before = λ k h. refl;
        after = λ k h. refl;
        forest = subst (Forest 0) (sym quarter-is) (forest_range n);
        roots = (
          range n 0,
          subst (λ (p : List ℕ). SameRoots 0 p (range n 0)) (sym quarter-is)
              (same_self (forest_range n)),
          ap (λ (m : ℕ). join_blocks (blocks_of f) (range m 0) 0 (blocks_of f))
              (length_of_lem f (blocks_of f) a ∙ sym all),
        );
      }

  -- all edges, from the numbers before the quarter was lent
  pub edges_from : (w' : List ℕ) → AllJoined f n (put_mid n (2 * n - n) w p') w' → AllJoined f n w w'
  edges_from w' e =
      record {
        same = e.same ∙ own_length;
        before = λ k h. e.before k h ∙ back_before n w p' room own_long k h;
        after = λ k h. e.after k h ∙ back_after n w p' room own_long k h;
        forest = e.forest;
        roots = e.roots;
      }

-- what a block's edges ask for
module _ (f : List ℕ) (n i : ℕ) (w w' : List ℕ) (room : 4 * n ≤ length w) (e : Edges f n i w w')
  where
    pub edges_room : 4 * n ≤ length w'
    edges_room = omega (arith, e.same)

    pub edges-order : HasOrder f n w → HasOrder f n w'
    edges-order h = take_kept n w w' e.same (omega arith) e.before ∙ h

    pub edges-firsts : HasFirsts f n w → HasFirsts f n w'
    edges-firsts h k l = e.after (3 * n + k) (omega arith) ∙ h k l

-- the edges of one block more
next_block : (f : List ℕ) → Accepted f → (i : ℕ) → i < block_count f → (q : List ℕ)
    → join_blocks (blocks_of f) q i (drop i (blocks_of f))
    ≡ join_blocks (blocks_of f) (join_record f i q) (i + 1) (drop (i + 1) (blocks_of f))
unfolding join_blocks
next_block f a i h q =
    ap (join_blocks (blocks_of f) q i)
    (drop-cons (blocks_of f) i nowhere (omega (arith, length_of_lem f (blocks_of f) a))
    ∙ ap (λ (b : Block). b ∷ drop (suc i) (blocks_of f)) (nth_block f i nowhere h))
    ∙ rw (add-one i)

pub edges_more : (f : List ℕ) (n i : ℕ) (w w' w'' : List ℕ) → Accepted f → i < n
    → n ≡ block_count f → Edges f n i w w' → Joined 2 n w' w'' (join_record f i)
    → Edges f n (i + 1) w w''
edges_more f n i w w' w'' a h all e j =
    let twice : 2 * i + 2 ≡ 2 * (i + 1) = omega arith in
    let t = e.roots in
    record {
      few = omega arith;
      same = j.same ∙ e.same;
      before = λ k l. j.before k l ∙ e.before k l;
      after = λ k l. j.after k l ∙ e.after k l;
      forest = subst (λ (d : ℕ). Forest d (quarter1 n w'')) twice (j.depth (2 * i) e.forest);
      roots = (
        join_record f i t.0,
        subst (λ (d : ℕ). SameRoots d (quarter1 n w'') (join_record f i t.0)) twice
            (j.roots (2 * i) t.0 (omega arith) t.1),
        t.2 ∙ next_block f a i (omega arith) t.0,
      );
    }

pub edges_done : (f : List ℕ) (n i : ℕ) (w w' : List ℕ) → 4 * n ≤ length w → Accepted f
    → n ≡ block_count f → i ≡ n → Edges f n i w w' → AllJoined f n w w'
unfolding join_blocks
edges_done f n i w w' room a all done e =
    record {
      same = e.same;
      before = e.before;
      after = e.after;
      forest = subst (λ (m : ℕ). Forest (2 * m) (quarter1 n w')) done e.forest;
      roots = λ k h.
          e.roots.1.roots k
          (omega (
            arith,
            quarter_length n w'
                (let r : 4 * n ≤ length w' = omega (arith, e.same) in r),
          ))
          ∙ ap (λ (q : List ℕ). root q k) (sym (e.roots.2 ∙ last_block e.roots.0));
    }
  where
    last_block : (q : List ℕ) → join_blocks (blocks_of f) q i (drop i (blocks_of f)) ≡ q
    last_block q =
        ap (join_blocks (blocks_of f) q i)
        (ap (λ (m : ℕ). drop m (blocks_of f)) (done ∙ all ∙ sym (length_of_lem f (blocks_of f) a))
        ∙ drop-length (blocks_of f))

-- the counts of the blocks of an accepted file
has_counts : (f : List ℕ) → Accepted f → HasCounts f (counts_of (blocks_of f))
unfolding nowhere
has_counts f a i h =
    get_or-map (λ (b : Block). length b.instrs) (blocks_of f) i nowhere
    ∙ ap (λ (b : Block). length b.instrs) (nth_block f i nowhere h)
    ∙ sym (record_reads f (blocks_of f) a i h).count
    ∙ (unfold record_at in refl)

-- quarter 0 has the key order: each block once
pub has_once : (f : List ℕ) (n : ℕ) (w : List ℕ) → n ≡ block_count f → HasOrder f n w
    → AllOnce n (take n w)
has_once f n w all h = order_once (block_keys f) (take n w) n (all ∙ sym (length_keys f)) h

-- first instructions leave it there
pub firsts_order : (f : List ℕ) (n : ℕ) (w w₁ : List ℕ) → 4 * n ≤ length w
    → FirstsInQuarter3 f n w w₁ → HasOrder f n w → HasOrder f n w₁
firsts_order f n w w₁ room e h =
    take_kept n w w₁ e.same (omega arith) (λ k l. e.before k (omega arith)) ∙ h

-- the steps of grouping, one after the other
module _ (f : List ℕ) (n limit : ℕ) (w w₁ w₂ w₃ : List ℕ) (accepted : Accepted f)
    (few : n ≤ 65536) (all : n ≡ block_count f) (room : 4 * n ≤ length w) (order : HasOrder f n w)
    (firsts : FirstsInQuarter3 f n w w₁) (joined : AllJoined f n w₁ w₂)
    (rooted : AllRooted n n w₂ w₃) where
  room₁ : 4 * n ≤ length w₁
  room₁ = omega (arith, firsts.same)

  -- the key order is in quarter 0 all the while
  order₃ : HasOrder f n w₃
  order₃ =
      take_kept n w₁ w₃ (rooted.same ∙ joined.same) (omega (arith, room₁))
      (λ k h. rooted.before k h ∙ joined.before k h) ∙ firsts_order f n w w₁ room firsts order

  -- what linking asks for
  pub link_asks : (4 * n ≤ length w₃) × (AllOnce n (take n w₃) × RootsInside n w₃)
  link_asks = (
    omega (arith, room₁, joined.same, rooted.same),
    (has_once f n w₃ all order₃, rooted.small),
  )

  module _ (w₄ : List ℕ) (outside : Outside n w₃ w₄) (links : AllLinked n w₃ w₄) where
    abbrev roots : List ℕ
    roots = drop (2 * n) w₄

    roots_here : HasRoots n (drop (2 * n) w₄) w₃
    roots_here i h =
        sym (outside.middle (2 * n + i) (omega arith) (omega arith))
        ∙ sym (get_or-drop (2 * n) w₄ i 0)

    order_kept : take n w₄ ≡ take n w₃
    order_kept = take_kept n w₃ w₄ outside.same (omega (arith, link_asks.0)) outside.before

    room₄ : 4 * n ≤ length w₄
    room₄ = omega (arith, link_asks.0, outside.same)

    once₄ : AllOnce n (take n w₄)
    once₄ = has_once f n w₄ all (order_kept ∙ order₃)

    -- what placing asks for
    pub place_asks : (((4 * n ≤ length w₄) × (n ≤ 65536) × (n ≡ block_count f)) × Accepted f)
        × (AllOnce n (take n w₄) × Linked (drop (2 * n) w₄) n (take n w₄) w₄)
    place_asks = (
      ((room₄, few, all), accepted),
      (
        once₄,
        subst (λ (is : List ℕ). Linked (drop (2 * n) w₄) n is w₄) (sym order_kept)
            (links (drop (2 * n) w₄) roots_here),
      ),
    )

    root_at : (j : ℕ) → j < n → get_or roots j 0 ≡ root (quarter1 n w₂) j
    root_at j h = sym (roots_here j h) ∙ rooted.here j h

    root_small : (j : ℕ) → j < n → get_or roots j 0 < n
    root_small j h = subst (λ (m : ℕ). m < n) (roots_here j h) (rooted.small j h)

    pub grouped : (w₅ : List ℕ) → Placed f n limit w₄ w₅ → Grouped f n limit w w₅
    grouped w₅ placed =
        record {
          same = placed.same ∙ outside.same ∙ rooted.same ∙ joined.same ∙ firsts.same;
          after = λ k h. placed.after k h ∙ outside.after k h ∙ rooted.after k (omega arith)
              ∙ joined.after k (omega arith) ∙ firsts.after k h;
          rows =
              ap₂ interleave (placed.numbers long (counts_of (blocks_of f)) (has_counts f accepted))
              (placed.order long)
              ∙ rw (order_kept ∙ order₃) (sym (rw size at is));
        }
      where
        long : length (order_from (drop (2 * n) w₄) (take n w₄) n 0) ≡ n
        long =
            order_all (drop (2 * n) w₄) (take n w₄) n (λ j m. root_small j (once₄.inside j m))
            ∙ once₄.long

        size : length (blocks_of f) ≡ n
        size = length_of_lem f (blocks_of f) accepted ∙ sym all

        is : plan limit (blocks_of f)
            ≡ interleave
            (numbers_from limit (counts_of (blocks_of f)) (drop (2 * n) w₄)
            (key_order (block_keys f)) 0 (length (blocks_of f)) 0)
            (order_from (drop (2 * n) w₄) (key_order (block_keys f)) (length (blocks_of f)) 0)
        is =
            plan_is limit (blocks_of f) (drop (2 * n) w₄)
            (λ j h. let small : j < n = omega (arith, size) in
            root_at j small ∙ joined.roots j small)

-- the blocks were put in order
pub has_order : (f : List ℕ) (n : ℕ) (w w₁ : List ℕ) → n ≡ block_count f
    → InKeyOrder (block_keys f) (block_count f) w w₁ → HasOrder f n w₁
has_order f n w w₁ all e = rw all e.order

-- from the numbers before that
pub grouped_from : (f : List ℕ) (n limit : ℕ) (w w₁ w₂ : List ℕ) → n ≡ block_count f
    → InKeyOrder (block_keys f) (block_count f) w w₁ → Grouped f n limit w₁ w₂
    → Grouped f n limit w w₂
grouped_from f n limit w w₁ w₂ all e g =
    record {
      same = g.same ∙ e.same;
      after = λ k h. g.after k h ∙ e.after k (omega arith);
      rows = g.rows;
    }
