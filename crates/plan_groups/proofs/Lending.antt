-- The parents, quarter 1 of the work numbers, lent and given back.
-- Assumes nothing.
use mathlib.Core.Path.{◌≡◌, refl, sym, ap, ◌∙◌, subst}
use mathlib.Core.List.{List, ◌++◌}
use Prim.Native.Nat.{ℕ, ◌+◌, ◌*◌, ◌-◌, ◌≤◌, ◌<◌}
use native.Mathlib.Omega.{arith}
use native.Mathlib.Nat.{not-suc-le-zero}
use native.Mathlib.Decide.{ℕ_discrete}
use borrow.Rule.Slice.PartMut.{put_mid, post_of, same_len_mid, mid_len, take_put, drop_put}
use lib.ListN.{length, get_or, set, take, drop, length-set}
use lib.Seq.{take_at, drop_at, length-take-le, get_or-take, get_or-drop, get_or-set_same, get_or-set_other}
use lib.Seq.{take-set-le, drop-set-add, ext_get_or}
use Rattle.base_forest.specs.Forest.{Forest, Flatter, RootFound}
use Rattle.base_forest.specs.Roots.{root}
use Rattle.plan_groups.specs.Groups.{quarter1, Rooted, AllRooted}
use Rattle.base_forest.proofs.Roots.{flatter_trans}

-- a front whose numbers did not change is the same list
pub take_kept : (n : ℕ) (w w' : List ℕ) → length w' ≡ length w → n ≤ length w
    → ((k : ℕ) → k < n → get_or w' k 0 ≡ get_or w k 0) → take n w' ≡ take n w
take_kept n w w' same room kept =
    let long : length (take n w) ≡ n = length-take-le n w room in
    let long' : length (take n w') ≡ n = length-take-le n w' (omega arith) in
    ext_get_or 0 (take n w') (take n w) (long' ∙ sym long)
    (λ k h.
    let inside : k < n = omega arith in
    get_or-take n w' k 0 inside ∙ kept k inside ∙ sym (get_or-take n w k 0 inside))

twice : (n : ℕ) → 2 * n - n ≡ n
twice n = omega arith

-- the quarter that is lent is quarter 1
pub lent_is : (n : ℕ) (w : List ℕ) → take (2 * n - n) (drop n w) ≡ quarter1 n w
lent_is n w = ap (λ (k : ℕ). take k (drop n w)) (twice n)

pub quarter_length : (n : ℕ) (w : List ℕ) → 4 * n ≤ length w → length (quarter1 n w) ≡ n
quarter_length n w room =
    ap length (sym (lent_is n w)) ∙ mid_len n (2 * n) w (omega arith) ∙ twice n

module _ (n : ℕ) (w ys : List ℕ) (room : 4 * n ≤ length w) (long : length ys ≡ n) where
  abbrev back : List ℕ
  back = put_mid n (2 * n - n) w ys

  pub back_length : length back ≡ length w
  back_length =
      same_len_mid n (2 * n - n) w ys
      (long ∙ sym (twice n) ∙ sym (mid_len n (2 * n) w (omega arith)))

  -- quarter 1 is what came back
  pub back_quarter : quarter1 n back ≡ ys
  back_quarter =
      ap (take n)
      (drop_at (take n w) (ys ++ post_of n (2 * n - n) w) n (length-take-le n w (omega arith)))
      ∙ take_at ys (post_of n (2 * n - n) w) n long

  pub back_after : (k : ℕ) → 2 * n ≤ k → get_or back k 0 ≡ get_or w k 0
  back_after k h =
      let split : 2 * n + (k - 2 * n) ≡ k = omega arith in
      ap (λ (m : ℕ). get_or back m 0) (sym split)
      ∙ sym (get_or-drop (2 * n) back (k - 2 * n) 0)
      ∙ ap (λ (l : List ℕ). get_or l (k - 2 * n) 0)
      (drop_put n (2 * n) w ys (omega arith) (omega arith) (long ∙ sym (twice n)))
      ∙ get_or-drop (2 * n) w (k - 2 * n) 0
      ∙ ap (λ (m : ℕ). get_or w m 0) split

  pub back_before : (k : ℕ) → k < n → get_or back k 0 ≡ get_or w k 0
  back_before k h =
      sym (get_or-take n back k 0 h)
      ∙ ap (λ (l : List ℕ). get_or l k 0) (take_put n (2 * n - n) w ys (omega arith))
      ∙ get_or-take n w k 0 h

-- a store past quarter 1 leaves it as it is
pub quarter_set : (n : ℕ) (w : List ℕ) (k v : ℕ) → 2 * n ≤ k → quarter1 n (set w k v) ≡ quarter1 n w
quarter_set n w k v h =
    let split : n + (k - n) ≡ k = omega arith in
    ap (λ (m : ℕ). take n (drop n (set w m v))) (sym split)
    ∙ ap (take n) (drop-set-add n w (k - n) v)
    ∙ take-set-le n (drop n w) (k - n) v (omega arith)

-- what finding a root in the lent quarter makes of the work numbers
pub rooted : (n i : ℕ) (w p' : List ℕ) (r : ℕ) → 4 * n ≤ length w → i < n
    → RootFound (quarter1 n w) i r p'
    → Rooted n i w (set (put_mid n (2 * n - n) w p') (2 * n + i) r)
rooted n i w p' r room h e =
    let long : length p' ≡ n = e.kept.lengths ∙ quarter_length n w room in
    let at : get_or (set (put_mid n (2 * n - n) w p') (2 * n + i) r) (2 * n + i) 0
    ≡ r =
    get_or-set_same (put_mid n (2 * n - n) w p') (2 * n + i) r 0
    (omega (arith, back_length n w p' room long)) in
    record {
      same = length-set (put_mid n (2 * n - n) w p') (2 * n + i) r ∙ back_length n w p' room long;
      flatter =
          subst (Flatter (quarter1 n w))
          (sym (quarter_set n (put_mid n (2 * n - n) w p') (2 * n + i) r (omega arith)
          ∙ back_quarter n w p' room long)) e.kept;
      here = at ∙ e.is;
      small = subst (λ (m : ℕ). m < n) (sym at) (subst (λ (m : ℕ). r < m) long e.inside);
      before = λ k l. get_or-set_other (put_mid n (2 * n - n) w p') (2 * n + i) k r 0 (omega arith)
          ∙ back_before n w p' room long k l;
      other = λ k l ne. get_or-set_other (put_mid n (2 * n - n) w p') (2 * n + i) k r 0 ne
          ∙ back_after n w p' room long k l;
    }

flatter_self : (p : List ℕ) → Flatter p p
flatter_self p = record { lengths = refl; roots = λ k h. refl; depth = λ d f. f }

pub rooted_none : (n : ℕ) (w : List ℕ) → AllRooted n 0 w w
rooted_none n w =
    record {
      same = refl;
      flatter = flatter_self (quarter1 n w);
      here = λ j h. absurd (not-suc-le-zero h);
      small = λ j h. absurd (not-suc-le-zero h);
      before = λ k h. refl;
      after = λ k h. refl;
    }

pub rooted_more : (n m : ℕ) (w w₁ w₂ : List ℕ) → 4 * n ≤ length w → m < n → AllRooted n m w w₁
    → Rooted n m w₁ w₂ → AllRooted n (m + 1) w w₂
rooted_more n m w w₁ w₂ room h a e =
    let root_is : root (quarter1 n w₁) m ≡ root (quarter1 n w) m =
    a.flatter.roots m (omega (arith, quarter_length n w room)) in
    record {
      same = e.same ∙ a.same;
      flatter = flatter_trans a.flatter e.flatter;
      here = λ j l.
          elim (ℕ_discrete j m) [
            | yes g ↦ subst (λ (k : ℕ). get_or w₂ (2 * n + k) 0 ≡ root (quarter1 n w) k) (sym g)
                (e.here ∙ root_is)
            | no g ↦ e.other (2 * n + j) (omega arith) (omega arith) ∙ a.here j (omega arith)
          ];
      small = λ j l.
          elim (ℕ_discrete j m) [
            | yes g ↦ subst (λ (k : ℕ). get_or w₂ (2 * n + k) 0 < n) (sym g) e.small
            | no g ↦ subst (λ (k : ℕ). k < n)
                (sym (e.other (2 * n + j) (omega arith) (omega arith))) (a.small j (omega arith))
          ];
      before = λ k l. e.before k l ∙ a.before k l;
      after = λ k l. e.other k (omega arith) (omega arith) ∙ a.after k l;
    }

-- the forest is still one
pub rooted_forest : (n m : ℕ) (w w₁ : List ℕ) → AllRooted n m w w₁ → Forest (2 * n) (quarter1 n w)
    → Forest (2 * n) (quarter1 n w₁)
rooted_forest n m w w₁ a f = a.flatter.depth (2 * n) f
