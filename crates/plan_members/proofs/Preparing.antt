-- The steps of filling the work numbers, one after the other. Assumes nothing.
use Prim.Native.Nat.{ℕ, ◌+◌, ◌*◌, ◌≤◌, ◌<◌}
use mathlib.Core.Path.{◌≡◌, sym, ap₂, ◌∙◌}
use mathlib.Core.List.{List}
use native.Mathlib.Omega.{arith}
use lib.ListN.{length, get_or, take, drop, length-drop}
use lib.Seq.{length-take-le, ext_get_or, get_or-take, get_or-drop}
use Rattle.file_records.specs.Trailer.{block_count}
use Rattle.file_blocks.specs.Parse.{Accepted}
use Rattle.plan_groups.specs.Groups.{Grouped, FirstsInQuarter3}
use Rattle.base_lists.specs.Interleave.{interleave}
use Rattle.plan_members.specs.Prepared.{Prepared}

-- fronts with the same numbers
front_same : (n : ℕ) (v w : List ℕ) → n ≤ length v → length w ≡ length v
    → ((k : ℕ) → k < n → get_or w k 0 ≡ get_or v k 0) → take n w ≡ take n v
front_same n v w room e same =
    let long : length (take n w) ≡ n = length-take-le n w (omega arith) in
    ext_get_or 0 (take n w) (take n v) (long ∙ sym (length-take-le n v room))
    (λ k h. get_or-take n w k 0 (omega arith) ∙ same k (omega arith)
    ∙ sym (get_or-take n v k 0 (omega arith)))

-- quarters with the same numbers
quarter_same : (n at : ℕ) (v w : List ℕ) → at + n ≤ length v → length w ≡ length v
    → ((k : ℕ) → k < n → get_or w (at + k) 0 ≡ get_or v (at + k) 0)
    → take n (drop at w) ≡ take n (drop at v)
quarter_same n at v w room e same =
    front_same n (drop at v) (drop at w) (omega (arith, length-drop at v))
    (omega (arith, length-drop at v, length-drop at w))
    (λ k h. get_or-drop at w k 0 ∙ same k h ∙ sym (get_or-drop at v k 0))

-- the steps one after the other
module _ {f : List ℕ} {n limit : ℕ} {work work₁ work₂ : List ℕ} (ok : Accepted f)
    (all : n ≡ block_count f) (room : 4 * n ≤ length work)
    (grouped : Grouped f n limit work work₁)
    (numbered : FirstsInQuarter3 f n work₁ work₂) where
  same_rows : interleave (take n (drop (2 * n) work₂)) (take n work₂)
      ≡ interleave (take n (drop (2 * n) work₁)) (take n work₁)
  same_rows =
      ap₂ interleave
      (quarter_same n (2 * n) work₁ work₂ (omega (arith, grouped.same)) numbered.same
      (λ k h. numbered.before (2 * n + k) (omega arith)))
      (front_same n work₁ work₂ (omega (arith, grouped.same)) numbered.same
      (λ k h. numbered.before k (omega arith)))

  pub prepared : Prepared f n limit work work₂
  prepared =
      record {
        same = numbered.same ∙ grouped.same;
        after = λ k h. numbered.after k h ∙ grouped.after k h;
        ready =
            record {
              accepted = ok;
              all = all;
              room = omega (arith, numbered.same, grouped.same);
              rows = same_rows ∙ grouped.rows;
              firsts = numbered.firsts;
            };
      }
