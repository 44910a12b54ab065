-- Which operations are unconditional native exits.
-- Assumes nothing.
use Prim.Native.Nat.{ℕ}
use mathlib.Core.Path.{◌≡◌, sym, ◌∙◌}
use mathlib.Core.Bool.{Bool, true, false, not, ◌&&◌, and-false, and-true, or-false}
use mathlib.Core.List.{[], ◌∷◌}
use lib.Dec.{eqb}
use borrow.Author.Tests.{eq-eqb, ne_eqb}
use denote.Enum.Declared.{tag_of}
use types.Run.{OneOf}
use Rattle.armv4t.proofs.Arms.{arm, others}
use Rattle.armv4t.specs.contracts.Op.{enum, the_type}
use Rattle.armv4t.specs.declared.Cond.{Cond}
use Rattle.armv4t.specs.declared.Op.{Op}
use Rattle.armv4t.specs.declared.Op.TheVariants.{Bx, Branch, BlockMem}
use Rattle.armv4t.specs.Cond.{is_al}
use Rattle.lower_reasons.specs.Reasons.{ListFields, fields_of, pops_pc, is_indirect_exit}
use Rattle.lower_reasons.specs.Said.{drops_rest_by}

module _ (region : ℕ) (c : Cond) where
  pub leaves_not : (op : Op) → is_al c ≡ false → false ≡ drops_rest_by region c op
  unfolding drops_rest_by
  leaves_not op h = rw (h, and-false (is_indirect_exit (fields_of op)))

  pub leaves_branch : (link : Bool) (target : ℕ) → is_al c ≡ true
      → true ≡ drops_rest_by region c (Branch link target)
  unfolding drops_rest_by
  leaves_branch link target h = rw h

  pub leaves_bx : (rm : ℕ) → is_al c ≡ true → not (eqb region 0) ≡ drops_rest_by region c (Bx rm)
  unfolding drops_rest_by
  leaves_bx rm h = rw (h, or-false (not (eqb region 0)))

  module _ (load : Bool) (rn rlist : ℕ) (pre up s writeback : Bool) (h : is_al c ≡ true) where
    abbrev t : ListFields
    t =
        record {
          load = load;
          rn = rn;
          rlist = rlist;
          pre = pre;
          up = up;
          s_bit = s;
          writeback = writeback;
        }

    pub leaves_bios : region ≡ 0
        → false ≡ drops_rest_by region c (BlockMem load rn rlist pre up s writeback)
    unfolding drops_rest_by
    leaves_bios e = rw (h, eq-eqb region 0 e, and-false (pops_pc t))

    pub leaves_pop : (region ≡ 0 → ⊥)
        → pops_pc t ≡ drops_rest_by region c (BlockMem load rn rlist pre up s writeback)
    unfolding drops_rest_by
    leaves_pop e = rw (h, ne_eqb region 0 e, and-true (pops_pc t), or-false (pops_pc t))

  pub leaves_other : (op : Op) → OneOf (others 15 (4 ∷ 5 ∷ 9 ∷ [])) (tag_of the_type op)
      → false ≡ drops_rest_by region c op
  unfolding drops_rest_by
  leaves_other op o =
      sym (and-false (is_al c))
      ∙ sym (arm enum (λ (x : Op). drops_rest_by region c x ≡ (is_al c && false))
      (others 15 (4 ∷ 5 ∷ 9 ∷ [])) op o (search depth 16))
