-- Each group stands in a unit in one piece, and the units have as many functions of a block as the
-- groups.
use Prim.Native.Nat.{ℕ, suc, ◌+◌}
use mathlib.Core.Path.{◌≡◌, refl, sym, ap, ◌∙◌, subst}
use mathlib.Core.Bool.{Bool, true, false, cond}
use mathlib.Core.List.Memᴰ
use mathlib.Core.List.{List, [], ◌∷◌, ◌++◌, map, flatten, append_assoc, Memᴰ}
use native.Mathlib.Omega.{arith}
use lib.Dec.{leb}
use lib.ListN.{length}
use Rattle.c_tree.specs.Stmt.{extern, Top}
use Rattle.lower_forms.specs.Forms.{Body}
use Rattle.lower_units.specs.Block.{body_key}
use Rattle.lower_units.specs.Units.{TranslationUnit, emit_block, forwarders, emit_group, unit_head}
use Rattle.lower_units.specs.Units.{last_unit_end, text_of, cut}
use Rattle.base_lists.specs.Lists.{count as count_of}
use Rattle.claim_ways.specs.Applies.{function_count}
use Rattle.claim_ways.proofs.Functions.{trees}

-- a tree stands in one piece in some unit
pub record Part (x : List Top) (us : List TranslationUnit) : Type 0 where
  pub unit : TranslationUnit
  pub made : Memᴰ unit us
  pub before : List Top
  pub after : List Top
  pub piece : unit.tree ≡ before ++ (x ++ after)

later : (x : List Top) (u : TranslationUnit) (us : List TranslationUnit) → Part x us
    → Part x (u ∷ us)
later x u us p =
    record {
      unit = p.unit;
      made = Memᴰ.tail p.made;
      before = p.before;
      after = p.after;
      piece = p.piece;
    }

-- what stands after a piece changes nothing of it
longer : (ts x before after more : List Top) → ts ≡ before ++ (x ++ after)
    → ts ++ more ≡ before ++ (x ++ (after ++ more))
longer ts x before after more e =
    ap (λ (l : List Top). l ++ more) e ∙ append_assoc before (x ++ after) more
    ∙ ap (λ (l : List Top). before ++ l) (append_assoc x after more)

module _ (max : ℕ) (closed : List Top) where
  -- a piece of the unit reached stays one
  stays : (x before after : List Top) (gs : List (List Body)) (ts : List Top) (n : ℕ)
      → ts ≡ before ++ (x ++ after) → Part x (cut max closed ts n gs)
  unfolding cut
  stays x before after [] ts n e =
      record {
        unit = _;
        made = Memᴰ.head refl;
        before = before;
        after = after ++ closed;
        piece = longer ts x before after closed e;
      }
  stays x before after (g ∷ gs) ts n e =
      go (leb max (length (text_of (ts ++ emit_group g)))) (cut max closed unit_head (n + length g) gs)
      (cut max closed (ts ++ emit_group g) (n + length g) gs)
      (stays x before (after ++ emit_group g) gs (ts ++ emit_group g) (n + length g)
      (longer ts x before after (emit_group g) e))
    where
      go : (y : Bool) (us vs : List TranslationUnit) → Part x vs
          → Part x
          (cond y (record { tree = ts ++ emit_group g; done = n + length g; last = false } ∷ us) vs)
      go true us vs p =
          record {
            unit = _;
            made = Memᴰ.head refl;
            before = before;
            after = after ++ emit_group g;
            piece = longer ts x before after (emit_group g) e;
          }
      go false us vs p = p

  pub group_part : (g : List Body) (gs : List (List Body)) (ts : List Top) (n : ℕ) → Memᴰ g gs
      → Part (emit_group g) (cut max closed ts n gs)
  unfolding cut
  group_part g [] ts n m = elim m [ ]
  group_part g (h ∷ gs) ts n (Memᴰ.head e) =
      subst (λ x. Part (emit_group x) (cut max closed ts n (h ∷ gs))) (sym e)
      (go (leb max (length (text_of (ts ++ emit_group h))))
      (cut max closed unit_head (n + length h) gs)
      (cut max closed (ts ++ emit_group h) (n + length h) gs)
      (stays (emit_group h) ts [] gs (ts ++ emit_group h) (n + length h)
      (ap (λ (l : List Top). ts ++ l) (sym (append_nil (emit_group h))))))
    where
      append_nil : (l : List Top) → l ++ [] ≡ l
      append_nil [] = refl
      append_nil (t ∷ l) = ap (λ (r : List Top). t ∷ r) (append_nil l)

      go : (y : Bool) (us vs : List TranslationUnit) → Part (emit_group h) vs
          → Part (emit_group h)
          (cond y (record { tree = ts ++ emit_group h; done = n + length h; last = false } ∷ us)
          vs)
      go true us vs p =
          record {
            unit = _;
            made = Memᴰ.head refl;
            before = ts;
            after = [];
            piece = ap (λ (l : List Top). ts ++ l) (sym (append_nil (emit_group h)));
          }
      go false us vs p = p
  group_part g (h ∷ gs) ts n (Memᴰ.tail m) =
      go (leb max (length (text_of (ts ++ emit_group h)))) (cut max closed unit_head (n + length h) gs)
      (cut max closed (ts ++ emit_group h) (n + length h) gs)
      (group_part g gs unit_head (n + length h) m)
      (group_part g gs (ts ++ emit_group h) (n + length h) m)
    where
      go : (y : Bool) (us vs : List TranslationUnit) → Part (emit_group g) us → Part (emit_group g) vs
          → Part (emit_group g)
          (cond y (record { tree = ts ++ emit_group h; done = n + length h; last = false } ∷ us)
          vs)
      go true us vs p q = later (emit_group g) _ us p
      go false us vs p q = q

-- what stands in a unit stands in the units
pub in_trees : (t : Top) (u : TranslationUnit) (us : List TranslationUnit) → Memᴰ u us
    → Memᴰ t u.tree → Memᴰ t (trees us)
unfolding flatten
in_trees t u [] h m = elim h [ ]
in_trees t u (v ∷ us) (Memᴰ.head e) m =
    Memᴰ.append_left (trees us) (subst (λ x. Memᴰ t x.tree) e m)
in_trees t u (v ∷ us) (Memᴰ.tail n) m = Memᴰ.append_right v.tree (in_trees t u us n m)

-- and so does what stands in a piece of it
pub in_part : (t : Top) (x : List Top) (us : List TranslationUnit) → Part x us → Memᴰ t x
    → Memᴰ t (trees us)
in_part t x us p m =
    in_trees t p.unit us p.made
    (subst (λ l. Memᴰ t l) (sym p.piece)
    (Memᴰ.append_right p.before (Memᴰ.append_left p.after m)))

module _ (k : ℕ) where
  functions_append : (s t : List Top)
      → function_count k (s ++ t) ≡ function_count k s + function_count k t
  functions_append [] t = omega arith
  functions_append (x ∷ s) t = omega (arith, functions_append s t)

  -- the functions of some groups
  abbrev pub in_groups : List (List Body) → ℕ
  in_groups [] = 0
  in_groups (g ∷ gs) = function_count k (emit_group g) + in_groups gs

  no_extern : (bs : List Body) → function_count k (map (λ (b : Body). extern (body_key b)) bs) ≡ 0
  no_extern [] = refl
  no_extern (b ∷ bs) = omega (arith, no_extern bs)

  pub no_end : (bs : List Body) → function_count k (last_unit_end bs) ≡ 0
  unfolding last_unit_end
  no_end bs =
      functions_append (map (λ (b : Body). extern (body_key b)) bs) _ ∙ omega (arith, no_extern bs)

  -- the units have those of the groups and no other
  pub functions_cut : (max : ℕ) (closed : List Top) → function_count k closed ≡ 0
      → (gs : List (List Body)) (ts : List Top) (n : ℕ)
      → function_count k (trees (cut max closed ts n gs)) ≡ function_count k ts + in_groups gs
  unfolding cut flatten
  functions_cut max closed z [] ts n =
      functions_append (ts ++ closed) [] ∙ omega (arith, functions_append ts closed)
  functions_cut max closed z (g ∷ gs) ts n =
      go (leb max (length (text_of (ts ++ emit_group g)))) (cut max closed unit_head (n + length g) gs)
      (cut max closed (ts ++ emit_group g) (n + length g) gs)
      (functions_cut max closed z gs unit_head (n + length g))
      (functions_cut max closed z gs (ts ++ emit_group g) (n + length g))
    where
      go : (y : Bool) (us vs : List TranslationUnit)
          → function_count k (trees us) ≡ function_count k unit_head + in_groups gs
          → function_count k (trees vs) ≡ function_count k (ts ++ emit_group g) + in_groups gs
          → function_count k
          (trees (cond y
          (record { tree = ts ++ emit_group g; done = n + length g; last = false } ∷ us) vs))
          ≡ function_count k ts + (function_count k (emit_group g) + in_groups gs)
      go true us vs p q = functions_append (ts ++ emit_group g) (trees us)
          ∙ omega (arith, functions_append ts (emit_group g), p)
      go false us vs p q = omega (arith, functions_append ts (emit_group g), q)

  forwarders_count : (a n : ℕ) (bs : List Body)
      → function_count k (forwarders a n bs) ≡ count_of k (map body_key bs)
  unfolding forwarders count_of
  forwarders_count a n [] = refl
  forwarders_count a n (b ∷ bs) = omega (arith, forwarders_count a (suc n) bs)

  -- a group has one for each member
  pub group_count : (g : List Body) → function_count k (emit_group g) ≡ count_of k (map body_key g)
  unfolding emit_group emit_block count_of
  group_count [] = refl
  group_count (b ∷ []) = omega arith
  group_count (b ∷ c ∷ g) = omega (arith, forwarders_count (body_key b) 0 (b ∷ c ∷ g))
