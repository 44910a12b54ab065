-- What every list of units has: each opens with PREAMBLE and a newline, those handed on are long
-- enough, and the last is the one with the table.
use Prim.Native.Nat.{ℕ, suc, ◌+◌, ◌≤◌}
use mathlib.Core.Path.{◌≡◌, refl, sym, ap, ◌∙◌, subst}
use mathlib.Core.Bool.{Bool, true, false, cond}
use mathlib.Core.List.Memᴰ
use mathlib.Core.List.{List, [], ◌∷◌, ◌++◌, map, append_assoc, Memᴰ}
use mathlib.Core.List.{flatten}
use native.Mathlib.Omega.{arith}
use borrow.Author.Tests.{leb-true}
use lib.Dec.{leb}
use lib.ListN.{length, get_or, length-append}
use Rattle.file_blocks.specs.Parse.{Block}
use Rattle.plan_groups.proofs.PlanLength.{groups_length}
use Rattle.plan_groups.specs.Plan.{groups}
use Rattle.c_tree.specs.Stmt.{Top}
use Rattle.lower_forms.specs.Forms.{Body}
use Rattle.lower_units.specs.Units.{TranslationUnit, emit_group, unit_head, last_unit_end, text_of}
use Rattle.lower_units.specs.Units.{cut, default_body, bodies_of, emit_c_chunked, units_by}

-- how many blocks some groups have
abbrev pub blocks_in : {A : Type 0} → List (List A) → ℕ
blocks_in [] = 0
blocks_in (g ∷ gs) = length g + blocks_in gs

-- some units up to the last: those handed on, and the last; n blocks in all
pub record Ends (max : ℕ) (closed : List Top) (n : ℕ) (us : List TranslationUnit) : Type 0 where
  pub handed : List TranslationUnit
  pub final : TranslationUnit
  pub are : us ≡ handed ++ (final ∷ [])
  pub go_on : (u : TranslationUnit) → Memᴰ u handed
      → (u.last ≡ false) × (max ≤ length (text_of u.tree))
  pub ended : final.last ≡ true
  pub done : final.done ≡ n
  pub front : List Top
  pub table : final.tree ≡ front ++ closed

one_more : (max : ℕ) (closed : List Top) (n : ℕ) (u : TranslationUnit) (us : List TranslationUnit)
    → (u.last ≡ false) × (max ≤ length (text_of u.tree))
    → Ends max closed n us → Ends max closed n (u ∷ us)
one_more max closed n u us h e =
    record {
      handed = u ∷ e.handed;
      final = e.final;
      are = ap (λ (l : List TranslationUnit). u ∷ l) e.are;
      go_on = each;
      ended = e.ended;
      done = e.done;
      front = e.front;
      table = e.table;
    }
  where
    each : (v : TranslationUnit) → Memᴰ v (u ∷ e.handed)
        → (v.last ≡ false) × (max ≤ length (text_of v.tree))
    each v (Memᴰ.head p) =
        subst (λ x. (x.last ≡ false) × (max ≤ length (text_of x.tree))) (sym p) h
    each v (Memᴰ.tail m) = e.go_on v m

module _ (max : ℕ) (closed : List Top) where
  cut_ends : (gs : List (List Body)) (ts : List Top) (n : ℕ)
      → Ends max closed (n + blocks_in gs) (cut max closed ts n gs)
  unfolding cut
  cut_ends [] ts n =
      record {
        handed = [];
        final = _;
        are = refl;
        go_on = λ u m. absurd (Memᴰ.not-nil m);
        ended = refl;
        done = omega arith;
        front = ts;
        table = refl;
      }
  cut_ends (g ∷ gs) ts n =
      let same : n + length g + blocks_in gs ≡ n + (length g + blocks_in gs) = omega arith in
      subst (λ (m : ℕ). Ends max closed m (cut max closed ts n (g ∷ gs))) same
      (go (leb max (length (text_of (ts ++ emit_group g)))) (leb-true _ _)
      (cut max closed unit_head (n + length g) gs)
      (cut max closed (ts ++ emit_group g) (n + length g) gs)
      (cut_ends gs unit_head (n + length g)) (cut_ends gs (ts ++ emit_group g) (n + length g)))
    where
      go : (x : Bool) → (x ≡ true → max ≤ length (text_of (ts ++ emit_group g)))
          → (us vs : List TranslationUnit)
          → Ends max closed (n + length g + blocks_in gs) us
          → Ends max closed (n + length g + blocks_in gs) vs
          → Ends max closed (n + length g + blocks_in gs)
          (cond x (record { tree = ts ++ emit_group g; done = n + length g; last = false } ∷ us)
          vs)
      go true f us vs p q = one_more max closed _ _ us (refl, f refl) p
      go false f us vs p q = q

  -- a unit that is reached with PREAMBLE in front keeps it
  abbrev Opens : TranslationUnit → Type 0
  Opens u = (r : List Top) × (u.tree ≡ unit_head ++ r)

  grown : (ts more r : List Top) → ts ≡ unit_head ++ r → ts ++ more ≡ unit_head ++ (r ++ more)
  grown ts more r e = ap (λ (l : List Top). l ++ more) e ∙ append_assoc unit_head r more

  cut_opens : (gs : List (List Body)) (ts : List Top) (n : ℕ) (r : List Top) → ts ≡ unit_head ++ r
      → (u : TranslationUnit) → Memᴰ u (cut max closed ts n gs) → Opens u
  unfolding cut
  cut_opens [] ts n r e u (Memᴰ.head p) =
      subst Opens (sym p) (r ++ closed, grown ts closed r e)
  cut_opens [] ts n r e u (Memᴰ.tail m) = absurd (Memᴰ.not-nil m)
  cut_opens (g ∷ gs) ts n r e u m =
      go (leb max (length (text_of (ts ++ emit_group g)))) (cut max closed unit_head (n + length g) gs)
      (cut max closed (ts ++ emit_group g) (n + length g) gs)
      (cut_opens gs unit_head (n + length g) [] refl u)
      (cut_opens gs (ts ++ emit_group g) (n + length g) (r ++ emit_group g)
      (grown ts (emit_group g) r e) u) m
    where
      first : (us : List TranslationUnit) → (Memᴰ u us → Opens u)
          → Memᴰ u
          (record { tree = ts ++ emit_group g; done = n + length g; last = false } ∷ us)
          → Opens u
      first us f (Memᴰ.head p) =
          subst Opens (sym p) (r ++ emit_group g, grown ts (emit_group g) r e)
      first us f (Memᴰ.tail k) = f k

      go : (x : Bool) (us vs : List TranslationUnit) → (Memᴰ u us → Opens u)
          → (Memᴰ u vs → Opens u)
          → Memᴰ u
          (cond x (record { tree = ts ++ emit_group g; done = n + length g; last = false } ∷ us)
          vs) → Opens u
      go true us vs f h k = first us f k
      go false us vs f h k = h k

length_map : {A B : Type 0} (f : A → B) (xs : List A) → length (map f xs) ≡ length xs
length_map f [] = refl
length_map f (x ∷ xs) = ap suc (length_map f xs)

blocks_of_lem : (bs : List Body) (gs : List (List ℕ)) → blocks_in (map (bodies_of bs) gs) ≡ blocks_in gs
unfolding bodies_of
blocks_of_lem bs [] = refl
blocks_of_lem bs (g ∷ gs) =
    omega (arith, length_map (λ (i : ℕ). get_or bs i default_body) g, blocks_of_lem bs gs)

-- every unit but the last is long enough and not the last; the last has the table, and all blocks
-- are done with it
pub units_end : (max : ℕ) (bs : List Body) (gs : List (List ℕ))
    → Ends max (last_unit_end bs) (blocks_in gs) (emit_c_chunked max bs gs)
unfolding emit_c_chunked
units_end max bs gs =
    let same : 0 + blocks_in (map (bodies_of bs) gs) ≡ blocks_in gs = omega (arith, blocks_of_lem bs gs) in
    subst (λ (n : ℕ). Ends max (last_unit_end bs) n (emit_c_chunked max bs gs)) same
    (cut_ends max (last_unit_end bs) (map (bodies_of bs) gs) unit_head 0)

-- every unit opens with PREAMBLE and a newline
pub unit_opens : (max : ℕ) (bs : List Body) (gs : List (List ℕ)) (u : TranslationUnit)
    → Memᴰ u (emit_c_chunked max bs gs) → (r : List Top) × (u.tree ≡ unit_head ++ r)
unfolding emit_c_chunked
unit_opens max bs gs u m =
    cut_opens max (last_unit_end bs) (map (bodies_of bs) gs) unit_head 0 [] refl u m

blocks_flat : (gs : List (List ℕ)) → blocks_in gs ≡ length (flatten gs)
unfolding flatten
blocks_flat [] = refl
blocks_flat (g ∷ gs) = omega (arith, length-append g (flatten gs), blocks_flat gs)

-- with the last unit of a file's blocks all of them are done
pub file_ends : (body_of : Block → Body) (limit max : ℕ) (bs : List Block)
    → Ends max (last_unit_end (map body_of bs)) (length bs) (units_by body_of limit max bs)
unfolding units_by
file_ends body_of limit max bs =
    subst (λ (n : ℕ). Ends max (last_unit_end (map body_of bs)) n
    (emit_c_chunked max (map body_of bs) (groups limit bs)))
    (blocks_flat (groups limit bs) ∙ groups_length bs limit)
    (units_end max (map body_of bs) (groups limit bs))
