-- What the walk over a block's records reads, and what it says of the instructions.
-- Assumes nothing.
use Rattle.std.proofs.Common.{Some, None, is_some}
use Prim.Native.Nat.{ℕ, zero, suc, ◌+◌, ◌-◌, ◌≤◌, ◌<◌}
use mathlib.Core.Path.{◌≡◌, refl, sym, ap, ◌∙◌}
use mathlib.Core.Bool.{Bool, true, false, not, cond, ◌&&◌, ◌||◌}
use mathlib.Core.List.{List, [], ◌∷◌}
use mathlib.Core.Option.{Option, none}
use native.Mathlib.Omega.{arith}
use lib.ListN.{drop, get_or}
use Rattle.armv4t.specs.declared.Instr.{Instr}
use Rattle.armv4t.specs.Fused.{Fused, fuse}
use Rattle.file_instrs.specs.declared.decode.TimedInstr.{TimedInstr}
use Rattle.file_blocks.specs.declared.read.BlockRecord.{BlockRecord}
use Rattle.file_blocks.specs.Address.{region, outside_rom_bios}
use Rattle.file_blocks.specs.Read.{instrs_of, fused_next, next_of}
use Rattle.lower_reasons.specs.Said.{Said, is_pair, pairs, drops_rest, said_of, nothing_of, said_each}
use Rattle.emit_reasons.specs.Steps.{reached, said_first, said_in_record}

-- whether an instruction makes a pair with the one after it
pub pairs_next : (x : Instr) (ys : List TimedInstr) → pairs x ys ≡ is_some (next_of x ys)
pairs_next x [] = refl
pairs_next x (y ∷ ys) = by (fuse x y.instr)
  where
    by : (f : Fused) → is_pair f ≡ is_some (fused_next f y.cost)
    by None = refl
    by (Some (target, ret)) = refl

-- nothing of each, from an index on
drop_nothing : (n : ℕ) (xs : List TimedInstr) → drop n (nothing_of xs) ≡ nothing_of (drop n xs)
drop_nothing zero xs = refl
drop_nothing (suc n) [] = refl
drop_nothing (suc n) (x ∷ xs) = drop_nothing n xs

-- what is said of instructions from an index on: nothing where a walk does not come to it
pub said_from : (area : ℕ) (xs : List TimedInstr) (n : ℕ)
    → drop n (said_each area xs)
    ≡ cond (reached area xs n) (said_each area (drop n xs)) (nothing_of (drop n xs))
unfolding said_each reached
said_from area xs zero = refl
said_from area [] (suc n) = refl
said_from area (x ∷ xs) (suc n) =
    by (pairs x.instr xs) (drops_rest area x.instr) (said_from area xs n)
  where
    by : (p d : Bool)
        → drop n (said_each area xs)
        ≡ cond (reached area xs n) (said_each area (drop n xs)) (nothing_of (drop n xs))
        → drop (suc n)
        (cond p (nothing_of (x ∷ xs))
        (said_of area x.instr ∷ cond d (nothing_of xs) (said_each area xs)))
        ≡ cond (not (p || d) && reached area xs n) (said_each area (drop n xs))
        (nothing_of (drop n xs))
    by true d e = drop_nothing n xs
    by false true e = drop_nothing n xs
    by false false e = e

-- the first of what is said
pub said_first_lem : (area : ℕ) (xs : List TimedInstr)
    → get_or (said_each area xs) 0 none ≡ said_first area xs
unfolding said_each said_first
said_first_lem area [] = refl
said_first_lem area (x ∷ xs) = by (pairs x.instr xs)
  where
    by : (p : Bool)
        → get_or (cond p (nothing_of (x ∷ xs))
        (said_of area x.instr ∷ cond (drops_rest area x.instr) (nothing_of xs)
        (said_each area xs)))
        0 none
        ≡ cond p none (said_of area x.instr)
    by true = refl
    by false = refl

-- the first, as it was read
module _ (area : ℕ) (x : TimedInstr) (ys xs : List TimedInstr) (here : xs ≡ x ∷ ys) where
  pub first_pair : pairs x.instr ys ≡ true → none ≡ said_first area xs
  unfolding said_first
  first_pair p =
      sym
      (ap (said_first area) here
      ∙ ap (λ (t : Bool). cond t none (said_of area x.instr)) p)

  pub first_alone : pairs x.instr ys ≡ false → said_of area x.instr ≡ said_first area xs
  unfolding said_first
  first_alone p =
      sym
      (ap (said_first area) here
      ∙ ap (λ (t : Bool). cond t none (said_of area x.instr)) p)

-- a walk that has come to index j of instructions on its way to index n: whether it comes there is
-- decided over the rest
pub record Coming (area : ℕ) (xs : List TimedInstr) (n j : ℕ) : Type 0 where
  pub same : reached area xs n ≡ reached area (drop j xs) (n - j)

pub coming_none : (area : ℕ) (xs : List TimedInstr) (n : ℕ) → Coming area xs n 0
coming_none area xs n =
    record { same = ap (reached area xs) (let e : n ≡ n - 0 = omega arith in e) }

module _ {area : ℕ} {xs : List TimedInstr} {n j : ℕ} (come : Coming area xs n j) where
  module _ (x : TimedInstr) (here : drop j xs ≡ x ∷ drop (suc j) xs) (more : j < n) where
    step : reached area xs n
        ≡ (not (pairs x.instr (drop (suc j) xs) || drops_rest area x.instr)
        && reached area (drop (suc j) xs) (n - suc j))
    unfolding reached
    step =
        come.same
        ∙ ap (λ (l : List TimedInstr). reached area l (n - j)) here
        ∙ ap (reached area (x ∷ drop (suc j) xs))
        (let e : n - j ≡ suc (n - suc j) = omega arith in e)

    -- it ends there
    pub coming_ends : (pairs x.instr (drop (suc j) xs) || drops_rest area x.instr) ≡ true
        → false ≡ reached area xs n
    coming_ends t = sym (step ∙ rw t)

    -- it goes on
    pub coming_on : (pairs x.instr (drop (suc j) xs) || drops_rest area x.instr) ≡ false
        → Coming area xs n (j + 1)
    coming_on t =
        record {
          same =
              step
              ∙ rw t
              (ap (λ (k : ℕ). reached area (drop k xs) (n - k))
              (let e : suc j ≡ j + 1 = omega arith in e));
        }

  -- it is there
  pub coming_there : n ≤ j → true ≡ reached area xs n
  unfolding reached
  coming_there h =
      sym
      (come.same ∙ ap (reached area (drop j xs)) (let e : n - j ≡ 0 = omega arith in e))

-- what is said of a block's instructions from an index on, by its record
module _ (f : List ℕ) (r : BlockRecord) (first n : ℕ) where
  abbrev xs : List TimedInstr
  xs = instrs_of f r first

  abbrev coded : Bool
  coded = not (outside_rom_bios r.addr) || r.present

  -- without their code, nothing
  pub from_absent : coded ≡ false → drop n (said_in_record f r first) ≡ nothing_of (drop n xs)
  unfolding said_in_record
  from_absent h =
      ap (λ (t : Bool). drop n (cond t (said_each (region r.addr) xs) (nothing_of xs))) h
      ∙ drop_nothing n xs

  module _ (h : coded ≡ true) {area : ℕ} (e : area ≡ region r.addr) where
    from_coded : (t : Bool) → reached area xs n ≡ t
        → drop n (said_in_record f r first)
        ≡ cond t (said_each area (drop n xs)) (nothing_of (drop n xs))
    unfolding said_in_record
    from_coded t g =
        ap (λ (b : Bool). drop n (cond b (said_each (region r.addr) xs) (nothing_of xs))) h
        ∙ ap (λ (k : ℕ). drop n (said_each k xs)) (sym e)
        ∙ said_from area xs n
        ∙ ap (λ (b : Bool). cond b (said_each area (drop n xs)) (nothing_of (drop n xs))) g

    -- where the walk does not come there, nothing
    pub from_unreached : reached area xs n ≡ false
        → drop n (said_in_record f r first) ≡ nothing_of (drop n xs)
    from_unreached g = from_coded false g

    -- else what is said of those from there on
    pub from_reached : reached area xs n ≡ true
        → drop n (said_in_record f r first) ≡ said_each area (drop n xs)
    from_reached g = from_coded true g

-- one of a list is the first from its place on
get_drop : {A : Type 0} (ys : List A) (n : ℕ) (d : A) → get_or ys n d ≡ get_or (drop n ys) 0 d
get_drop [] zero d = refl
get_drop [] (suc n) d = refl
get_drop (y ∷ ys) zero d = refl
get_drop (y ∷ ys) (suc n) d = get_drop ys n d

nothing_first : (ys : List TimedInstr) → get_or (nothing_of ys) 0 none ≡ none
nothing_first [] = refl
nothing_first (y ∷ ys) = refl

-- so what is said of one, by what is said from it on
pub at_nothing : (os : List (Option Said)) (n : ℕ) (ys : List TimedInstr)
    → drop n os ≡ nothing_of ys → none ≡ get_or os n none
at_nothing os n ys e =
    sym
    (get_drop os n none
    ∙ ap (λ (l : List (Option Said)). get_or l 0 none) e
    ∙ nothing_first ys)

pub at_said : (os : List (Option Said)) (n area : ℕ) (ys : List TimedInstr)
    → drop n os ≡ said_each area ys → said_first area ys ≡ get_or os n none
at_said os n area ys e =
    sym
    (get_drop os n none
    ∙ ap (λ (l : List (Option Said)). get_or l 0 none) e
    ∙ said_first_lem area ys)
