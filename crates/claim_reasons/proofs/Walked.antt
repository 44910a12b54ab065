-- Something is said of exactly the instructions for which the walk over a block's forms finds a
-- shell.
-- Assumes nothing.
use Rattle.std.proofs.Common.{Some, None}
use Prim.Native.Nat.{ℕ, zero, suc, ◌+◌, ◌<◌}
use mathlib.Core.Path.{◌≡◌, refl, sym, ap, ◌∙◌}
use mathlib.Core.Bool.{Bool, true, false, not, cond, ◌&&◌, ◌||◌, and-false, and-true, or-false}
use mathlib.Core.List.{List, [], ◌∷◌}
use mathlib.Core.Option.{Option, none, some, map}
use package.native.Mathlib.Nat.{zero-add}
use package.native.Mathlib.Omega.{arith}
use borrow.Author.Tests.{eq-eqb, ne_eqb}
use lib.Dec.{eqb}
use lib.ListN.{length, get_or}
use Rattle.base_lists.specs.Lists.{is_some}
use Rattle.armv4t.specs.Fused.{Fused, fuse}
use Rattle.file_instrs.specs.declared.decode.TimedInstr.{TimedInstr}
use Rattle.file_blocks.specs.Parse.{Block}
use Rattle.file_blocks.specs.Address.{region}
use Rattle.lower_forms.specs.Forms.{Form, native, shell, records_in}
use Rattle.lower_forms.specs.Block.{emit_pair, emit_instr, fused_or, cons_form, emit_instrs}
use Rattle.lower_forms.proofs.RecordCount.{record_count, instr_count_lem}
use Rattle.lower_reasons.specs.Reasons.{reason_of}
use Rattle.lower_reasons.specs.Said.{Said, has_code, is_pair, drops_rest, said_of}
use Rattle.lower_reasons.specs.Said.{nothing_of, said_each, said_in, said_at}
use Rattle.claim_reasons.proofs.Shells.{is_shell, shell_reason}
use Rattle.claim_reasons.proofs.Leaving.{drops, drops_form, form_leaves}

-- whether record i has a shell among forms of which the first stands for record p: a fused pair
-- stands for two
unfoldable pub shell_from : ℕ → ℕ → List Form → Bool
shell_from i p [] = false
shell_from i p (native r ∷ rs) = not (drops r) && shell_from i (p + records_in r) rs
shell_from i p (shell high t k ∷ rs) = eqb i p || shell_from i (p + 1) rs

-- whether the text of a block prints a shell for the instruction with index i
unfoldable pub shell_at : Block → ℕ → Bool
shell_at b i =
    has_code b && shell_from i 0 (emit_instrs b.thumb (region b.addr) 0 b.instrs).0

-- no record before the first one has a shell
pub none_before : (i p : ℕ) (fs : List Form) → i < p → shell_from i p fs ≡ false
unfolding shell_from
none_before i p [] h = refl
none_before i p (native r ∷ rs) h =
    rw (none_before i (p + records_in r) rs (omega arith)) (and-false (not (drops r)))
none_before i p (shell high t k ∷ rs) h =
    rw (ne_eqb i p (λ e. omega arith), none_before i (p + 1) rs (omega arith))

-- a form that stands for one record, and those after it
one_form : (i p : ℕ) (f : Form) (rs : List Form) → record_count f ≡ 1
    → shell_from i p (f ∷ rs)
    ≡ ((is_shell f && eqb i p) || (not (drops_form f) && shell_from i (p + 1) rs))
unfolding shell_from
one_form i p (native r) rs e = rw e
one_form i p (shell high t k) rs e = refl

told : {A B : Type 0} (f : A → B) (o : Option A) → is_some (map f o) ≡ is_some o
told f none = refl
told f (some x) = refl

-- nothing of each is nothing
pub nothing_at : (ys : List TimedInstr) (j : ℕ) → get_or (nothing_of ys) j none ≡ none
nothing_at [] j = refl
nothing_at (y ∷ ys) zero = refl
nothing_at (y ∷ ys) (suc j) = nothing_at ys j

pub nothing_length : (ys : List TimedInstr) → length (nothing_of ys) ≡ length ys
nothing_length [] = refl
nothing_length (y ∷ ys) = ap suc (nothing_length ys)

stopped : (l : Bool) (ys : List TimedInstr) (os : List (Option Said)) (j : ℕ)
    → (not l && is_some (get_or os j none)) ≡ is_some (get_or (cond l (nothing_of ys) os) j none)
stopped true ys os j = sym (ap is_some (nothing_at ys j))
stopped false ys os j = refl

module _ (thumb : Bool) (area cycles p : ℕ) (x : TimedInstr) (rs : List Form) where
  abbrev form : Form
  form = (emit_instr thumb area cycles x).0

  -- the first record
  here : shell_from (p + 0) p (form ∷ rs) ≡ is_some (said_of area x.instr)
  here =
      one_form (p + 0) p form rs (instr_count_lem thumb area cycles x)
      ∙ rw (
        eq-eqb (p + 0) p (omega arith),
        none_before (p + 0) (p + 1) rs (omega arith),
        and-true
            (is_shell form),
        and-false (not (drops_form form)),
        or-false (is_shell form),
      )
      (shell_reason thumb area cycles x ∙ sym (told _ (reason_of area x.instr)))

  -- one after it
  later : (j : ℕ) → shell_from (p + suc j) p (form ∷ rs)
      ≡ (not (drops_rest area x.instr) && shell_from (p + 1 + j) (p + 1) rs)
  later j =
      let next : p + suc j ≡ p + 1 + j = omega arith in
      one_form (p + suc j) p form rs (instr_count_lem thumb area cycles x)
      ∙ rw (
        ne_eqb (p + suc j) p (λ e. omega arith),
        and-false (is_shell form),
        form_leaves thumb
            area cycles x,
        next,
      )

  later_said : (j : ℕ) (ys : List TimedInstr) (os : List (Option Said))
      → shell_from (p + 1 + j) (p + 1) rs ≡ is_some (get_or os j none)
      → shell_from (p + suc j) p (form ∷ rs)
      ≡ is_some (get_or (cond (drops_rest area x.instr) (nothing_of ys) os) j none)
  later_said j ys os e =
      later j
      ∙ ap (λ (m : Bool). not (drops_rest area x.instr) && m) e
      ∙ stopped (drops_rest area x.instr) ys os j

module _ (thumb : Bool) (area cycles p : ℕ) (x y : TimedInstr) (rest : List TimedInstr) where
  -- what the loop makes of two instructions and the rest, by whether the two fuse
  abbrev loop : Fused → List Form
  loop f =
      (fused_or f
      (cons_form (emit_instr thumb area cycles x).0
      (emit_instrs thumb area (emit_instr thumb area cycles x).1 (y ∷ rest)))
      (λ (target ret : ℕ). cons_form
      (native (emit_pair (cycles + (x.cost + y.cost)) target ret)) (emit_instrs thumb area 0 rest))
      ).0

  -- what is said of them
  abbrev said : Fused → List (Option Said)
  said f =
      cond (is_pair f)
      (nothing_of (x ∷ y ∷ rest))
      (said_of area x.instr
      ∷ cond (drops_rest area x.instr) (nothing_of (y ∷ rest)) (said_each area (y ∷ rest)))

  by_first : (f : Fused) → shell_from (p + 0) p (loop f) ≡ is_some (get_or (said f) 0 none)
  unfolding shell_from
  by_first None =
      here thumb area cycles p x
      (emit_instrs thumb area (emit_instr thumb area cycles x).1 (y ∷ rest)).0
  by_first (Some (target, ret)) = refl

  by_later : (f : Fused) (j : ℕ)
      → shell_from (p + 1 + j) (p + 1)
      (emit_instrs thumb area (emit_instr thumb area cycles x).1 (y ∷ rest)).0
      ≡ is_some (get_or (said_each area (y ∷ rest)) j none)
      → shell_from (p + suc j) p (loop f) ≡ is_some (get_or (said f) (suc j) none)
  unfolding shell_from
  by_later None j e =
      later_said thumb area cycles p x
      (emit_instrs thumb area (emit_instr thumb area cycles x).1 (y ∷ rest)).0 j (y ∷ rest)
      (said_each area (y ∷ rest)) e
  by_later (Some (target, ret)) j e = sym (ap is_some (nothing_at (y ∷ rest) j))

walked : (thumb : Bool) (area cycles p j : ℕ) (xs : List TimedInstr)
    → shell_from (p + j) p (emit_instrs thumb area cycles xs).0
    ≡ is_some (get_or (said_each area xs) j none)
unfolding emit_instrs said_each shell_from
walked thumb area cycles p j [] = refl
walked thumb area cycles p zero (x ∷ []) = here thumb area cycles p x []
walked thumb area cycles p (suc j) (x ∷ []) =
    later_said thumb area cycles p x [] j [] [] refl
walked thumb area cycles p zero (x ∷ y ∷ rest) =
    by_first thumb area cycles p x y rest (fuse x.instr y.instr)
walked thumb area cycles p (suc j) (x ∷ y ∷ rest) =
    by_later thumb area cycles p x y rest (fuse x.instr y.instr) j
    (walked thumb area (emit_instr thumb area cycles x).1 (p + 1) j (y ∷ rest))

-- what is said of the instruction with index i of a block, by whether its text has its code
pub by_code : (t : Bool) (i : ℕ) (os : List (Option Said)) (xs : List TimedInstr)
    → is_some (get_or (cond t os (nothing_of xs)) i none) ≡ (t && is_some (get_or os i none))
by_code true i os xs = refl
by_code false i os xs = ap is_some (nothing_at xs i)

-- something is said of exactly the instructions of a block that have a shell
pub said_of_shells : (b : Block) (i : ℕ) → is_some (said_at b i) ≡ shell_at b i
unfolding said_in shell_at
said_of_shells b i =
    by_code (has_code b) i (said_each (region b.addr) b.instrs) b.instrs
    ∙ ap (λ (m : Bool). has_code b && m)
    (sym (walked b.thumb (region b.addr) 0 0 i b.instrs)
    ∙ ap (λ (n : ℕ). shell_from n 0 (emit_instrs b.thumb (region b.addr) 0 b.instrs).0)
    (zero-add i))
