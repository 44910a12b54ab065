-- What demand 3 refuses: events that break each of its three claims, with the proof that they do;
-- what counts as gateless, as two instructions and as several; every block is lone or one of
-- several.
use Prim.Native.Nat.{ℕ, suc, ◌+◌, ◌<◌}
use mathlib.Core.Path.{◌≡◌, refl}
use mathlib.Core.Logic.{◌⊎◌, inl, inr}
use mathlib.Core.Bool.{Bool, true, false}
use mathlib.Core.List.Memᴰ
use mathlib.Core.List.{List, [], ◌∷◌, ◌++◌, Memᴰ}
use mathlib.Core.Option.{Option, some}
use native.Mathlib.Omega.{arith}
use lib.Dec.{T}
use lib.ListN.{length}
use Rattle.base_lists.proofs.Counts.{some_list}
use Rattle.file_records.specs.BlockRecord.{length_of}
use Rattle.file_blocks.specs.Parse.{Block, block_key}
use Rattle.file_blocks.specs.Address.{outside_rom_bios}
use Rattle.plan_groups.specs.Plan.{groups}
use Rattle.plan_groups.proofs.GroupLaws.{groups_once}
use Rattle.c_tree.specs.Expr.{Expr}
use Rattle.c_tree.specs.Stmt.{guard, gate, other, Owner, switch, label, interp, ret, Code}
use Rattle.c_tree.specs.Stmt.{end}
use Rattle.c_tree.specs.Stmt.{◌⨾◌, Top}
use Rattle.claim_ways.specs.Ways.{Event, reach, said, native_start, interpreted, Way, w_label}
use Rattle.claim_ways.specs.Ways.{w_ret, w_interp, w_default, w_past}
use Rattle.claim_ways.specs.Claim.{carried, times_carried, Gateless, Several, Lone, Passed}
use Rattle.claim_ways.specs.Claim.{WayClaim}

-- a round through statements, guards and conditions, whatever they answer, without a consultation
-- of the gate: so many native records, and one by the interpreter
abbrev round : ℕ → Expr → ℕ → List Event
round k e n =
    reach Owner.common ∷ native_start k 0 n ∷ reach (Owner.native_of k) ∷ said (guard 1 2 3) true
    ∷ said (other e) false ∷ said (guard 1 2 3) false ∷ said (other e) true ∷ interpreted k n ∷ []

-- it is gateless, and carries out one more
pub round_gateless : (k : ℕ) (e : Expr) (n : ℕ)
    → Gateless (round k e n) × (carried (round k e n) ≡ n + 1)
round_gateless k e n = ((tt, (tt, (tt, (tt, tt)))), refl)

-- an answer of the gate ends a gateless run, whatever it is
pub gate_consulted : (x : Bool) (es : List Event) → Gateless (said gate x ∷ es) → ⊥
gate_consulted x es g = g.0

-- a fused pair is two instructions, each carried out once
pub pair_is_two : (carried (native_start 8 3 2 ∷ []) ≡ 2)
    × (times_carried 8 3 (native_start 8 3 2 ∷ []) ≡ 1)
    × (times_carried 8 4 (native_start 8 3 2 ∷ []) ≡ 1)
    × (times_carried 8 5 (native_start 8 3 2 ∷ []) ≡ 0)
pair_is_two = (refl, refl, refl, refl)

-- two blocks of one group are several
pub two_are_several : (limit : ℕ) (bs : List Block) (i j : ℕ)
    → Memᴰ (i ∷ j ∷ []) (groups limit bs) → Several limit bs i × Several limit bs j
two_are_several limit bs i j m = (
  (i ∷ j ∷ [], m, Memᴰ.head refl, omega arith),
  (i ∷ j ∷ [], m, Memᴰ.tail (Memᴰ.head refl), omega arith),
)

-- every block is lone or one of several
pub lone_or_several : (limit : ℕ) (bs : List Block) (i : ℕ) → i < length bs
    → Lone limit bs i ⊎ Several limit bs i
lone_or_several limit bs i h =
    go (some_list i (groups limit bs) (omega (arith, groups_once limit bs i h)))
  where
    go : (g : List ℕ) × Memᴰ g (groups limit bs) × Memᴰ i g
        → Lone limit bs i ⊎ Several limit bs i
    go ([], m, n) = absurd (Memᴰ.not-nil n)
    go (j ∷ [], m, Memᴰ.head e) = inl (rw e m)
    go (j ∷ [], m, Memᴰ.tail n) = absurd (Memᴰ.not-nil n)
    go (j ∷ k ∷ g, m, n) = inr (j ∷ k ∷ g, m, n, omega arith)

module _ (toHash : Block → Option ℕ) (limit : ℕ) (bs : List Block) (i : ℕ) where
  -- one instruction more than the limit in a gateless run, in a group of several
  pub over_the_limit : Several limit bs i → (k : ℕ) (e : Expr)
      → WayClaim toHash limit bs i (round k e limit) → ⊥
  over_the_limit s k e c =
      omega (arith, c.bounded s [] (round k e limit) [] refl (round_gateless k e limit).0)

  -- the same after the gate's no, so that the run is not the way's beginning, and before its yes
  pub between_gates : Several limit bs i → (k : ℕ) (e : Expr)
      → WayClaim toHash limit bs i (said gate false ∷ (round k e limit ++ (said gate true ∷ [])))
      → ⊥
  between_gates s k e c =
      omega (
        arith,
        c.bounded s (said gate false ∷ []) (round k e limit) (said gate true ∷ []) refl
            (round_gateless k e limit).0,
      )

  -- the second of a pair carried out once more by the interpreter, in a lone block
  pub twice_in_a_lone_block : Lone limit bs i
      → WayClaim toHash limit bs i (native_start 8 0 2 ∷ interpreted 8 1 ∷ []) → ⊥
  twice_in_a_lone_block l c = omega (arith, c.once l 8 1)

  module _ (b : Block) (h : ℕ) (m : Memᴰ b bs) (o : T (outside_rom_bios b.addr))
      (e : toHash b ≡ some h) where
    abbrev len : ℕ
    len = length_of (length b.instrs) b.thumb

    -- the guard says no to a block, and yes to another address, to another length and to another
    -- hash
    abbrev refusals : List Event
    refusals =
        said (guard b.addr len h) false ∷ said (guard (suc b.addr) len h) true
        ∷ said (guard b.addr (suc len) h) true ∷ said (guard b.addr len (suc h)) true ∷ []

    not_passed : Passed toHash b refusals → ⊥
    not_passed (g, f, Memᴰ.head p) = let z : ◌≡◌ {A = ℕ} 0 1 = cc in omega arith
    not_passed (g, f, Memᴰ.tail (Memᴰ.head p)) =
        let z : b.addr ≡ suc b.addr = cc in omega arith
    not_passed (g, f, Memᴰ.tail (Memᴰ.tail (Memᴰ.head p))) =
        let z : len ≡ suc len = cc in omega arith
    not_passed (g, f, Memᴰ.tail (Memᴰ.tail (Memᴰ.tail (Memᴰ.head p)))) =
        let y : g ≡ h = cc in let z : g ≡ suc h = cc in omega arith
    not_passed (g, f, Memᴰ.tail (Memᴰ.tail (Memᴰ.tail (Memᴰ.tail n)))) =
        Memᴰ.not-nil n

    -- so neither the start of a native record of that block may follow, where it is outside ROM and
    -- BIOS, nor a native statement of it
    pub unguarded_record : WayClaim toHash limit bs i
        (refusals ++ (native_start (block_key b) 0 1 ∷ [])) → ⊥
    unguarded_record c =
        not_passed (c.guarded refusals [] (native_start (block_key b) 0 1) refl b m refl o)

    pub unguarded_statement : WayClaim toHash limit bs i
        (refusals ++ (reach (Owner.native_of (block_key b)) ∷ [])) → ⊥
    unguarded_statement c =
        not_passed (c.guarded refusals [] (reach (Owner.native_of (block_key b))) refl b m refl o)

module _ (ts : List Top) (f : Code) (o : Owner) (e : Expr) where
  -- a way goes on after a label, and after the interpreter's answer
  pub over_a_label : (k i j : ℕ)
      → Way ts f (label k ⨾ interp i j ⨾ ret o e ⨾ end) [] (interpreted i j ∷ reach o ∷ [])
  over_a_label k i j = w_label (w_interp w_ret)

  -- a switch may take its default, or none of its entries
  pub default_taken : (ks : List ℕ)
      → Way ts f (switch ks ⨾ ret o e ⨾ end) [] (reach Owner.common ∷ [])
  default_taken ks = w_default

  pub past_a_switch : (ks : List ℕ) → Way ts f (switch ks ⨾ ret o e ⨾ end) [] (reach o ∷ [])
  past_a_switch ks = w_past w_ret
