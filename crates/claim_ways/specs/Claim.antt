-- To be believed: the claim on ways (demand 3): one statement about every way through the units of
-- every accepted file.
use Rattle.std.specs.Prelude.{ℕ, ◌+◌, ◌≤◌, ◌≡◌, Bool, true, cond, ◌&&◌, T, leb, ltb, eqb, length}
use mathlib.Core.List.{List, [], ◌∷◌, ◌++◌, map, flatten, Memᴰ}
use Rattle.std.proofs.Math.Option.{Option, some}
use Rattle.std.proofs.Math.ListN.{get_elem?}
use Rattle.file_records.specs.BlockRecord.{length_of}
use Rattle.file_blocks.specs.Parse.{Block, block_key, AcceptedAs}
use Rattle.file_blocks.specs.Address.{outside_rom_bios}
use Rattle.plan_groups.specs.Plan.{groups}
use Rattle.c_tree.specs.Stmt.{Test, guard, gate, other, native_of, common, Code, block, Top}
use Rattle.c_tree.specs.Stmt.{function}
use Rattle.lower_forms.specs.Forms.{Body}
use Rattle.lower_units.specs.Units.{TranslationUnit, units_by}
use Rattle.claim_ways.specs.Ways.{Event, reach, said, native_start, interpreted, Way}

-- how many instructions are carried out (document 01) by some events
abbrev pub carried : List Event → ℕ
carried [] = 0
carried (reach o ∷ es) = carried es
carried (said t x ∷ es) = carried es
carried (native_start k i n ∷ es) = n + carried es
carried (interpreted k i ∷ es) = 1 + carried es

-- a test that does not consult the chain gate (document 01)
abbrev pub NotGate : Test → Type 0
NotGate (guard a l h) = Unit {0}
NotGate gate = ⊥
NotGate (other e) = Unit {0}

-- a gateless run (document 01): events without a consultation of the chain gate
abbrev pub Gateless : List Event → Type 0
Gateless [] = Unit {0}
Gateless (reach o ∷ es) = Gateless es
Gateless (said t x ∷ es) = NotGate t × Gateless es
Gateless (native_start k i n ∷ es) = Gateless es
Gateless (interpreted k i ∷ es) = Gateless es

-- how often they carry out the instruction with index j of the block with the key h
abbrev pub times_carried : ℕ → ℕ → List Event → ℕ
times_carried h j [] = 0
times_carried h j (reach o ∷ es) = times_carried h j es
times_carried h j (said t x ∷ es) = times_carried h j es
times_carried h j (native_start k i n ∷ es) =
    cond (eqb h k && leb i j && ltb j (i + n)) 1 0 + times_carried h j es
times_carried h j (interpreted k i ∷ es) = cond (eqb h k && eqb i j) 1 0 + times_carried h j es

-- an event at the native statements (document 01) of the block with the key h
abbrev pub AtNative : ℕ → Event → Type 0
AtNative h (reach (native_of k)) = k ≡ h
AtNative h (reach common) = ⊥
AtNative h (said t x) = ⊥
AtNative h (native_start k i n) = k ≡ h
AtNative h (interpreted k i) = ⊥

-- a block that shares its group with another
abbrev pub Several : ℕ → List Block → ℕ → Type 0
Several limit bs i = (g : List ℕ) × Memᴰ g (groups limit bs) × Memᴰ i g × (2 ≤ length g)

-- a lone block (document 01): it shares its group with no other
abbrev pub Lone : ℕ → List Block → ℕ → Type 0
Lone limit bs i = Memᴰ (i ∷ []) (groups limit bs)

module _ (toBody : Block → Body) where
  -- all that stands in the units of some blocks
  unfoldable pub all_units : ℕ → ℕ → List Block → List Top
  all_units limit max bs =
      flatten (map (λ (u : TranslationUnit). u.tree) (units_by toBody limit max bs))

module _ (toHash : Block → Option ℕ) where
  -- the guard said yes to a block: to its address, length and hash
  abbrev pub Passed : Block → List Event → Type 0
  Passed b es =
      (h : ℕ) × (toHash b ≡ some h)
      × Memᴰ (said (guard b.addr (length_of (length b.instrs) b.thumb) h) true) es

  -- Demand 3 (docs/SPECIFICATION.md) of the events of a way from the function of block i: each part
  -- without a consultation of the chain gate carries out at most so many instructions as the limit
  -- says in a group of several blocks; a lone block carries out no instruction twice; native
  -- statements of a block outside ROM and BIOS are reached only after the guard said yes to that
  -- block's address, length and hash
  pub record WayClaim (limit : ℕ) (bs : List Block) (i : ℕ) (es : List Event) : Type 0 where
    -- a part without a consultation of the gate, in a group of several
    pub bounded : Several limit bs i → (us ps vs : List Event) → es ≡ us ++ (ps ++ vs) → Gateless ps
        → carried ps ≤ limit
    -- a lone block
    pub once : Lone limit bs i → (h j : ℕ) → times_carried h j es ≤ 1
    -- native statements
    pub guarded : (us vs : List Event) (e : Event) → es ≡ us ++ (e ∷ vs) → (b : Block)
        → Memᴰ b bs → AtNative (block_key b) e → T (outside_rom_bios b.addr) → Passed b us

module _ (toHash : Block → Option ℕ) (toBody : Block → Body) where
  -- a file at a limit and a wished size, if it is accepted: every block and its function in the
  -- units; every list of answers and every way
  unfoldable pub ClaimOf : ℕ → ℕ → List ℕ → Type 0
  ClaimOf limit max f =
      (bs : List Block) → AcceptedAs f bs
      → (i : ℕ) (b : Block) → get_elem? bs i ≡ some b
      → (c : Code) → Memᴰ (function (block (block_key b)) c) (all_units toBody limit max bs)
      → (xs : List Bool) (es : List Event) → Way (all_units toBody limit max bs) c c xs es
      → WayClaim toHash limit bs i es
