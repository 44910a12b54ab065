-- What is counted where the text of a block is run is what the block carries out.
use Prim.Native.Nat.{ℕ, ◌<◌}
use mathlib.Core.Path.{◌≡◌, refl, ap, ◌∙◌}
use mathlib.Core.Bool.{Bool, true, false, cond}
use mathlib.Core.List.{List, [], ◌∷◌}
use mathlib.Core.Option.{Option, none, some}
use borrow.Author.Tests.{eqb-true, eq-eqb}
use lib.Dec.{eqb}
use Rattle.file_blocks.specs.Parse.{Block, block_key}
use Rattle.file_blocks.specs.Address.{region, outside_rom_bios}
use Rattle.c_meaning.specs.State.{State, answered}
use Rattle.c_meaning.specs.Eval.{eval}
use Rattle.c_meaning.specs.Exec.{exec, asks, step, runs}
use Rattle.c_meaning.specs.Helpers.{run}
use Rattle.armv4t_manual.specs.Machine.{Machine}
use Rattle.lower_forms.specs.Block.{hash_of, body_of}
use Rattle.lower_forms.proofs.Gives.{lt_true}
use Rattle.lower_units.specs.Block.{code_from, under_guard, block_code}
use Rattle.lower_units.proofs.Exits.{moved_on}
use Rattle.claim_meaning.specs.Block.{Carries, in_order, granted, absent, refused}
use Rattle.claim_meaning.proofs.Carried.{AtRecord}
use Rattle.claim_ways.specs.Ways.{interpreted}
use Rattle.claim_functions.specs.Counted.{block_events}
use Rattle.claim_functions.proofs.Log.{log}
use Rattle.claim_functions.proofs.Logged.{FactsFrom, logged}

module _ (multiplier : ℕ) (ks : List ℕ) (b : Block) where
  -- the text of a block, by its address and its code bytes
  block_is : (o : Bool) (h : Option ℕ) → outside_rom_bios b.addr ≡ o → hash_of multiplier b ≡ h
      → block_code ks (body_of multiplier b)
      ≡ cond o (under_guard ks (body_of multiplier b) h)
      (code_from ks (body_of multiplier b) 0 (body_of multiplier b).forms)
  unfolding block_code body_of
  block_is o h e f = rw (e, f)

  -- without code bytes, and where the guard says no, the interpreter is called
  absent_log : (z : State) → b.addr < 4294967296
      → log (under_guard ks (body_of multiplier b) none) z ≡ interpreted (block_key b) 0 ∷ []
  unfolding under_guard body_of log step exec eval
  absent_log z h = rw (lt_true h)

  refused_log : (z : State) (h : ℕ) → b.addr < 4294967296 → eqb (z.answers 0) 0 ≡ true
      → log (under_guard ks (body_of multiplier b) (some h)) z ≡ interpreted (block_key b) 0 ∷ []
  unfolding under_guard body_of log run runs step exec asks eval
  refused_log z h l e = rw (e, lt_true l)

  granted_log : (z : State) (h : ℕ) → eqb (z.answers 0) 0 ≡ false
      → log (under_guard ks (body_of multiplier b) (some h)) z
      ≡ log (code_from ks (body_of multiplier b) 0 (body_of multiplier b).forms) (answered z)
  unfolding under_guard log run runs step asks
  granted_log z h e = rw e

  -- a number that is not 0
  not_zero : (x : ℕ) → (x ≡ 0 → ⊥) → eqb x 0 ≡ false
  not_zero x h = go (eqb x 0) refl
    where
      go : (t : Bool) → eqb x 0 ≡ t → t ≡ false
      go true e = absurd (h (eqb-true x 0 e))
      go false e = refl

  pub block_log : (step : ℕ → ℕ → Machine → Machine × ℕ) → FactsFrom ks b b.instrs
      → b.addr < 4294967296 → (z : State) (m : Machine) (out : Machine × ℕ) (used : ℕ)
      → AtRecord step 0 z m → (by : Carries step (region b.addr) multiplier b z m out used)
      → log (block_code ks (body_of multiplier b)) z ≡ block_events (block_key b) by
  unfolding body_of
  block_log step F l z m out used q (in_order n e s) =
      ap (λ c. log c z) (block_is false (hash_of multiplier b) e refl)
      ∙ logged multiplier ks b step s F 0 0 z q
  block_log step F l z m out used q (granted n h e f g s) =
      ap (λ c. log c z) (block_is true (some h) e f) ∙ granted_log z h (not_zero (z.answers 0) g)
      ∙ logged multiplier ks b step s F 0 0 (answered z)
      (record {
        left = record { each = q.left.each };
        declares = q.declares;
        sound = q.sound;
        agrees = moved_on q.agrees refl refl;
      })
  block_log step F l z m out used q (absent e f s) =
      ap (λ c. log c z) (block_is true none e f) ∙ absent_log z l
  block_log step F l z m out used q (refused h e f g s) =
      ap (λ c. log c z) (block_is true (some h) e f) ∙ refused_log z h l (eq-eqb (z.answers 0) 0 g)
