-- To be believed: what the text of a file's blocks means (document 01, Meaning): demand 2's second
-- half, as one statement about a file.
use Rattle.std.specs.Prelude.{ℕ, ◌%◌, ◌≡◌}
use mathlib.Core.List.{List, [], ◌∷◌, ◌++◌, Memᴰ}
use Rattle.std.proofs.Math.Option.{some}
use Rattle.file_instrs.specs.declared.decode.TimedInstr.{TimedInstr}
use Rattle.file_blocks.specs.Parse.{Block, AcceptedAs}
use Rattle.file_blocks.specs.Address.{region}
use Rattle.armv4t_manual.specs.Machine.{Machine, Sound}
use Rattle.armv4t_manual.specs.Execute.{execute}
use Rattle.lower_forms.specs.Block.{body_of}
use Rattle.lower_units.specs.Records.{RecordMeans, ThumbMeans, PairMeans, ThumbPairMeans}
use Rattle.lower_units.specs.Records.{ClosingMeans}
use Rattle.claim_meaning.specs.Block.{BlockMeans, KeepsState}

-- what is claimed of the text of a block, ks being the keys of its group; the first three are what
-- the other claims ask of its records
pub record BlockMeaning (multiplier : ℕ) (ks : List ℕ) (b : Block) : Type 0 where
  -- each record is of the block's own instruction set
  pub own_set : (x : TimedInstr) → Memᴰ x b.instrs → x.instr.thumb ≡ b.thumb
  -- each record stands at an even address
  pub even : (x : TimedInstr) → Memᴰ x b.instrs → x.instr.addr % 2 ≡ 0
  -- each record leads, by the manual, from a sound machine to a sound one
  pub sound : (x : TimedInstr) → Memᴰ x b.instrs → (m : Machine) (next : Machine × ℕ)
      → Sound m → execute x.instr m ≡ some next → Sound next.0
  -- of each native record the manual says what it does, but for those named in Unsaid, and its text
  -- acts so, named differences aside
  pub every_record : (x : TimedInstr) → Memᴰ x b.instrs
      → RecordMeans ks b.addr (region b.addr) x
  -- of each native record that decodes a Thumb instruction A7.1 says what it does, and its text
  -- acts so
  pub thumb : (x : TimedInstr) → Memᴰ x b.instrs
      → ThumbMeans ks b.addr (region b.addr) x
  -- of two records side by side that fuse, the text of the pair leaves as the manual says of the
  -- two, one after the other
  pub pairs : (us vs : List TimedInstr) (x y : TimedInstr) → b.instrs ≡ us ++ (x ∷ y ∷ vs)
      → PairMeans ks b.addr x y
  -- two records side by side that decode the halves of a Thumb BL fuse, and the text of the pair
  -- leaves as A7.1 says of the two
  pub thumb_pairs : (us vs : List TimedInstr) (x y : TimedInstr) → b.instrs ≡ us ++ (x ∷ y ∷ vs)
      → ThumbPairMeans ks b.addr x y
  -- the closing transfer leaves to the key after the last record, with the machine as it was
  pub closing : (us : List TimedInstr) (x : TimedInstr) → b.instrs ≡ us ++ (x ∷ [])
      → ClosingMeans ks (body_of multiplier b) x.instr
  -- the text of the block as a whole leaves as the manual and the interpreter say, where its
  -- records are covered
  pub whole : BlockMeans multiplier ks b
  -- T agrees with the key that a block leads to
  pub state : KeepsState multiplier b

-- a file, if it is accepted: every block, whatever keys its group has
unfoldable pub MeaningOf : ℕ → List ℕ → Type 0
MeaningOf multiplier f =
    (bs : List Block) → AcceptedAs f bs
    → (b : Block) → Memᴰ b bs
    → (ks : List ℕ) → BlockMeaning multiplier ks b
