-- What is claimed of the text of a file's blocks holds of every accepted file.
use Prim.Native.Nat.{ℕ}
use mathlib.Core.Path.{◌≡◌}
use mathlib.Core.List.{List, [], ◌∷◌, ◌++◌, Memᴰ}
use Rattle.file_instrs.specs.declared.decode.TimedInstr.{TimedInstr}
use Rattle.file_blocks.specs.Address.{region}
use Rattle.armv4t_manual.proofs.Kept.{execute_sound}
use Rattle.lower_forms.specs.Block.{body_of}
use Rattle.lower_units.specs.Records.{RecordMeans, PairMeans, ClosingMeans}
use Rattle.lower_units.proofs.RecordMeans.{record_means}
use Rattle.lower_units.proofs.Thumbs.{thumb_means, thumb_pair_means}
use Rattle.lower_units.proofs.Pairs.{pair_means}
use Rattle.claim_meaning.specs.Meaning.{MeaningOf}
use Rattle.file_blocks.proofs.Ranges.{accepted_ranges, accepted_consecutive, accepted_some}
use Rattle.file_blocks.proofs.Ranges.{accepted_end, accepted_aligned}
use Rattle.claim_meaning.proofs.Closing.{closing_means}
use Rattle.claim_meaning.proofs.Blocks.{Placed, placed, block_means}
use Rattle.claim_meaning.proofs.State.{keeps_state}
use Rattle.lower_units.proofs.Aligned.{aligned_even}

pub meaning_of : (multiplier : ℕ) (f : List ℕ) → MeaningOf multiplier f
unfolding MeaningOf
meaning_of multiplier f bs accepted b m ks =
    record {
      own_set = λ x h. (stands x h).set;
      even = λ x h. aligned_even b.thumb x.instr.addr (stands x h).aligned;
      sound =
          λ x h n next s e. execute_sound x.instr n (accepted_ranges f bs accepted b m x h) s
          next e;
      every_record = every_record;
      thumb = λ x h. thumb_means ks b.addr (region b.addr) x;
      pairs = pairs;
      thumb_pairs = λ us vs x y e. thumb_pair_means ks b.addr x y;
      closing = closing;
      whole =
          block_means multiplier ks b every_record pairs closing (accepted_ranges f bs accepted b m)
          (accepted_consecutive f bs accepted b m)
          (accepted_some f bs accepted b m) (accepted_end f bs accepted b m)
          (accepted_aligned f bs accepted b m);
      state =
          keeps_state multiplier b
          (λ x h. record {
            set = (stands x h).set;
            even = aligned_even b.thumb x.instr.addr (stands x h).aligned;
            ranges = accepted_ranges f bs accepted b m x h;
          });
    }
  where
    stands : (x : TimedInstr) → Memᴰ x b.instrs → Placed b.thumb x
    stands =
        placed b.addr b.thumb b.instrs (accepted_consecutive f bs accepted b m)
        (accepted_aligned f bs accepted b m) (accepted_end f bs accepted b m)

    every_record : (x : TimedInstr) → Memᴰ x b.instrs
        → RecordMeans ks b.addr (region b.addr) x
    every_record x h =
        record_means ks b.addr (region b.addr) x (accepted_ranges f bs accepted b m x h)

    pairs : (us vs : List TimedInstr) (x y : TimedInstr) → b.instrs ≡ us ++ (x ∷ y ∷ vs)
        → PairMeans ks b.addr x y
    pairs us vs x y e = pair_means ks b.addr x y

    closing : (us : List TimedInstr) (x : TimedInstr) → b.instrs ≡ us ++ (x ∷ [])
        → ClosingMeans ks (body_of multiplier b) x.instr
    closing =
        closing_means multiplier ks b (accepted_consecutive f bs accepted b m)
        (accepted_aligned f bs accepted b m)
