-- A text that is written to no bytes is measured, and a listing is short enough for its length to
-- be exact. Assumes nothing.
use Rattle.std.proofs.Common.{ℕ, ◌<◌, ◌≤◌, sym, subst, arith}
use Rattle.file_blocks.specs.Parse.{blocks_of}
use Rattle.base_text.proofs.Laws.{exact, counted}
use Rattle.base_text.specs.Wrote.{max_usize}
use Rattle.call_frame.proofs.Opening.{block_number}
use Rattle.call_listing.proofs.Lengths.{listing_short}
use Rattle.call_listing.proofs.calls.listing_length.Goals as goal

pub returns : goal.returns
returns c =
    λ limit groups.
    let wrote = c.put_listing.ensures limit groups in
    exact wrote
    (subst (λ (k : ℕ). k < max_usize) (sym (counted wrote))
    (omega (
      arith,
      listing_short limit (blocks_of c.args.file.now)
          (subst (λ (k : ℕ). k ≤ 65536) (block_number _ _ _ _ _ c.requires) c.requires.few),
    )))
