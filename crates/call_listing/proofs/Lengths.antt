-- How long a listing can be: short enough that its length is exact in 64 bits.
-- Assumes nothing.
use Rattle.std.proofs.Common.{ℕ, suc, ◌+◌, ◌*◌, ◌<◌, ◌≤◌, List, [], ◌∷◌, length, zero-le, arith}
use Rattle.file_blocks.specs.Parse.{Block, block_key}
use Rattle.base_text.specs.Doc.{print}
use Rattle.base_text.specs.Wrote.{max_usize}
use Rattle.base_text.proofs.Lengths.{most, length_most}
use Rattle.plan_exits.specs.Exits.{exits}
use Rattle.plan_groups.specs.Plan.{plan, group_of}
use Rattle.plan_exits.proofs.Few.{exits_few}
use Rattle.call_listing.specs.Listing.{line, block_line, lines_from, listing}

-- a line: 8 digits, a space, at most 20 digits, two exits with 9 bytes each, and the line's end
line_most : (key group : ℕ) (keys : List ℕ) → length keys ≤ 2 → most (line key group keys) ≤ 48
line_most key group [] h = omega arith
line_most key group (k ∷ []) h = omega arith
line_most key group (k ∷ l ∷ []) h = omega arith
line_most key group (k ∷ l ∷ m ∷ keys) h = absurd (omega arith)

lines_most_lem : (rows : List ℕ) (i : ℕ) (bs : List Block) → most (lines_from rows i bs) ≤ 48 * length bs
unfolding lines_from block_line
lines_most_lem rows i [] = zero-le
lines_most_lem rows i (b ∷ bs) =
    omega (
      arith,
      line_most (block_key b) (group_of i rows) (exits b) (exits_few b),
      lines_most_lem rows
          (suc i) bs,
    )

-- a listing: its first line has 16 bytes
pub listing_most : (limit : ℕ) (bs : List Block)
    → length (print (listing limit bs)) ≤ 16 + 48 * length bs
unfolding listing
listing_most limit bs =
    omega (arith, length_most (listing limit bs), lines_most_lem (plan limit bs) 0 bs)

pub listing_short : (limit : ℕ) (bs : List Block) → length bs ≤ 65536
    → length (print (listing limit bs)) < max_usize
listing_short limit bs h = omega (arith, listing_most limit bs)
