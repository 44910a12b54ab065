-- The lines of blocks, as a pass over the records writes them.
-- Assumes nothing.
use Rattle.std.proofs.Common.{◌≡◌, ℕ, zero, suc, ◌+◌, ◌<◌, List, [], ◌∷◌, length, get_or, take, sym, ap, ◌∙◌, ap₂, zero-add, add-one, arith}
use Rattle.file_blocks.specs.declared.read.BlockRecord.{BlockRecord}
use Rattle.file_records.specs.Trailer.{block_start}
use Rattle.file_blocks.specs.Parse.{Block, block_at}
use Rattle.file_blocks.specs.Read.{IsBlock}
use Rattle.base_text.specs.Doc.{Doc, ◌▸◌}
use Rattle.base_text.specs.Flat.{flat}
use Rattle.plan_exits.specs.Exits.{exits}
use Rattle.file_blocks.specs.Address.{key_of}
use Rattle.file_blocks.proofs.OwnKey.{record_key}
use Rattle.plan_groups.specs.Plan.{group_of}
use Rattle.call_listing.specs.Listing.{line, block_line, lines_from}

-- a line by the record is the block's
pub block_line_lem : {f : List ℕ} {i : ℕ} {b : BlockRecord} {first : ℕ} → IsBlock f i b first
    → (group key : ℕ) (keys : List ℕ) → key ≡ key_of b.addr b.thumb
    → keys ≡ exits (block_at f (block_start f i) first)
    → line key group keys ≡ block_line group (block_at f (block_start f i) first)
unfolding block_line
block_line_lem is group key keys e h =
    ap₂ (λ (k : ℕ) (l : List ℕ). line k group l) (e ∙ record_key is) h

-- the lines of one more block
pub lines_more : (rows : List ℕ) (j : ℕ) (bs : List Block) (i : ℕ) (d : Block) (k : List ℕ)
    → i < length bs
    → flat (lines_from rows j (take i bs) ▸ block_line (group_of (j + i) rows) (get_or bs i d)) k
    ≡ flat (lines_from rows j (take (suc i) bs)) k
unfolding lines_from
lines_more rows j [] i d k h = absurd (omega arith)
lines_more rows j (b ∷ bs) zero d k h =
    let here : j + 0 ≡ j = omega arith in
    ap (λ (m : ℕ). flat (block_line (group_of m rows) b) k) here
lines_more rows j (b ∷ bs) (suc i) d k h =
    let there : j + suc i ≡ suc j + i = omega arith in
    ap (flat (block_line (group_of j rows) b))
    (ap (λ (m : ℕ). flat
    (lines_from rows (suc j) (take i bs) ▸ block_line (group_of m rows) (get_or bs i d)) k) there
    ∙ lines_more rows (suc j) bs i d k (omega arith))

pub lines_next : (head : Doc) (rows : List ℕ) (bs : List Block) (i : ℕ) (d : Block) (g : ℕ)
    (b : Block) → i < length bs → g ≡ group_of i rows → b ≡ get_or bs i d
    → flat ((head ▸ lines_from rows 0 (take i bs)) ▸ block_line g b) []
    ≡ flat (head ▸ lines_from rows 0 (take (i + 1) bs)) []
lines_next head rows bs i d g b h same is =
    ap (flat head)
    (ap₂ (λ (m : ℕ) (c : Block). flat (lines_from rows 0 (take i bs) ▸ block_line m c) [])
    (same ∙ ap (λ (m : ℕ). group_of m rows) (sym (zero-add i))) is
    ∙ lines_more rows 0 bs i d [] h
    ∙ ap (λ (m : ℕ). flat (lines_from rows 0 (take m bs)) []) (sym (add-one i)))
