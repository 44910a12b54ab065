-- `put_row` writes the line of a row, by the record of its block.
-- Assumes nothing.
use Prim.Native.Nat.{ℕ}
use mathlib.Core.Path.{refl, sym, ap, ap₂, ◌∙◌, subst}
use native.Mathlib.Omega.{arith}
use Rattle.base_text.specs.Doc.{Doc}
use Rattle.base_text.specs.Wrote.{Wrote}
use Rattle.file_blocks.specs.Parse.{blocks_of}
use Rattle.file_blocks.specs.Read.{IsBlock}
use Rattle.file_blocks.proofs.IsBlock.{missing, found_inside}
use Rattle.call_pages.specs.Page.{row_line}
use Rattle.call_pages.proofs.Rows.{row_read, block_read, row_line_lem}
use Rattle.call_pages.proofs.lines.put_row.Goals as goal

-- every block is found
pub returns-in_default : goal.returns-in_default
returns-in_default c =
    λ limit ready. absurd (omega (
      arith,
      missing _ ready.accepted _ (sym c.block_at.ensures ∙ c.in_default.is),
      c.row_block-i.ensures.number,
      block_read ready c.args.p c.requires.1,
    ))

pub first_of-requires : goal.first_of-requires
first_of-requires c = (
  c.requires.0.0,
  c.requires.0.1,
  omega (
    arith,
    found_inside _ _ _ (sym c.block_at.ensures ∙ c.in-Some.is),
    c.requires.0.2,
  ),
)

pub returns : goal.returns
returns c =
    let a = c.args in
    λ limit ready.
    let is : IsBlock a.file.now _ _ _ =
    record {
      accepted = ready.accepted;
      found = sym c.block_at.ensures ∙ c.in-Some.is;
      starts = c.first_of.ensures _ limit ready;
    } in
    subst (λ (d : Doc). Wrote a.out.now a.at d c.put_line.new.out
    c.put_line.result)
    (row_line_lem is _ _ _ _ c.key_of-key.ensures refl
    (c.exits_at-exits.ensures _ is)
    ∙ ap₂ (λ (g i : ℕ). row_line (blocks_of a.file.now) (record { group = g; block = i }))
    c.row_group.ensures.number c.row_block-i.ensures.number
    ∙ ap (row_line (blocks_of a.file.now)) (sym (row_read ready a.p c.requires.1)))
    c.put_line.ensures
