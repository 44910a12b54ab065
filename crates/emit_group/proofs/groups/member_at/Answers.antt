-- `member_at` reads the number of the block that stands in the member's row.
-- Assumes nothing.
use mathlib.Core.Path.{refl}
use native.Mathlib.Omega.{arith}
use Rattle.plan_members.proofs.Places.{row_block_inside}
use Rattle.plan_members.proofs.RowKeys.{group_size, row_of}
use Rattle.emit_group.proofs.groups.member_at.Goals as goal

pub returns : goal.returns
returns c =
    let k = c.args.k in record {
      row = λ f row. row;
      number = λ f limit g is.
          let row = row_of is k (omega (arith, group_size is, c.requires.1)) in
          c.row_block.ensures.planned f _ limit g _ row.ready row.place row.inside;
      stands = λ f limit g is.
          let row = row_of is k (omega (arith, group_size is, c.requires.1)) in
          record {
            limit = limit;
            group = g;
            rows = is;
            inside =
                omega (
                  arith,
                  row_block_inside row.ready _ g _ row.place row.inside,
                  c.row_block.ensures.number,
                );
            keys = refl;
          };
    }
