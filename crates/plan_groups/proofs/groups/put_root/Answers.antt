-- `put_root` stores the root of a block in quarter 2, past the parents, so that the store leaves
-- those as the search left them.
use Rattle.plan_groups.proofs.Lending as lending
use Rattle.plan_groups.proofs.groups.put_root.Goals as goal

pub find-r-requires : goal.find-r-requires
find-r-requires c = let w = c.args.work.now in
    let n = c.args.n in
    rw (lending.lent_is n w, lending.quarter_length n w c.requires.n_in_bounds.0)
    record { forest = c.requires.forest; i_in_bounds = c.requires.n_in_bounds.2 }

pub returns : goal.returns
returns c =
    lending.rooted _ _ _ _ _ c.requires.n_in_bounds.0
    c.requires.n_in_bounds.2
    (rw lending.lent_is at c.find-r.ensures)
