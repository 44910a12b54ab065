-- By what the check says of the file, and by what follows it.
-- Assumes nothing.
use Rattle.std.proofs.lemmas.Result.{err_from_is_err_and}
use Rattle.file_blocks.proofs.Answers.{refused_file}
use Rattle.call_frame.specs.Open.{opening}
use Rattle.call_frame.proofs.open.open_file.Goals as goal

pub returns-in_err-counts-clause-refused : goal.returns-in_err-counts-clause-refused
unfolding opening
returns-in_err-counts-clause-refused c =
    let p = err_from_is_err_and c.from_residual.result c.from_residual.ensures.1 in
    rw (p.1, p.2, refused_file _ _ c.in_err-counts.ensures)

pub returns-clause-open : goal.returns-clause-open
returns-clause-open c = c.admit.ensures.open _ c.in_ok-counts.ensures

pub returns-clause-counted : goal.returns-clause-counted
returns-clause-counted c = c.admit.ensures.counted _ c.in_ok-counts.ensures

pub returns-clause-refused : goal.returns-clause-refused
returns-clause-refused c = c.admit.ensures.refused _ c.in_ok-counts.ensures
