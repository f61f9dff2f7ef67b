-- `row` answers as `exact` does: nothing where the largest is not over top. Assumes nothing.
use Rattle.checks.proofs.Rows.{rows as needs}
use Rattle.checks.proofs.over.row.Goals as goal

pub returns-then-most-top : goal.returns-then-most-top
returns-then-most-top c = search needs
