-- `digits` reads one byte a turn. Assumes nothing.
use Rattle.text.proofs.Runs.{runs as needs}
use Rattle.text.proofs.number.digits.Goals as goal

pub returns-then-not-goes_on-clause-value : goal.returns-then-not-goes_on-clause-value
returns-then-not-goes_on-clause-value c = search needs

pub loop-at-preserved : goal.loop-at-preserved
loop-at-preserved c = search needs

pub returns-clause-value : goal.returns-clause-value
returns-clause-value c = search needs
