-- `count_right` goes by whether the count is settled. Assumes nothing.
use Rattle.settings.specs.Lines.{count_right}
use Rattle.settings.proofs.file.count_right.Goals as goal

pub returns-in-Some : goal.returns-in-Some
unfolding count_right
returns-in-Some c = rw c.in-Some.is

pub returns-in-None : goal.returns-in-None
unfolding count_right
returns-in-None c = rw c.in-None.is
