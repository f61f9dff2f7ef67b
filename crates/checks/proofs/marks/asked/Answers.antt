-- `asked` meets its contract. Assumes nothing.
use Rattle.checks.proofs.Bytes.{askeds as needs}
use Rattle.checks.proofs.marks.asked.Goals as goal

pub returns-then-highest-eq0 : goal.returns-then-highest-eq0
returns-then-highest-eq0 c = search needs
