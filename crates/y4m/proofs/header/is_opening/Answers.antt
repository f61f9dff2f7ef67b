-- `is_opening` is put together from what its callees read. Assumes nothing.
use Rattle.y4m.proofs.Heading.{heading as needs}
use Rattle.y4m.proofs.header.is_opening.Goals as goal

pub returns-then-text-ne89 : goal.returns-then-text-ne89
returns-then-text-ne89 c = search needs

pub returns : goal.returns
returns c = search needs
