-- `twice` looks for the letter again. Assumes nothing.
use Rattle.pictures.proofs.Beyond.{finding as needs}
use Rattle.pictures.proofs.outside.twice.Goals as goal

pub returns-then-first-last : goal.returns-then-first-last
returns-then-first-last c = search needs

pub returns : goal.returns
returns c = search needs
