-- `read_two` reads one list after the other. Assumes nothing.
use Rattle.text.proofs.Filled.{twos as needs}
use Rattle.text.proofs.lists.read_two.Goals as goal

pub returns : goal.returns
returns c = search needs
