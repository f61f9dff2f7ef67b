-- `set_steps` reads a list, and then looks for the line's end. Assumes nothing.
use Rattle.text.proofs.Filled.{steppings as needs}
use Rattle.text.proofs.lists.set_steps.Goals as goal

pub returns : goal.returns
returns c = search needs
