-- `bihargesh_ccso` answers by the rules of the gated offsets. Assumes nothing.
use Rattle.cside.proofs.Telling.{gates as needs}
use Rattle.cside.proofs.gated_offsets.bihargesh_ccso.Goals as goal

pub returns-then-settings-lt16 : goal.returns-then-settings-lt16
returns-then-settings-lt16 c = search needs

pub returns : goal.returns
returns c = search needs
