-- `offset_place` is the rules' place; nothing overflows. Assumes nothing.
use Rattle.rules.specs.Ccso.{offset_place}
use Rattle.ccso_sample.proofs.Offsets.{bands}
use Rattle.ccso_sample.proofs.sample.offset_place.Goals as goal

pub returns : goal.returns
unfolding offset_place
returns c = search bands
