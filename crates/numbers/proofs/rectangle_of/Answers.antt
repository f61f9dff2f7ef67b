-- `rectangle_of` is the settings of keep marks over a rectangle, number by number. Assumes nothing.
use Rattle.numbers.specs.Settings.{rectangle_of}
use Rattle.numbers.proofs.rectangle_of.Goals as goal

pub returns : goal.returns
unfolding rectangle_of
returns c = cc
