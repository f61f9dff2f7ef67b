-- `tu_grid_of` is a TU grid's settings, number by number. Assumes nothing.
use Rattle.numbers.specs.Settings.{tu_grid_of}
use Rattle.numbers.proofs.tu_grid_of.Goals as goal

pub returns : goal.returns
unfolding tu_grid_of
returns c = cc
