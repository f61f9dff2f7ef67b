-- `qindex_grid_of` is a qindex grid's settings, number by number. Assumes nothing.
use Rattle.numbers.specs.Settings.{qindex_grid_of}
use Rattle.numbers.proofs.qindex_grid_of.Goals as goal

pub returns : goal.returns
unfolding qindex_grid_of
returns c = cc
