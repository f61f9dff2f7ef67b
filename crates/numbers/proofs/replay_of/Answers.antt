-- `replay_of` is the settings of a plane on which a record is run, number by number. Assumes nothing.
use Rattle.numbers.specs.Settings.{replay_settings}
use Rattle.numbers.proofs.replay_of.Goals as goal

pub returns : goal.returns
unfolding replay_settings
returns c = cc
