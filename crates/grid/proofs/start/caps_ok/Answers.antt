-- `caps_ok` tests both caps. Assumes nothing.
use Rattle.laws.specs.Choose.{tests}
use Rattle.grid.proofs.start.caps_ok.Goals as goal

pub returns-then-not-cap_ok : goal.returns-then-not-cap_ok
returns-then-not-cap_ok c = search tests

pub returns : goal.returns
returns c = search tests
