-- `numbers` sets the caps and chroma's flag. Assumes nothing.
use mathlib.Core.Path.{refl}
use Rattle.pictures.specs.Storing.{stored}
use Rattle.pictures.specs.Defaults.{default_numbers}
use Rattle.pictures.proofs.defaults.numbers.Goals as goal

pub returns : goal.returns
unfolding default_numbers stored
returns c = refl
