-- `plane_of` is a plane's settings, number by number. Assumes nothing.
use Rattle.numbers.specs.Settings.{plane_of}
use Rattle.numbers.proofs.Listed.{number_kept}
use Rattle.numbers.proofs.plane_of.Goals as goal

pub returns : goal.returns
unfolding plane_of
returns c = cc (number_kept _ _ (record { sfits = c.number.type_inv }) c.number.ensures, number_kept _ _ (record { sfits = c.number-2.type_inv }) c.number-2.ensures)
