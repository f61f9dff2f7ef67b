-- `at` divides where there are rows. Assumes nothing.
use Rattle.laws.specs.Choose.{tests as needs}
use Rattle.by_settings.specs.Places.{place_in}
use Rattle.by_settings.proofs.places.at.Goals as goal

pub returns-then-across-eq0 : goal.returns-then-across-eq0
unfolding place_in
returns-then-across-eq0 c = search needs

pub returns : goal.returns
unfolding place_in
returns c = search needs
