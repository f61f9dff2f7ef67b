-- `complete` repeats the last qindex, and tiles the picture where it has no leaf. Assumes nothing.
use Rattle.pictures.proofs.Completing.{completing}
use Rattle.pictures.proofs.defaults.complete.Goals as goal

pub returns-then-places-eq4096 : goal.returns-then-places-eq4096
returns-then-places-eq4096 c = search completing

pub returns-else-places-eq4096 : goal.returns-else-places-eq4096
returns-else-places-eq4096 c = search completing
