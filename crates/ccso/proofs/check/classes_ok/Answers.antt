-- `classes_ok` tests the three class numbers. Assumes nothing.
use Rattle.ccso.specs.Checks.{classes_ok}
use Rattle.laws.specs.Choose.{tests as needs}
use Rattle.ccso.proofs.check.classes_ok.Goals as goal

pub returns-then-s-gt3 : goal.returns-then-s-gt3
unfolding classes_ok
returns-then-s-gt3 c = search needs

pub returns-then-s-gt3-2 : goal.returns-then-s-gt3-2
unfolding classes_ok
returns-then-s-gt3-2 c = search needs

pub returns : goal.returns
unfolding classes_ok
returns c = search needs
