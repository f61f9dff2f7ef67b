-- `whole` asks one thing after the other. Assumes nothing.
use Rattle.laws.specs.Choose.{tests}
use Rattle.settings.specs.Lines.{whole_of}
use Rattle.settings.proofs.file.whole.Goals as goal

pub returns-then-not-rest : goal.returns-then-not-rest
unfolding whole_of
returns-then-not-rest c = search tests

pub returns-then-rest : goal.returns-then-rest
unfolding whole_of
returns-then-rest c = search tests

pub returns : goal.returns
unfolding whole_of
returns c = search tests
