-- `blank` tests the two bytes. Assumes nothing.
use Rattle.laws.specs.Choose.{tests}
use Rattle.text.specs.Places.{blank_of}
use Rattle.text.proofs.place.blank.Goals as goal

pub returns-then-b-eq32 : goal.returns-then-b-eq32
unfolding blank_of
returns-then-b-eq32 c = search tests

pub returns-else-b-eq32 : goal.returns-else-b-eq32
unfolding blank_of
returns-else-b-eq32 c = search tests
