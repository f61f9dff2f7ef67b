-- `signed_number` is `signed_at` by what its three calls ensure. Assumes nothing.
use Rattle.text.specs.Numbers.{signed_at}
use Rattle.text.proofs.number.signed_number.Goals as goal

pub returns : goal.returns
unfolding signed_at
returns c = cc
