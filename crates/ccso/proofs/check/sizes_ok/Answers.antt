-- `sizes_ok` tests both sizes and the subsampling. Assumes nothing.
use Rattle.rules.specs.Numbers.{in_range, subsampling_ok}
use Rattle.rules.specs.Ccso.{ccso_sizes_ok}
use Rattle.laws.specs.Choose.{tests as needs}
use Rattle.ccso.proofs.check.sizes_ok.Goals as goal

pub returns-then-s-lt1 : goal.returns-then-s-lt1
unfolding ccso_sizes_ok in_range subsampling_ok
returns-then-s-lt1 c = search needs

pub returns-then-s-gt4096 : goal.returns-then-s-gt4096
unfolding ccso_sizes_ok in_range subsampling_ok
returns-then-s-gt4096 c = search needs

pub returns-then-s-lt1-2 : goal.returns-then-s-lt1-2
unfolding ccso_sizes_ok in_range subsampling_ok
returns-then-s-lt1-2 c = search needs

pub returns-then-s-gt4096-2 : goal.returns-then-s-gt4096-2
unfolding ccso_sizes_ok in_range subsampling_ok
returns-then-s-gt4096-2 c = search needs

pub returns-then-s-gt1 : goal.returns-then-s-gt1
unfolding ccso_sizes_ok in_range subsampling_ok
returns-then-s-gt1 c = search needs

pub returns : goal.returns
unfolding ccso_sizes_ok in_range subsampling_ok
returns c = search needs
