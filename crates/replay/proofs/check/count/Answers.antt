-- `count` meets its contract. Assumes nothing.
use Rattle.rules.specs.Record.{entry_count}
use Rattle.std.proofs.Common.{refl, rules}
use Rattle.replay.proofs.check.count.Goals as goal

pub returns : goal.returns
unfolding entry_count
returns c = refl
