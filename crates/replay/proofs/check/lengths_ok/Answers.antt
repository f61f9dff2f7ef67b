-- `lengths_ok` meets its contract. Assumes nothing.
use Rattle.std.proofs.Common.{refl, arith, rules}
use Rattle.laws.specs.Choose.{both_bad, both_ok, is_le, not_le}
use Rattle.rules.specs.Replay.{replay_long}
use Rattle.replay.proofs.Entries.{samples_most, cells_most}
use Rattle.replay.proofs.check.lengths_ok.Goals as goal

pub returns-then-plane-s : goal.returns-then-plane-s
unfolding replay_long
returns-then-plane-s c = both_bad _ _ (not_le _ _ c.if-plane-s.true)

pub returns : goal.returns
unfolding replay_long
returns c = both_ok _ _ _ (is_le _ _ c.if-plane-s.false) refl
