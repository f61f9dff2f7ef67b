-- `sizes_ok` meets its contract: each test in its order. Assumes nothing.
use Rattle.std.proofs.Common.{sym, arith, rules}
use Rattle.checks.proofs.Ranges.{in_range_holds}
use Rattle.laws.specs.Choose.{told_yes}
use Rattle.rules.specs.Replay.{replay_sizes_ok}
use Rattle.laws.specs.Choose.{tests}
use Rattle.replay.proofs.check.sizes_ok.Goals as goal

pub returns-then-not-in_range : goal.returns-then-not-in_range
unfolding replay_sizes_ok
returns-then-not-in_range c = search tests

pub returns-then-not-in_range-2 : goal.returns-then-not-in_range-2
unfolding replay_sizes_ok
returns-then-not-in_range-2 c = search tests

pub overflow_mul-s : goal.overflow_mul-s
overflow_mul-s c = omega (arith, (in_range_holds 1 1024 _ (sym (told_yes _ _ c.in_range.ensures c.if-not-in_range.false))).1)

pub returns : goal.returns
unfolding replay_sizes_ok
returns c = search tests
