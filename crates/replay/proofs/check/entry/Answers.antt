-- `entry` meets its contract: entry k lies in the record. Assumes nothing.
use Rattle.std.proofs.Common.{arith, rules}
use Rattle.rules.specs.Record.{entry_at}
use Rattle.replay.proofs.Entries.{entry_inside}
use Rattle.replay.proofs.check.entry.Goals as goal

pub overflow_mul-k : goal.overflow_mul-k
overflow_mul-k c = omega (arith, entry_inside _ _ c.requires)

pub overflow_add-k : goal.overflow_add-k
overflow_add-k c = omega (arith, entry_inside _ _ c.requires)

pub edge_at-requires : goal.edge_at-requires
edge_at-requires c = omega (arith, entry_inside _ _ c.requires)

pub returns : goal.returns
unfolding entry_at
returns c = search rules
