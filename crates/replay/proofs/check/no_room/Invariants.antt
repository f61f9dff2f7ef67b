-- `no_room` meets its contract: every entry passed so far has room. Assumes nothing.
use Rattle.checks.proofs.First.{first_none}
use Rattle.replay.proofs.Entries.{good_at, entry_more, entry_found, entry_end}
use Rattle.std.proofs.Common.{◌≡◌, ◌-◌, ◌*◌, ◌≤◌, arith}
use Rattle.std.specs.declared.option.Option.TheVariants.{None}
use Rattle.rules.specs.Refusals.{first}
use Rattle.rules.specs.Segment.{has_room}
use Rattle.replay.proofs.Entries.{pair_below}
use Rattle.replay.proofs.check.no_room.Given as goal

abbrev pub invariant-loop-k : goal.invariant-loop-k
invariant-loop-k l = (l.k ≤ l.n) × (first l.k (good_at l.bytes (has_room (4 * l.s.cols) (4 * l.s.rows))) ≡ None)

abbrev pub decreases-loop-k : goal.decreases-loop-k
decreases-loop-k l = l.n - l.k
