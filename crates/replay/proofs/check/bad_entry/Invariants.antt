-- `bad_entry` meets its contract: no entry passed so far is out of range. Assumes nothing.
use Rattle.checks.proofs.First.{first_none}
use Rattle.std.proofs.Common.{◌≡◌, ◌-◌, ◌≤◌, arith, rules}
use Rattle.replay.proofs.Entries.{good_at, entry_more, entry_found, entry_end}
use Rattle.std.specs.declared.option.Option.TheVariants.{None}
use Rattle.rules.specs.Refusals.{first}
use Rattle.rules.specs.Segment.{ranges_ok}
use Rattle.replay.proofs.check.bad_entry.Given as goal

abbrev pub invariant-loop-k : goal.invariant-loop-k
invariant-loop-k l = (l.k ≤ l.n) × (first l.k (good_at l.bytes ranges_ok) ≡ None)

abbrev pub decreases-loop-k : goal.decreases-loop-k
decreases-loop-k l = l.n - l.k
