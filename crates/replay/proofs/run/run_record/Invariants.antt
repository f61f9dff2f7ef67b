-- `run_record` meets its contract: the entries passed have run and are counted. Assumes nothing.
use Rattle.std.proofs.Common.{◌≡◌, ◌-◌, ◌≤◌, length, refl, arith, rules}
use Rattle.replay.specs.Fit.{Ran}
use Rattle.replay.proofs.Entries.{first_entries, replayed_none, replayed_more, replayed_end, entry_runs, runnable_same}
use Rattle.replay.proofs.run.run_record.Given as goal

abbrev pub invariant-loop-k : goal.invariant-loop-k
invariant-loop-k l = (l.k ≤ l.n) × Ran l.s l.keep (first_entries l.bytes l.k) l.initial.plane l.stored l.changed l.plane × (length l.plane ≡ length l.initial.plane)

abbrev pub decreases-loop-k : goal.decreases-loop-k
decreases-loop-k l = l.n - l.k
