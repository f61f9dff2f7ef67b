-- `bad_entry` meets its contract: no entry passed so far is out of range. Assumes nothing.
use Rattle.checks.proofs.First.{first_none}
use Rattle.std.proofs.Common.{◌≡◌, ◌-◌, ◌≤◌, arith, rules}
use Rattle.replay.proofs.Entries.{good_at, entry_more, entry_found, entry_end}
use Rattle.std.specs.declared.option.Option.TheVariants.{None}
use Rattle.rules.specs.Refusals.{first}
use Rattle.rules.specs.Segment.{ranges_ok}
use Rattle.replay.proofs.check.bad_entry.Goals as goal

pub loop-k-init : goal.loop-k-init
loop-k-init c = (omega arith, first_none _)

pub returns-then-not-ranges_ok : goal.returns-then-not-ranges_ok
returns-then-not-ranges_ok c = entry_found _ ranges_ok _ c.loop-k.invariant.1 _ c.requires c.entry.ensures.0 c.ranges_ok.ensures c.if-not-ranges_ok.true-raw (omega arith)

pub loop-k-preserved : goal.loop-k-preserved
loop-k-preserved c = (omega arith, entry_more _ ranges_ok _ c.loop-k.invariant.1 c.entry.ensures.0 c.ranges_ok.ensures c.if-not-ranges_ok.false-raw)

pub returns : goal.returns
returns c = entry_end _ ranges_ok _ c.loop-k.invariant.1 _ c.requires c.loop-k.invariant.0 (omega arith)
