-- `no_room` meets its contract: every entry passed so far has room. Assumes nothing.
use Rattle.checks.proofs.First.{first_none}
use Rattle.replay.proofs.Entries.{good_at, entry_more, entry_found, entry_end}
use Rattle.std.proofs.Common.{◌≡◌, ◌-◌, ◌*◌, ◌≤◌, arith}
use Rattle.std.specs.declared.option.Option.TheVariants.{None}
use Rattle.rules.specs.Refusals.{first}
use Rattle.rules.specs.Segment.{has_room}
use Rattle.replay.proofs.Entries.{pair_below}
use Rattle.replay.proofs.check.no_room.Goals as goal

pub loop-k-init : goal.loop-k-init
loop-k-init c = (omega arith, first_none _)

pub has_room-requires : goal.has_room-requires
has_room-requires c = (pair_below _ _ (let e = c.requires.0 in omega arith) c.entry.ensures.0 c.requires.2, c.entry.ensures.1, c.entry.ensures.2)

pub returns-then-not-has_room : goal.returns-then-not-has_room
returns-then-not-has_room c =
    entry_found _
    (has_room (4 * c.args.s.cols) (4 * c.args.s.rows))
    _
    c.loop-k.invariant.1
    _
    c.requires.0
    c.entry.ensures.0
    c.has_room.ensures
    c.if-not-has_room.true-raw
    (omega arith)

pub loop-k-preserved : goal.loop-k-preserved
loop-k-preserved c = (omega arith, entry_more _ (has_room (4 * c.args.s.cols) (4 * c.args.s.rows)) _ c.loop-k.invariant.1 c.entry.ensures.0 c.has_room.ensures c.if-not-has_room.false-raw)

pub returns : goal.returns
returns c = entry_end _ (has_room (4 * c.args.s.cols) (4 * c.args.s.rows)) _ c.loop-k.invariant.1 _ c.requires.0 c.loop-k.invariant.0 (omega arith)
