-- `room_check` meets its contract: 6, 7, and then 8. Assumes nothing.
use Rattle.std.proofs.Common.{arith, rules}
use Rattle.checks.proofs.Rows.{box_whole}
use Rattle.replay.proofs.Entries.{cells_most}
use Rattle.replay.proofs.Checking.{keep_refused, room_refused, sample_refused, room_passed}
use Rattle.replay.proofs.check.room_check.Goals as goal

pub returns-in-Some : goal.returns-in-Some
returns-in-Some c = keep_refused _ _ _ _ c.bad_keep.ensures (search rules)

pub returns-in-Some-no_room : goal.returns-in-Some-no_room
returns-in-Some-no_room c = room_refused _ _ _ _ c.bad_keep.ensures (search rules) c.no_room.ensures (search rules)

pub returns-in-Some-samples : goal.returns-in-Some-samples
returns-in-Some-samples c = sample_refused _ _ _ _ c.bad_keep.ensures (search rules) c.no_room.ensures (search rules) c.top.ensures c.samples.ensures (search rules)

pub returns-in-None : goal.returns-in-None
returns-in-None c = room_passed _ _ _ _ c.bad_keep.ensures (search rules) c.no_room.ensures (search rules) c.top.ensures c.samples.ensures (search rules)
