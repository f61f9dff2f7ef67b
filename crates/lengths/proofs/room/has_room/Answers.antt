-- One test for both directions, with x and y in each other's place.
use Rattle.lengths.proofs.Inside.{room_upright, room_level}
use native.Mathlib.Omega.{arith}
use Rattle.lengths.proofs.Lengths.{pair_facts}
use Rattle.lengths.proofs.room.has_room.Goals as goal

pub room_along-requires : goal.room_along-requires
room_along-requires c = let f = (pair_facts _ c.requires.0).after in (c.requires.1, c.requires.2, omega arith)

pub room_along-requires-else-e-eq0 : goal.room_along-requires-else-e-eq0
room_along-requires-else-e-eq0 c = let f = (pair_facts _ c.requires.0).after in (c.requires.2, c.requires.1, omega arith)

pub returns-then-e-eq0 : goal.returns-then-e-eq0
returns-then-e-eq0 c = room_upright _ _ _ _ _ c.if-e-eq0.true c.reach_before-b.ensures c.reach_after-a.ensures c.room_along.ensures

pub returns-else-e-eq0 : goal.returns-else-e-eq0
returns-else-e-eq0 c = room_level _ _ _ _ _ c.if-e-eq0.false c.reach_before-b.ensures c.reach_after-a.ensures c.room_along-else-e-eq0.ensures
