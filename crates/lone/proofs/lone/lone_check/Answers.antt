-- Each check in its order; what the later ones need is what the earlier ones tested.
use Rattle.laws.specs.Choose.{told_yes, told_no}
use native.Mathlib.Omega.{arith}
use Rattle.checks.proofs.Checks.{checks}
use Rattle.rules.specs.Lone.{lone_check}
use Rattle.lone.proofs.Accepted.{product_most, in_plane, sure, pair_below, ranges_refused, room_refused, room_passed}
use borrow.Author.Rules.{rules}
use Rattle.lone.proofs.lone.lone_check.Goals as goal

pub returns-then-not-is : goal.returns-then-not-is
unfolding lone_check
returns-then-not-is c = search checks

pub returns-then-not-sizes_ok : goal.returns-then-not-sizes_ok
unfolding lone_check
returns-then-not-sizes_ok c = search checks

pub overflow_mul-s : goal.overflow_mul-s
overflow_mul-s c = omega (arith, product_most _ (told_yes _ _ c.sizes_ok.ensures c.if-not-sizes_ok.false))

pub returns-then-plane-s : goal.returns-then-plane-s
unfolding lone_check
returns-then-plane-s c = search checks

pub returns-then-not-ranges_ok : goal.returns-then-not-ranges_ok
returns-then-not-ranges_ok c =
    ranges_refused _ _
    (told_yes _ _ c.is.ensures c.if-not-is.false)
    (told_yes _ _ c.sizes_ok.ensures c.if-not-sizes_ok.false)
    c.if-plane-s.false
    c.edge_of-e.ensures.0
    (told_no _ _ c.ranges_ok.ensures c.if-not-ranges_ok.true)

pub has_room-requires : goal.has_room-requires
has_room-requires c = (pair_below _ (told_yes _ _ c.ranges_ok.ensures c.if-not-ranges_ok.false), c.edge_of-e.ensures.1, c.edge_of-e.ensures.2)

pub returns-then-not-has_room : goal.returns-then-not-has_room
returns-then-not-has_room c =
    room_refused _ _
    (told_yes _ _ c.is.ensures c.if-not-is.false)
    (told_yes _ _ c.sizes_ok.ensures c.if-not-sizes_ok.false)
    c.if-plane-s.false
    c.edge_of-e.ensures.0
    (told_yes _ _ c.ranges_ok.ensures c.if-not-ranges_ok.false)
    (told_no _ _ c.has_room.ensures c.if-not-has_room.true)

pub over_check-requires : goal.over_check-requires
over_check-requires c =
    in_plane _
    (told_yes _ _ c.sizes_ok.ensures c.if-not-sizes_ok.false)
    c.if-plane-s.false
    (told_yes _ _ c.ranges_ok.ensures c.if-not-ranges_ok.false)
    (told_yes _ _ c.has_room.ensures c.if-not-has_room.false)

pub returns : goal.returns
returns c =
    room_passed _ _
    (told_yes _ _ c.is.ensures c.if-not-is.false)
    (told_yes _ _ c.sizes_ok.ensures c.if-not-sizes_ok.false)
    c.if-plane-s.false
    c.edge_of-e.ensures.0
    (told_yes _ _ c.ranges_ok.ensures c.if-not-ranges_ok.false)
    (told_yes _ _ c.has_room.ensures c.if-not-has_room.false)
    c.top.ensures
    c.over_check.ensures
