-- `run` is the plane's run by the settings that the frame has for it, where it is filtered, in either order. Assumes nothing.
use mathlib.Core.Path.{sym}
use Rattle.laws.specs.Choose.{told_yes, told_no}
use Rattle.plane.proofs.Accepting.{checked}
use Rattle.frame_planes.proofs.Counted.{plane_on, plane_plain, plane_off}
use Rattle.frame_planes.proofs.run.run.Goals as goal

pub returns-then-not-kind_on : goal.returns-then-not-kind_on
returns-then-not-kind_on c = plane_off (told_no _ _ c.kind_on.ensures c.if-not-kind_on.true)

pub returns-then-plain : goal.returns-then-plain
returns-then-plain c =
    let on = told_yes _ _ c.kind_on.ensures c.if-not-kind_on.false in
    plane_plain on (c.requires (sym on)) (rw (c.plane_of-s.ensures, c.unwrap-told.ensures) at c.deblock_plane_plain.ensures)

pub run_plane-done-requires : goal.run_plane-done-requires
run_plane-done-requires c =
    let on = told_yes _ _ c.kind_on.ensures c.if-not-kind_on.false in
    rw c.plane_of-s.ensures (checked _ _ _ _ (c.requires (sym on)).accepted)

pub returns : goal.returns
returns c =
    let on = told_yes _ _ c.kind_on.ensures c.if-not-kind_on.false in
    plane_on on (c.requires (sym on)) (rw c.plane_of-s.ensures at c.run_plane-done.ensures)
