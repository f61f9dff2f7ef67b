-- D of the line as it was read, and both sides by one law. Assumes nothing.
use native.Mathlib.Omega.{arith}
use Rattle.kept.proofs.Swept.{line_swept, few_then}
use Rattle.kept.proofs.kept.line_open.Goals as goal

pub returns : goal.returns
returns c =
    let start = c.args in
    let lane = c.requires.0 in
    let b = c.moves_before.ensures in
    let a = c.moves_after.ensures in
    let first = c.before_open-done.ensures in
    let second = c.after_open.ensures in (
      line_swept _ _ _ _ _ _ _ _ _ _ _ _ start.l start.t.scales c.limited-d.ensures.0 b.1 a.1 (rw (b.0, b.2) at first.0) (rw (a.0, a.2) at second.0),
      few_then first.1 second.1 (omega (arith, lane.before_most, lane.after_most)),
    )
