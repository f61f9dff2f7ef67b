-- The lines passed stand in their places. Assumes nothing.
use mathlib.Core.Path.{◌≡◌}
use native.Mathlib.Omega.{arith}
use Rattle.laws.specs.Loops.{filled_none, filled_more}
use Rattle.rules.specs.Segment.{lines_of}
use Rattle.kept.proofs.window.window_lines.Goals as goal

pub loop-j-init : goal.loop-j-init
loop-j-init c = (omega arith, filled_none _ _)

pub loop-j-preserved : goal.loop-j-preserved
loop-j-preserved c = (omega arith, filled_more _ _ _ c.loop-j.invariant.1 (rw c.window_line.ensures))

pub returns : goal.returns
unfolding lines_of
returns c =
    let all : c.loop-j.j ≡ 4 = omega arith in
    rw all at c.loop-j.invariant.1
