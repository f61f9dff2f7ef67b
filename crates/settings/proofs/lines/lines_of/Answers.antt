-- `lines_of` walks the lines, and keeps the last one of each kind. Assumes nothing.
use mathlib.Core.Path.{refl, ◌∙◌}
use native.Mathlib.Omega.{arith}
use Rattle.settings.proofs.Stepping.{stepped_less}
use Rattle.settings.proofs.Numbering.{number_start, number_next, number_done}
use Rattle.settings.proofs.lines.lines_of.Goals as goal

pub loop-here-init : goal.loop-here-init
loop-here-init c = rw c.new-walk.ensures (omega arith, omega arith, refl)

pub next-requires : goal.next-requires
next-requires c = c.loop-here.invariant.1

pub loop-here-smaller : goal.loop-here-smaller
loop-here-smaller c = stepped_less c.in-Some.ensures

pub loop-here-preserved : goal.loop-here-preserved
loop-here-preserved c =
    let i = c.loop-here.invariant in
    let t = c.in-Some.ensures in
    (t.inside, omega (arith, i.1, t.count, t.forward), number_next _ _ i.1 _ _ i.2 _ _ t _ (c.entry-k.ensures.0 ∙ c.kind_of.ensures.0))

pub returns : goal.returns
returns c = number_start _ _ _ refl (number_done _ _ c.loop-here.invariant.1 _ _ c.loop-here.invariant.2 c.in_default.ensures.0)
