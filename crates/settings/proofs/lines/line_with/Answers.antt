-- `line_with` walks the lines, up to the one that has more numbers of the kind than are left. Assumes nothing.
use mathlib.Core.Path.{refl}
use native.Mathlib.Omega.{arith}
use Rattle.settings.proofs.Stepping.{stepped_less}
use Rattle.settings.proofs.Numbering.{hold_start, hold_next, hold_found, hold_done, line_some, line_none}
use Rattle.settings.proofs.lines.line_with.Goals as goal

pub loop-here-init : goal.loop-here-init
loop-here-init c = rw c.new-walk.ensures (omega arith, omega arith, omega arith, refl)

pub next-requires : goal.next-requires
next-requires c = c.loop-here.invariant.1

pub returns-then-left-k : goal.returns-then-left-k
returns-then-left-k c =
    let i = c.loop-here.invariant in
    let t = c.in-Some.ensures in
    line_some _ _ (omega (arith, i.2, t.number)) (hold_start _ _ _ _ refl (hold_found _ _ i.1 _ _ _ i.3 _ _ t _ c.numbers_in-k.ensures c.if-left-k.true))

pub loop-here-smaller : goal.loop-here-smaller
loop-here-smaller c = stepped_less c.in-Some.ensures

pub loop-here-preserved : goal.loop-here-preserved
loop-here-preserved c =
    let i = c.loop-here.invariant in
    let t = c.in-Some.ensures in
    (t.inside, omega (arith, i.1, t.count, t.forward), omega (arith, i.2, t.count), hold_next _ _ i.1 _ _ _ i.3 _ _ t _ c.numbers_in-k.ensures c.if-left-k.false)

pub returns : goal.returns
returns c =
    let i = c.loop-here.invariant in
    line_none _ (hold_start _ _ _ _ refl (hold_done _ _ i.1 _ _ _ i.3 c.in_default.ensures.0))
