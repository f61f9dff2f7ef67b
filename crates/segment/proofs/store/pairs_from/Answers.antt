-- Whatever plane the pairs before `from` were stored into: the plane so far holds the pairs passed too; the next two samples are still as they were.
use Rattle.std.proofs.Common.{arith, length-set}
use Rattle.segment.proofs.Places.{before_in}
use Rattle.segment.proofs.Taps.{pair_more, pair_all}
use Rattle.segment.proofs.store.pairs_from.Goals as goal

pub loop-i-preserved : goal.loop-i-preserved
loop-i-preserved c =
    let start = c.args in
    let p = c.before-p.ensures in
    let q = c.after-q.ensures in
    let inv = c.loop-i.invariant in
    let low = before_in c.loop-i.i start.s start.step start.at c.loop-i-test.true c.requires.2 in
    let one = c.requires.1 in
    (omega arith, omega arith, omega (arith, p.2, q.2), simp length-set inv.3, λ l m h. pair_more _ _ _ _ _ _ l one m _ _ _ _ _ low (inv.4 l m h) p.0 p.1 q.0 q.1)

pub returns : goal.returns
returns c =
    let start = c.args in
    let inv = c.loop-i.invariant in
    (λ l m h. pair_all _ _ _ _ start.m.by start.m.plus l c.requires.1 c.loop-i.i (inv.4 l m h) inv.1 (omega arith), omega arith)
