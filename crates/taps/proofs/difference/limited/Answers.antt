-- D of a line from the two slopes, by one law of signs.
use Rattle.std.proofs.Common.{arith}
use Rattle.taps.proofs.Signs.{limited_is}
use Rattle.taps.proofs.difference.limited.Goals as goal

pub returns : goal.returns
returns c =
    let a = c.args in
    let x = c.slope-x in
    let y = c.slope-y in
    (limited_is a.p1 a.p0 a.q0 a.q1 a.limit x.result y.result _ x.ensures.0 y.ensures.0 (cc), omega arith)
