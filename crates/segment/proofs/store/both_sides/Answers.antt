-- The pairs that meet no limit, then the rest.
use Rattle.std.proofs.Common.{arith}
use Rattle.segment.proofs.Taps.{pair_on, pair_put}
use Rattle.segment.proofs.store.both_sides.Goals as goal

pub returns : goal.returns
returns c =
    let p = c.plain_pairs-e.ensures in
    let f = c.pairs_from.ensures in
    let start = c.args in
    let l = start.plane.now in
    let on = pair_on _ _ _ _ start.m.by start.m.plus l c.requires.2 _ start.sofar p.0 in
    (pair_put _ _ _ _ start.m.by start.m.plus l c.requires.2 (f.0 l start.sofar on), omega (arith, f.1, p.1, p.2))
