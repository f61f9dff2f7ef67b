-- `counts_of` raises each signed setting. Assumes nothing.
use Rattle.ccso_sample.proofs.Signed.{back_is}
use Rattle.ccso_sample.proofs.Offsets.{top_most}
use native.Mathlib.Omega.{arith}
use Rattle.ccso_sample.proofs.counts.counts_of.Goals as goal

pub returns : goal.returns
returns c =
    let p = c.requires in
    record {
      ranges = p;
      lo = back_is _ p.lo (omega arith) c.raised.ensures;
      hi = back_is _ p.hi (omega arith) c.raised-2.ensures;
      dx0 = back_is _ p.dx0 (omega arith) c.raised-3.ensures;
      dy0 = back_is _ p.dy0 (omega arith) c.raised-4.ensures;
      dx1 = back_is _ p.dx1 (omega arith) c.raised-5.ensures;
      dy1 = back_is _ p.dy1 (omega arith) c.raised-6.ensures;
      across = c.each_way.ensures;
      down = c.each_way-2.ensures;
      top = c.top.ensures;
      top_most = omega (arith, c.top.ensures, top_most _ p.depth);
    }
