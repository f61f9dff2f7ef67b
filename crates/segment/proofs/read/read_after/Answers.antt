-- Nine reads, each at its place outwards.
use Rattle.segment.proofs.Near.{after_nine}
use Rattle.segment.proofs.read.read_after.Goals as goal

pub returns : goal.returns
returns c =
    after_nine _ _ _ _
    c.requires.0
    c.out.ensures.0
    c.out-2.ensures.0
    c.out-3.ensures.0
    c.out-4.ensures.0
    c.out-5.ensures.0
    c.out-6.ensures.0
