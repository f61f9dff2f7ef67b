-- `q_of` is the rules' qindex grid settings, luma's or chroma's. Assumes nothing.
use Rattle.rules.specs.Frame.{chroma_q, luma_q}
use Rattle.frame_checks.proofs.parts.q_of.Goals as goal

pub returns-then-chroma : goal.returns-then-chroma
unfolding chroma_q
returns-then-chroma c = rw c.if-chroma.true (let e = rw c.if-chroma.true at c.plane_of-s.ensures in cc)

pub returns : goal.returns
unfolding luma_q
returns c = rw c.if-chroma.false (let e = rw c.if-chroma.false at c.plane_of-s.ensures in cc)
