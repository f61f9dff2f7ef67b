-- `tu_of` is the rules' TU grid settings, luma's or chroma's. Assumes nothing.
use Rattle.rules.specs.Frame.{chroma_tu, luma_tu}
use Rattle.frame_checks.proofs.parts.tu_of.Goals as goal

pub returns-then-chroma : goal.returns-then-chroma
unfolding chroma_tu
returns-then-chroma c = rw c.if-chroma.true (let e = rw c.if-chroma.true at c.plane_of-s.ensures in cc)

pub returns : goal.returns
unfolding luma_tu
returns c = rw c.if-chroma.false (let e = rw c.if-chroma.false at c.plane_of-s.ensures in cc)
