-- `chroma_on` holds where a frame filters chroma. Assumes nothing.
use Rattle.rules.specs.Frame.{chroma_on}
use Rattle.laws.specs.Choose.{tests}
use Rattle.frame_checks.proofs.parts.chroma_on.Goals as goal

pub returns-then-f : goal.returns-then-f
unfolding chroma_on
returns-then-f c = search tests

pub returns : goal.returns
unfolding chroma_on
returns c = search tests
