-- `kind_of` reads a line's first word. Assumes nothing.
use Rattle.settings.proofs.Numbering.{kind_is}
use Rattle.settings.proofs.lines.kind_of.Goals as goal

pub returns : goal.returns
returns c = (kind_is _ _ _ _ _ _ c.spaces-at.ensures.value c.read_word-w.ensures.value c.kind.ensures.0, c.kind.ensures.1)
