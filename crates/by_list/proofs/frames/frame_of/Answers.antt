-- `frame_of` is a frame's settings, number by number. Assumes nothing.
use Rattle.numbers.proofs.Listed.{number_kept}
use Rattle.by_list.specs.Frames.{frame_settings}
use borrow.Author.Rules.{rules}
use Rattle.by_list.proofs.frames.frame_of.Goals as goal

pub returns : goal.returns
unfolding frame_settings
returns c = cc (number_kept _ _ (record { sfits = c.number.type_inv }) c.number.ensures, number_kept _ _ (record { sfits = c.number-2.type_inv }) c.number-2.ensures)
