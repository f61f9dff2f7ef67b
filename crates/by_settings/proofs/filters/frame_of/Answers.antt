-- `frame_of` is the frame, number by number. Assumes nothing.
use Rattle.numbers.proofs.Listed.{number_kept}
use Rattle.by_settings.specs.Numbers.{frame_asked}
use borrow.Author.Rules.{rules}
use Rattle.by_settings.proofs.filters.frame_of.Goals as goal

pub returns : goal.returns
unfolding frame_asked
returns c = cc (number_kept _ _ (record { sfits = c.number.type_inv }) c.number.ensures, number_kept _ _ (record { sfits = c.number-2.type_inv }) c.number-2.ensures)
