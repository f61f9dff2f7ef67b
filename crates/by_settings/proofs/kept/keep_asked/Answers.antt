-- `keep_asked` takes the rectangles among the settings' numbers. Assumes nothing.
use Rattle.by_settings.proofs.Keeping.{kept_so}
use borrow.Author.Rules.{rules}
use Rattle.by_settings.proofs.kept.keep_asked.Goals as goal

pub returns : goal.returns
returns c = kept_so _ _ _ _ _ c.lists_of-at.ensures.0 c.keep_cells.ensures
