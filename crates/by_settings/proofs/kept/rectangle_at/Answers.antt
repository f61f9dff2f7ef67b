-- `rectangle_at` reads the four numbers of a rectangle. Assumes nothing.
use Rattle.by_settings.proofs.Keeping.{rectangle_is}
use borrow.Author.Rules.{rules}
use Rattle.by_settings.proofs.kept.rectangle_at.Goals as goal

pub returns : goal.returns
returns c =
    rectangle_is _ _ _ c.wide.ensures c.first_in.ensures
    c.wide-2.ensures c.first_in-2.ensures c.count_in.ensures c.count_in-2.ensures
