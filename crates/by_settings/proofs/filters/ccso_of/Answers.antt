-- `ccso_of` is a plane's settings, number by number. Assumes nothing.
use Rattle.numbers.proofs.Listed.{number_kept}
use Rattle.by_settings.proofs.Numbered.{ccso_read}
use borrow.Author.Rules.{rules}
use Rattle.by_settings.proofs.filters.ccso_of.Goals as goal

pub returns : goal.returns
returns c =
    ccso_read _ _ _
    c.subsampling.ensures
    c.subsampling-2.ensures
    c.count.ensures
    (number_kept _ _ (record { sfits = c.number.type_inv }) c.number.ensures)
    (number_kept _ _ (record { sfits = c.number-2.type_inv }) c.number-2.ensures)
    c.count-2.ensures
    c.count-3.ensures
    c.count-4.ensures
    (number_kept _ _ (record { sfits = c.number-3.type_inv }) c.number-3.ensures)
    (number_kept _ _ (record { sfits = c.number-4.type_inv }) c.number-4.ensures)
    (number_kept _ _ (record { sfits = c.number-5.type_inv }) c.number-5.ensures)
    (number_kept _ _ (record { sfits = c.number-6.type_inv }) c.number-6.ensures)
    c.count-5.ensures
