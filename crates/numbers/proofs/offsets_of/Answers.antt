-- `offsets_of` is CCSO's settings, number by number. Assumes nothing.
use Rattle.numbers.specs.Settings.{offsets_of}
use Rattle.numbers.proofs.Listed.{number_kept}
use Rattle.numbers.proofs.offsets_of.Goals as goal

pub returns : goal.returns
unfolding offsets_of
returns c =
    cc (
      number_kept _ _ (record { sfits = c.number.type_inv }) c.number.ensures,
      number_kept _ _ (record { sfits = c.number-2.type_inv }) c.number-2.ensures,
      number_kept _ _ (record { sfits = c.number-3.type_inv }) c.number-3.ensures,
      number_kept _ _ (record { sfits = c.number-4.type_inv }) c.number-4.ensures,
      number_kept _ _ (record { sfits = c.number-5.type_inv }) c.number-5.ensures,
      number_kept _ _ (record { sfits = c.number-6.type_inv }) c.number-6.ensures,
    )
