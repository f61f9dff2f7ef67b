-- `pairs::most_before` meets its contract: one computed test over the table.
-- Assumes nothing.
use Rattle.lengths.proofs.Lengths.{table_is}
use Rattle.rules.specs.Lengths.{most_before, length_before}
use mathlib.Core.List.{[], ◌∷◌}
use mathlib.Core.Path.{◌∙◌}
use Rattle.lengths.proofs.pairs.most_before.Goals as goal

pub returns : goal.returns
unfolding most_before length_before
returns c = c.from.ensures ∙ table_is most_before (1 ∷ 3 ∷ 6 ∷ 8 ∷ 6 ∷ 4 ∷ 2 ∷ 2 ∷ []) tt c.args.pair c.requires
