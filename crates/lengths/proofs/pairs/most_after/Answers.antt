-- `pairs::most_after` meets its contract: one computed test over the table.
-- Assumes nothing.
use Rattle.lengths.proofs.Lengths.{table_is}
use Rattle.rules.specs.Lengths.{most_after, length_after}
use mathlib.Core.List.{[], ◌∷◌}
use mathlib.Core.Path.{◌∙◌}
use Rattle.lengths.proofs.pairs.most_after.Goals as goal

pub returns : goal.returns
unfolding most_after length_after
returns c = c.from.ensures ∙ table_is most_after (1 ∷ 3 ∷ 6 ∷ 8 ∷ 8 ∷ 4 ∷ 3 ∷ 4 ∷ []) tt c.args.pair c.requires
