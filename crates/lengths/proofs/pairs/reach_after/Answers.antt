-- `pairs::reach_after` meets its contract: one computed test over the table.
-- Assumes nothing.
use Rattle.laws.specs.Choose.{pick}
use Rattle.lengths.proofs.Lengths.{table_is}
use Rattle.rules.specs.Lengths.{reach_after, reach_of, length_after}
use mathlib.Core.List.{[], ◌∷◌}
use mathlib.Core.Path.{◌∙◌}
use Rattle.lengths.proofs.pairs.reach_after.Goals as goal

pub returns : goal.returns
unfolding reach_after reach_of length_after pick
returns c = c.from.ensures ∙ table_is reach_after (3 ∷ 4 ∷ 7 ∷ 8 ∷ 8 ∷ 5 ∷ 4 ∷ 5 ∷ []) tt c.args.pair c.requires
