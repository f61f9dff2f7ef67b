-- `pairs::reach_before` meets its contract: one computed test over the table.
-- Assumes nothing.
use Rattle.laws.specs.Choose.{pick}
use Rattle.lengths.proofs.Lengths.{table_is}
use Rattle.rules.specs.Lengths.{reach_before, reach_of, length_before}
use mathlib.Core.List.{[], ◌∷◌}
use mathlib.Core.Path.{◌∙◌}
use Rattle.lengths.proofs.pairs.reach_before.Goals as goal

pub returns : goal.returns
unfolding reach_before reach_of length_before pick
returns c = c.from.ensures ∙ table_is reach_before (3 ∷ 4 ∷ 7 ∷ 8 ∷ 7 ∷ 5 ∷ 3 ∷ 3 ∷ []) tt c.args.pair c.requires
