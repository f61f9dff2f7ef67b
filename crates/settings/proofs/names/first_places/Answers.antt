-- `first_places` takes each kind's first place from its rule. Assumes nothing.
use borrow.Author.Rules.{rules}
use Rattle.laws.specs.Loops.{filled_none}
use Rattle.settings.proofs.Rules.{ok_is, from_is, places_more, places_end}
use Rattle.settings.proofs.names.first_places.Goals as goal

pub loop-k-init : goal.loop-k-init
loop-k-init c = (search rules, filled_none _ _)

pub loop-k-preserved : goal.loop-k-preserved
loop-k-preserved c = (search rules, places_more _ _ _ _ _ (from_is _ _ _ _ (ok_is _ _ _ (search rules) c.try_from.ensures c.ok.ensures.value) c.rule_of-rule.ensures) c.loop-k.invariant.1)

pub returns : goal.returns
returns c = places_end _ _ _ _ (search rules) (search rules) (search rules) c.loop-k.invariant.1
