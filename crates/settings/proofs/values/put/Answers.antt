-- `put` puts the line's numbers into the list one after the other. Assumes nothing.
use borrow.Author.Rules.{rules}
use mathlib.Core.Path.{ap}
use Rattle.settings.specs.declared.values.Read.{Read}
use Rattle.settings.proofs.Taking.{take_more, take_stop, take_ended, take_whole}
use Rattle.settings.proofs.values.put.Goals as goal

pub returns-then-not-more-clause-result_value : goal.returns-then-not-more-clause-result_value
returns-then-not-more-clause-result_value g c =
    take_whole _ _ _ _ _ _ _ _ (search rules) c.skip-rest.ensures (take_stop _ _ _ _ _ _ _ c.loop-at.invariant.4 (search rules) c.more.ensures (search rules))

pub loop-at-preserved : goal.loop-at-preserved
loop-at-preserved g c = (
  search rules,
  search rules,
  search rules,
  search rules,
  take_more _ _ _ _ _ _ _ c.loop-at.invariant.4 (search rules) c.more.ensures (search rules)
      (ap (λ (r : Read _). r.value) c.read-n.ensures) (ap (λ (r : Read _). r.rest) c.read-n.ensures) c.skip-rest-in-loop-at.ensures,
)

pub returns-clause-result_value : goal.returns-clause-result_value
returns-clause-result_value g c =
    take_whole _ _ _ _ _ _ _ _ (search rules) c.skip-rest.ensures (take_ended _ _ _ _ _ _ _ c.loop-at.invariant.4 _ (search rules) (search rules))
