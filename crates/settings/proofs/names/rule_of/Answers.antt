-- `rule_of` has no room for no kind. Assumes nothing.
use mathlib.Core.Path.{◌∙◌}
use Rattle.laws.specs.Choose.{pick}
use Rattle.settings.specs.Rules.{rule_of}
use Rattle.settings.proofs.names.rule_of.Goals as goal

pub returns-in-None : goal.returns-in-None
unfolding rule_of pick
returns-in-None c = c.put.ensures ∙ rw c.in-None.is
