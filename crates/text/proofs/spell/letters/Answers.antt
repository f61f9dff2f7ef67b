-- `letters` reads one byte a turn. Assumes nothing.
use Rattle.text.proofs.Spelling.{spelling as needs}
use Rattle.text.proofs.spell.letters.Goals as goal

pub returns-then-not-goes_on-clause-value : goal.returns-then-not-goes_on-clause-value
returns-then-not-goes_on-clause-value c = search needs

pub loop-at-preserved : goal.loop-at-preserved
loop-at-preserved c = search needs

pub returns-clause-value : goal.returns-clause-value
returns-clause-value c = search needs
