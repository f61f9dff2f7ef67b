-- `word_end` looks for a space or a tab. Assumes nothing.
use Rattle.std.proofs.Common.{rules}
use Rattle.text.specs.Places.{blank_of, blank_at}
use Rattle.text.proofs.place.word_end.Goals as goal

pub returns-clause-value : goal.returns-clause-value
unfolding blank_at
returns-clause-value c = c.first.ensures.value blank_of (λ b r e. search rules)
