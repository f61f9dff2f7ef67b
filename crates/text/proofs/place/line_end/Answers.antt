-- `line_end` looks for a newline. Assumes nothing.
use Rattle.std.proofs.Common.{rules, eqb, ℕ}
use Rattle.text.specs.Places.{newline_at}
use Rattle.text.proofs.place.line_end.Goals as goal

pub returns-clause-value : goal.returns-clause-value
unfolding newline_at
returns-clause-value c = c.first.ensures.value (λ (b : ℕ). eqb b 10) (λ b r e. search rules)
