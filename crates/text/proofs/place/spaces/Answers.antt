-- `spaces` looks for what is no space and no tab. Assumes nothing.
use Rattle.std.proofs.Common.{rules, not, ℕ}
use Rattle.text.specs.Places.{blank_of, ink_at}
use Rattle.text.proofs.place.spaces.Goals as goal

pub returns-clause-value : goal.returns-clause-value
unfolding ink_at
returns-clause-value c = c.first.ensures.value (λ (b : ℕ). not (blank_of b)) (λ b r e. search rules)
