-- `distances::fails` meets its contract: one test or another.
-- Assumes nothing.
use Rattle.rules.specs.Width.{fails_of}
use Rattle.width.proofs.Picks.{or_under, or_over}
use Rattle.width.proofs.distances.fails.Goals as goal

pub returns-then-q_limit-g : goal.returns-then-q_limit-g
unfolding fails_of
returns-then-q_limit-g c = or_under _ _ _ c.q_limit.ensures c.if-q_limit-g.true

pub returns-else-q_limit-g : goal.returns-else-q_limit-g
unfolding fails_of
returns-else-q_limit-g c = or_over _ _ _ c.q_limit.ensures c.if-q_limit-g.false (cc)
