-- The lines within an edge's reach. Assumes nothing.
use Rattle.rules.specs.Segment.{window_of}
use Rattle.kept.proofs.window.window.Goals as goal

pub returns : goal.returns
unfolding window_of
returns c = cc
