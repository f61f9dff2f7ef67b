-- Both sides of a line. Assumes nothing.
use Rattle.rules.specs.Segment.{line_of}
use Rattle.kept.proofs.window.window_line.Goals as goal

pub returns : goal.returns
unfolding line_of
returns c = cc
