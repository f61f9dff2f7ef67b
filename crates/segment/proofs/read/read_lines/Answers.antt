-- Each line has room, and the four make the lines.
use Rattle.segment.proofs.Near.{four_lines}
use Rattle.segment.proofs.read.read_lines.Goals as goal

pub returns : goal.returns
returns c = four_lines _ _ _ _ _ _ c.read_line-l0.ensures c.read_line-l1.ensures c.read_line-l2.ensures c.read_line-l3.ensures
