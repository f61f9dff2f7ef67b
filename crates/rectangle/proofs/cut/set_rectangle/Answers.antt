-- `set_rectangle`'s loop: the rows passed so far are set; no column left, nothing is to be set. Assumes nothing.
use Rattle.rectangle.proofs.Rows.{rectangles as needs}
use Rattle.rectangle.proofs.cut.set_rectangle.Goals as goal

pub returns-then-wide-eq0 : goal.returns-then-wide-eq0
returns-then-wide-eq0 c = search needs

pub loop-i-init : goal.loop-i-init
loop-i-init c = search needs

pub set_row-requires : goal.set_row-requires
set_row-requires c = search needs

pub loop-i-preserved : goal.loop-i-preserved
loop-i-preserved c = search needs

pub returns : goal.returns
returns c = search needs
