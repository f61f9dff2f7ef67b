-- `bihargesh_segment` answers, leaves the window and counts as document 01's C side and ticket 4 say. Assumes nothing.
use Rattle.cside.proofs.Windows.{windows as needs}
use Rattle.cside.proofs.window.bihargesh_segment.Goals as goal

pub returns-then-not-is : goal.returns-then-not-is
returns-then-not-is c = search needs

pub returns-then-window-ne144 : goal.returns-then-window-ne144
returns-then-window-ne144 c = search needs

pub count-requires : goal.count-requires
count-requires c = search needs

pub returns-in-Ok : goal.returns-in-Ok
returns-in-Ok c = search needs

pub returns-in-Err : goal.returns-in-Err
returns-in-Err c = search needs
