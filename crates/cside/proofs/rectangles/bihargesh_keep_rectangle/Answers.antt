-- `bihargesh_keep_rectangle` answers by the rules of keep marks over a rectangle. Assumes nothing.
use Rattle.cside.proofs.Telling.{rectangles as needs}
use Rattle.cside.proofs.rectangles.bihargesh_keep_rectangle.Goals as goal

pub returns-in-Err : goal.returns-in-Err
returns-in-Err c = search needs

pub rectangle_of-s-requires : goal.rectangle_of-s-requires
rectangle_of-s-requires c = search needs

pub returns : goal.returns
returns c = search needs
