-- `deblock_given` tells the frame's answer, and the place of a refusal by planes that are as lent. Assumes nothing.
use Rattle.frame_by_settings.proofs.Refusing.{luma_fit, told_refused, told_accepted}
use Rattle.frame_by_settings.proofs.lists.deblock_given.Goals as goal

pub place_of-requires : goal.place_of-requires
place_of-requires c = λ k is. luma_fit c.deblock-a.ensures c.in-Err.is is

pub returns-in-Ok : goal.returns-in-Ok
returns-in-Ok c = told_accepted c.deblock-a.ensures c.in-Ok.is

pub returns-in-Err : goal.returns-in-Err
returns-in-Err c = told_refused c.deblock-a.ensures c.in-Err.is (c.place_of.ensures _ _)
