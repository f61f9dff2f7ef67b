-- `bihargesh_frame` answers by a frame's rules. Assumes nothing.
use Rattle.by_list.proofs.Lists.{frame_long}
use Rattle.cside.proofs.WholeFrame.{frame_refused, frame_told}
use Rattle.cside.proofs.frames.bihargesh_frame.Goals as goal

pub returns-in-Err : goal.returns-in-Err
returns-in-Err c = frame_refused _ _ _ c.list_check-lists.ensures c.in-Err.is c.told_refusal.ensures

pub frame_of-f-requires : goal.frame_of-f-requires
frame_of-f-requires c = frame_long _ c.list_check-lists.ensures c.in_default.is

pub returns : goal.returns
returns c =
    let done = c in
    let read = done in
    let told = read in
    frame_told _ _ _ told.list_check-lists.ensures told.in_default.is read.frame_of-f.ensures done.deblock_frame-a.ensures c.told_counts.ensures
