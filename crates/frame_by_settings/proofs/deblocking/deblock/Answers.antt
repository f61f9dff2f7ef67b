-- `deblock` hands on what the frame's entry gives over lists that are all zero. Assumes nothing.
use Rattle.frame_by_settings.proofs.Zeroed.{by_zeros}
use borrow.Author.Rules.{rules}
use Rattle.frame_by_settings.proofs.deblocking.deblock.Goals as goal

pub returns : goal.returns
returns c =
    by_zeros _ _ _
    c.deblock_frame.ensures
    c.marks-lv.ensures
    c.marks-lh.ensures
    c.marks-lw.ensures
    c.marks-lt.ensures
    c.indices-lq.ensures
    c.marks-cv.ensures
    c.marks-ch.ensures
    c.marks-cw.ensures
    c.marks-ct.ensures
    c.indices-cq.ensures
