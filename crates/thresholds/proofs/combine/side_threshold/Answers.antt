-- `side_threshold` joins the side thresholds of the two blocks. Assumes nothing.
use mir.Facts.{to_z-of_z}
use Rattle.thresholds.proofs.TwoBlocks.{side_joined}
use Rattle.thresholds.proofs.Sides.{side_small}
use borrow.Author.Rules.{rules}
use Rattle.thresholds.proofs.combine.side_threshold.Goals as goal

pub both-requires : goal.both-requires
both-requires c =
    let ok = c.requires.0 in (
      side_small _ _ ok c.df_side_from_qindex-a.ensures,
      side_small _ _ ok c.df_side_from_qindex-b.ensures,
    )

pub returns : goal.returns
returns c =
    side_joined
    _
    _
    _
    _
    (to_z-of_z c.ranges.delta)
    c.index.ensures
    c.index-2.ensures
    c.df_side_from_qindex-a.ensures
    c.df_side_from_qindex-b.ensures
    c.both.ensures
