-- `q_threshold` joins the q thresholds of the two blocks. Assumes nothing.
use mir.Facts.{to_z-of_z}
use Rattle.thresholds.proofs.TwoBlocks.{q_joined}
use Rattle.thresholds.proofs.Quants.{q_small}
use borrow.Author.Rules.{rules}
use Rattle.thresholds.proofs.combine.q_threshold.Goals as goal

pub both-requires : goal.both-requires
both-requires c =
    let ok = c.requires.0 in
    let good = c.requires.2 in (
      q_small _ _ _ ok good c.df_quant_from_qindex-a.ensures,
      q_small _ _ _ ok good c.df_quant_from_qindex-b.ensures,
    )

pub returns : goal.returns
returns c =
    q_joined
    _
    _
    _
    _
    (to_z-of_z c.ranges.delta)
    c.index.ensures
    c.index-2.ensures
    _
    c.df_quant_from_qindex-a.ensures
    c.df_quant_from_qindex-b.ensures
    c.both.ensures
