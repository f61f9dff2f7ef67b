-- Nothing by a threshold of 0; else the edge by its offsets, in either direction.
use Rattle.std.proofs.Common.{refl, ◌∙◌, arith}
use Rattle.segment.proofs.Edges.{fit_of, at_below, place_vertical, place_horizontal, edge_filtered}
use Rattle.segment.proofs.Zero.{edge_none, edge_lit}
use Rattle.segment.proofs.segment.filter_edge.Goals as goal

pub returns-then-off : goal.returns-then-off
returns-then-off c = edge_none _ _ c.off.ensures _ _ _ c.if-off.true

pub upright-requires : goal.upright-requires
upright-requires c = omega (arith, at_below c.requires)

pub filter_segment-requires : goal.filter_segment-requires
filter_segment-requires c =
    let here = c.upright.ensures ∙ place_vertical _ _ c.if-e-eq0.true in
    (fit_of c.requires here, edge_lit _ _ c.off.ensures here c.if-off.false)

pub returns-then-e-eq0 : goal.returns-then-e-eq0
returns-then-e-eq0 c = edge_filtered _ _ _ _ (c.upright.ensures ∙ place_vertical _ _ c.if-e-eq0.true) (c.filter_segment.ensures.0 refl)

pub level-requires : goal.level-requires
level-requires c = omega (arith, at_below c.requires)

pub filter_segment-requires-2 : goal.filter_segment-requires-2
filter_segment-requires-2 c =
    let here = c.level.ensures ∙ place_horizontal _ _ c.if-e-eq0.false in
    (fit_of c.requires here, edge_lit _ _ c.off.ensures here c.if-off.false)

pub returns : goal.returns
returns c = edge_filtered _ _ _ _ (c.level.ensures ∙ place_horizontal _ _ c.if-e-eq0.false) (c.filter_segment-2.ensures.0 refl)
