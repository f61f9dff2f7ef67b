-- Nothing by a threshold of 0; as any edge where none of its cells is kept; else sample by sample. Assumes nothing.
use mathlib.Core.Path.{refl, ◌∙◌}
use native.Mathlib.Omega.{arith}
use Rattle.segment.proofs.Edges.{fit_of, at_below, edge_filtered}
use Rattle.segment.proofs.Zero.{edge_none, edge_lit}
use Rattle.kept.proofs.Marked.{edge_fits, stride_some}
use Rattle.kept.proofs.Swept.{edge_open}
use Rattle.kept.proofs.kept.filter_kept.Goals as goal

pub returns-then-off : goal.returns-then-off
returns-then-off c = edge_none _ _ c.off.ensures _ _ _ c.if-off.true

pub place-p-requires : goal.place-p-requires
place-p-requires c = omega (arith, at_below c.requires.0.in_plane)

pub all_open-requires : goal.all_open-requires
all_open-requires c = edge_fits c.requires.0.in_plane c.requires.1 (omega arith)

pub filter_segment-requires : goal.filter_segment-requires
filter_segment-requires c =
    let given = c.requires in
    let here = c.place-p.ensures ∙ given.2 in
    (fit_of given.0.in_plane here, edge_lit _ _ c.off.ensures here c.if-off.false)

pub returns-then-all_open : goal.returns-then-all_open
returns-then-all_open c =
    let given = c.requires in
    let here = c.place-p.ensures ∙ given.2 in
    let free = c.all_open.ensures _ _ _ _ given.0.in_plane c.if-all_open.true in
    edge_open _ given.0.in_plane free.none (edge_filtered _ _ _ _ here (c.filter_segment.ensures.0 refl))

pub invariant_of-segment_open : goal.invariant_of-segment_open
invariant_of-segment_open c = record { stride_some = stride_some c.requires.0.in_plane; row = c.requires.1 }

pub segment_open-requires : goal.segment_open-requires
segment_open-requires c =
    let given = c.requires in
    let here = c.place-p.ensures ∙ given.2 in
    (fit_of given.0.in_plane here, edge_lit _ _ c.off.ensures here c.if-off.false)

pub returns : goal.returns
returns c = edge_filtered _ _ _ _ (c.place-p.ensures ∙ c.requires.2) c.segment_open.ensures
