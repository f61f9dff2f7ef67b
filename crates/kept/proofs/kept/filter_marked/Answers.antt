-- An empty list keeps nothing; else either direction. Assumes nothing.
use Rattle.segment.proofs.Edges.{place_vertical, place_horizontal}
use Rattle.kept.proofs.Swept.{edge_open, empty_open}
use Rattle.kept.proofs.kept.filter_marked.Goals as goal

pub returns-then-keep-eq0 : goal.returns-then-keep-eq0
returns-then-keep-eq0 c = edge_open _ c.requires.0 (λ k t. empty_open _ _ _ c.if-keep-eq0.true k) c.filter_edge.ensures

pub filter_kept-requires : goal.filter_kept-requires
filter_kept-requires c =
    let start = c in
    (record { columns = start.args.columns; rows = start.args.rows; in_plane = start.requires.0 }, start.requires.1, place_vertical _ _ c.if-e-eq0.true)

pub filter_kept-requires-2 : goal.filter_kept-requires-2
filter_kept-requires-2 c =
    let start = c in
    (record { columns = start.args.columns; rows = start.args.rows; in_plane = start.requires.0 }, start.requires.1, place_horizontal _ _ c.if-e-eq0.false)
