-- Ticket 4's words on an edge's stores, as the widths say them.
-- Assumes nothing.
use Rattle.std.specs.Prelude.{Bool, List, ℕ, ◌+◌, ◌*◌, ◌-◌, leb}
use Rattle.laws.specs.Choose.{pick}
use Rattle.laws.specs.Trace.{total}
use Rattle.rules.specs.declared.edge.Edge.{Edge}
use Rattle.rules.specs.declared.settings.Plane.{Plane}
use Rattle.rules.specs.Numbers.{top_of}
use Rattle.rules.specs.Segment.{width_at, segment_of}
use Rattle.segment.specs.Promises.{narrow_at}

-- "Stored is 4(n+w) for each edge with w at least 1", and 0 for the others; l is the plane as the edge finds it; ticket 7: "4(n+w) becomes an upper bound"
unfoldable pub by_widths : ℕ → Edge → List ℕ → ℕ
by_widths stride e l = pick (leb 1 (width_at stride e l)) (4 * (narrow_at stride e l + width_at stride e l)) 0

-- their sum over edges that run in turn
abbrev pub sum_by_widths : Plane → (ℕ → Bool) → List Edge → List ℕ → ℕ
sum_by_widths s kept es l = total (segment_of (top_of s.depth) s.stride kept) (by_widths s.stride) es l

-- "a plane visits at most 2·mi_cols·mi_rows - mi_cols - mi_rows edges"
abbrev pub most_edges : Plane → ℕ
most_edges s = 2 * s.cols * s.rows - s.cols - s.rows
