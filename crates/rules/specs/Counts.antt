-- Document 02, ticket 4, "How many samples did it touch?": the samples that an edge stores, those of them that differ from before, and the
-- sums over edges that run in turn. Assumes nothing.
use Rattle.std.specs.Prelude.{Bool, List, ℕ, length}
use Rattle.laws.specs.Changes.{changes}
use Rattle.laws.specs.Trace.{total}
use Rattle.rules.specs.declared.edge.Edge.{Edge}
use Rattle.rules.specs.Segment.{open_stores, segment_of}

-- "how many samples were stored": of an edge the number of its stores on a plane l, which is "4(n+w) for each edge with w at least 1";
-- ticket 7: "Ticket 4 counts real stores only, so 4(n+w) becomes an upper bound"
unfoldable pub stored_at : ℕ → ℕ → (ℕ → Bool) → Edge → List ℕ → ℕ
stored_at top stride kept e l = length (open_stores top stride kept e l)

-- "changed is the number of stores in 01's order whose new sample differs from the old": an edge stores no place twice, so the old
-- sample is that of the plane as the edge found it
unfoldable pub changed_at : ℕ → ℕ → (ℕ → Bool) → Edge → List ℕ → ℕ
changed_at top stride kept e l = changes (open_stores top stride kept e l) l

-- "segment, plane and frame pass sums on": of edges in turn, each on what those before it left
unfoldable pub stored_by : ℕ → ℕ → (ℕ → Bool) → List Edge → List ℕ → ℕ
stored_by top stride kept es l = total (segment_of top stride kept) (stored_at top stride kept) es l

unfoldable pub changed_by : ℕ → ℕ → (ℕ → Bool) → List Edge → List ℕ → ℕ
changed_by top stride kept es l = total (segment_of top stride kept) (changed_at top stride kept) es l
