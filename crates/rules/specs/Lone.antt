-- Document 01, "Segment alone": the checks of a lone segment in their order 1, 2, 3, 5, 7, 8.
-- Assumes nothing.
use Rattle.std.specs.Prelude.{Bool, true, false, List, [], ◌∷◌, ℕ, ◌+◌, ◌*◌, ◌-◌, eqb, leb, length}
use Rattle.laws.specs.Choose.{all}
use Rattle.rules.specs.declared.edge.Edge.{Edge}
use Rattle.rules.specs.declared.settings.Lone.{Lone}
use Rattle.rules.specs.declared.refusals.Refusal.TheVariants.{Depth, Size, Length, Setting, Room, Sample}
use Rattle.rules.specs.Refusals.{Answer}
use Rattle.std.specs.declared.result.Result.TheVariants.{Ok, Err}
use Rattle.std.specs.declared.result.Result.{Result}
use Rattle.rules.specs.declared.refusals.Refusal.{Refusal}
use Rattle.std.specs.declared.option.Option.{Option}
use Rattle.rules.specs.Numbers.{depth_ok, top_of, in_range}
use Rattle.rules.specs.Refusals.{or_else, unless, found, settle, over_box}
use Rattle.rules.specs.Lengths.{reach_before, reach_after}
use Rattle.rules.specs.Segment.{ranges_ok, has_room, none_kept, width_at, segment_of}
use Rattle.rules.specs.Counts.{stored_at, changed_at}

unfoldable pub edge_of : Lone → Edge
edge_of s = record { x = s.x; y = s.y; dir = s.dir; pair = s.pair; q = s.q; side = s.side }

-- "columns and rows 1..4096, stride columns..8192"
unfoldable pub sizes_ok : Lone → Bool
sizes_ok s = all (in_range 1 4096 s.columns ∷ in_range 1 4096 s.rows ∷ in_range s.columns 8192 s.stride ∷ [])

-- the segment's own numbers are within document 01's ranges
unfoldable pub settings_ok : Lone → Bool
settings_ok s = ranges_ok (edge_of s)

-- "for a segment, at its reach on four lines", row by row over the plane
abbrev pub over_reach : Bool → ℕ → ℕ → List ℕ → ℕ → ℕ → ℕ → ℕ → Option ℕ
over_reach true top stride l x y b a = over_box top l (y * stride + (x - b)) stride (b + a) 4
over_reach false top stride l x y b a = over_box top l ((y - b) * stride + x) stride 4 (b + a)

unfoldable pub over_edge : ℕ → ℕ → Edge → List ℕ → Option ℕ
over_edge top stride e l = over_reach (eqb e.dir 0) top stride l e.x e.y (reach_before e.pair) (reach_after e.pair)

unfoldable pub lone_check : Lone → List ℕ → Answer
lone_check s l =
    or_else (unless (depth_ok s.depth) Depth)
    (or_else (unless (sizes_ok s) Size)
    (or_else (unless (leb (s.rows * s.stride) (length l)) Length)
    (or_else (unless (settings_ok s) Setting)
    (or_else (unless (has_room s.columns s.rows (edge_of s)) (Room 0))
    (found (over_edge (top_of s.depth) s.stride (edge_of s) l) Sample)))))

-- the plane afterwards; a lone segment takes no marks, so that ticket 7 leaves it as it was
unfoldable pub lone_plane : Lone → List ℕ → List ℕ
lone_plane s l = settle (lone_check s l) l (segment_of (top_of s.depth) s.stride none_kept (edge_of s) l)

-- "Answer: the width, or the refusal."
unfoldable pub answer_width : Answer → ℕ → Result ℕ Refusal
answer_width (Ok tt) w = Ok w
answer_width (Err r) w = Err r

unfoldable pub lone_width : Lone → List ℕ → Result ℕ Refusal
lone_width s l = answer_width (lone_check s l) (width_at s.stride (edge_of s) l)

-- document 02, ticket 4: stored and changed samples; "A refusal reports zero for both."
unfoldable pub lone_stored : Lone → List ℕ → ℕ
lone_stored s l = settle (lone_check s l) 0 (stored_at (top_of s.depth) s.stride none_kept (edge_of s) l)

unfoldable pub lone_changed : Lone → List ℕ → ℕ
lone_changed s l = settle (lone_check s l) 0 (changed_at (top_of s.depth) s.stride none_kept (edge_of s) l)
