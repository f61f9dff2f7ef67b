-- What the edges of a band tell and leave. Assumes nothing.
use Rattle.std.specs.Prelude.{◌≡◌, List, ℕ}
use Rattle.rules.specs.declared.settings.Plane.{Plane}
use Rattle.rules.specs.Numbers.{top_of}
use Rattle.rules.specs.Segment.{run_edges}
use Rattle.rules.specs.Counts.{stored_by, changed_by}
use Rattle.rules.specs.Plane.{Grid, kept_by}
use Rattle.rules.specs.Rows.{band_of}
use Rattle.rules.specs.declared.counts.Visited.{Visited}

-- of a plane l whose filled rows of cells grow from h to a: v and the plane m
pub record RanBand (s : Plane) (steps : List ℕ) (g : Grid) (h a : ℕ) (l : List ℕ) (v : Visited) (m : List ℕ) : Type 0 where
  pub plane : m ≡ run_edges (top_of s.depth) s.stride (kept_by s g) (band_of s steps g h a) l
  pub stored : v.stored ≡ stored_by (top_of s.depth) s.stride (kept_by s g) (band_of s steps g h a) l
  pub changed : v.changed ≡ changed_by (top_of s.depth) s.stride (kept_by s g) (band_of s steps g h a) l
