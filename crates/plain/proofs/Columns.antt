-- The vertical edges columns outer in place of rows outer: edges of one row keep their order, and those of two rows are free of each other, so
-- this order gives the plain order's plane and counts too. Assumes nothing.
use mathlib.Core.Path.{◌≡◌}
use mathlib.Core.List.{List, ◌++◌}
use Prim.Native.Nat.{ℕ}
use Rattle.laws.specs.Loops.{each}
use Rattle.laws.specs.Lists.{pairs_turn}
use Rattle.laws.specs.Trace.{Same, and_then, suffix, same_eq}
use Rattle.laws.proofs.Schedules.{transpose}
use Rattle.rules.specs.declared.edge.Edge.{Edge}
use Rattle.rules.specs.declared.settings.Plane.{Plane}
use Rattle.std.specs.declared.result.Result.TheVariants.{Ok}
use Rattle.rules.specs.Numbers.{top_of}
use Rattle.rules.specs.Segment.{run_edges}
use Rattle.rules.specs.Counts.{stored_by, changed_by}
use Rattle.rules.specs.Plane.{Grid, kept_by, edges_of, run_plane, run_stored, run_changed, plane_check}
use Rattle.segment.specs.Boxes.{Free}
use Rattle.segment.proofs.Local.{free_turn}
use Rattle.plane.proofs.Accepting.{checked}
use Rattle.orders.specs.Walks.{plain_of}
use Rattle.orders.proofs.Sweeps.{vert, horz, plain_walk}
use Rattle.orders.proofs.Plain.{rows_apart, edges_plain, same_run, same_stored, same_changed}

module _ (s : Plane) (steps : List ℕ) (g : Grid) where
  -- all vertical edges, columns in order, then all horizontal edges, columns in order
  abbrev pub columns_outer : List Edge
  columns_outer =
      each s.cols (λ c. each s.rows (λ r. vert s steps g r c))
      ++ each s.cols (λ c. each s.rows (λ r. horz s steps g r c))

  pub columns_plain : Same Free (plain_of s steps g) columns_outer
  columns_plain =
      and_then (same_eq (plain_walk s steps g))
      (suffix (each s.cols (λ c. each s.rows (λ r. horz s steps g r c)))
      (transpose free_turn (λ r c. vert s steps g r c) s.rows s.cols
      (λ a b i j l k p q. pairs_turn Free Free free_turn (vert s steps g a j) (vert s steps g b i) (rows_apart s steps g a j b i l))))

  -- of an accepted plane l: its plane and counts
  module _ (l : List ℕ) (ok : plane_check s steps g l ≡ Ok tt) where
    edges_columns : Same Free (edges_of s steps g) columns_outer
    edges_columns = and_then (edges_plain s steps g (checked s steps g l ok).sizes_ok) columns_plain

    pub columns_run : run_plane s steps g l ≡ run_edges (top_of s.depth) s.stride (kept_by s g) columns_outer l
    columns_run = same_run s steps g l ok edges_columns

    pub columns_stored : run_stored s steps g l ≡ stored_by (top_of s.depth) s.stride (kept_by s g) columns_outer l
    columns_stored = same_stored s steps g l ok edges_columns

    pub columns_changed : run_changed s steps g l ≡ changed_by (top_of s.depth) s.stride (kept_by s g) columns_outer l
    columns_changed = same_changed s steps g l ok edges_columns
