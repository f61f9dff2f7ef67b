-- Keep marks of a plane: its run by any test that agrees with them on its samples, so by those that a run is handed; and that kept samples stay as they were.
-- Assumes nothing.
use mathlib.Core.Path.{◌≡◌, ◌∙◌}
use mathlib.Core.Bool.{Bool, true}
use mathlib.Core.List.{List}
use Prim.Native.Nat.{ℕ, ◌*◌, ◌/◌, ◌%◌, ◌<◌}
use lib.ListN.{length, get_or, take}
use Rattle.laws.specs.Lists.{Each}
use Rattle.rules.specs.declared.edge.Edge.{Edge}
use Rattle.rules.specs.declared.settings.Plane.{Plane}
use Rattle.std.specs.declared.option.Option.TheVariants.{None}
use Rattle.rules.specs.Numbers.{top_of}
use Rattle.rules.specs.Segment.{kept_in, run_edges}
use Rattle.rules.specs.Counts.{stored_by, changed_by}
use Rattle.rules.specs.Plane.{Grid, keeping, kept_by, is_edge, edge_at, index_at, shortened_at, marks_of, indices_of, visit_of, sweep_of, column_of, turn_of, edges_of, run_plane, run_stored, run_changed, bad_cell, bad_keep}
use Rattle.checks.specs.Asked.{Asked}
use Rattle.segment.specs.Fit.{InPlane}
use Rattle.plane_checks.specs.Fit.{bad_of}
use Rattle.plane_checks.proofs.Marks.{none_bad}
use Rattle.kept.proofs.Same.{marks_agree, run_same, stored_same, changed_same, run_holds}
use Rattle.plane.specs.Checked.{Checked, Noted}
use Rattle.rules.specs.declared.counts.Visited.{Visited}
use Rattle.plane.proofs.Everywhere.{edges_inside}

-- ---- the run of a checked plane

module _ (s : Plane) (steps : List ℕ) (g : Grid) (l : List ℕ) (k : Checked s steps g (length l)) (kept : ℕ → Bool)
    (same : (i : ℕ) → i % s.stride < 4 * s.cols → i / s.stride < 4 * s.rows → kept i ≡ kept_by s g i) where
  inside : Each (λ (e : Edge). InPlane s.stride (4 * s.cols) (4 * s.rows) e (length l)) (edges_of s steps g)
  inside = edges_inside s steps g (length l) k

  pub plane_run : run_edges (top_of s.depth) s.stride kept (edges_of s steps g) l ≡ run_plane s steps g l
  unfolding run_plane
  plane_run = run_same (top_of s.depth) s.stride kept (kept_by s g) (4 * s.cols) (4 * s.rows) (length l) same (edges_of s steps g) inside l

  pub plane_stored_holds : stored_by (top_of s.depth) s.stride kept (edges_of s steps g) l ≡ run_stored s steps g l
  unfolding run_stored
  plane_stored_holds = stored_same (top_of s.depth) s.stride kept (kept_by s g) (4 * s.cols) (4 * s.rows) (length l) same (edges_of s steps g) inside l

  pub plane_changed_holds : changed_by (top_of s.depth) s.stride kept (edges_of s steps g) l ≡ run_changed s steps g l
  unfolding run_changed
  plane_changed_holds = changed_same (top_of s.depth) s.stride kept (kept_by s g) (4 * s.cols) (4 * s.rows) (length l) same (edges_of s steps g) inside l

-- the marks that were asked for are enough
module _ {s : Plane} {steps : List ℕ} (v h w t q ts ks : List ℕ) {n : ℕ} where
  pub noted_asked : (a b : List ℕ) {x : Visited} {m c : List ℕ} → Checked s steps (keeping v h w t q ts ks) (length a) → Asked (s.rows * s.cols) ks n
      → Noted s steps (keeping v h w t q ts (take n ks)) a b x m c → Noted s steps (keeping v h w t q ts ks) a b x m c
  unfolding run_plane run_stored run_changed edges_of turn_of column_of sweep_of visit_of is_edge edge_at index_at shortened_at marks_of indices_of
  noted_asked a b k asked run =
      let same = marks_agree s.cols s.rows s.stride ks (take n ks) asked.same in
      record {
        plane = run.plane ∙ plane_run s steps (keeping v h w t q ts ks) a k (kept_in s.cols s.stride (take n ks)) same;
        buffer = run.buffer;
        visited = run.visited;
        stored = run.stored ∙ plane_stored_holds s steps (keeping v h w t q ts ks) a k (kept_in s.cols s.stride (take n ks)) same;
        changed = run.changed ∙ plane_changed_holds s steps (keeping v h w t q ts ks) a k (kept_in s.cols s.stride (take n ks)) same;
      }

-- every mark of a checked plane is 0 or 1
pub marks_good : {s : Plane} {steps : List ℕ} {g : Grid} {n : ℕ} → Checked s steps g n → bad_keep (s.rows * s.cols) g.keep ≡ None
unfolding bad_cell bad_of
marks_good {s} {g = g} k = none_bad (s.rows * s.cols) g k.cells

-- a kept sample is as it was
pub plane_holds : (s : Plane) (steps : List ℕ) (g : Grid) (l : List ℕ) (i : ℕ) → kept_by s g i ≡ true → get_or (run_plane s steps g l) i 0 ≡ get_or l i 0
unfolding run_plane
plane_holds s steps g l i h = run_holds (top_of s.depth) s.stride (kept_by s g) (edges_of s steps g) l i h
