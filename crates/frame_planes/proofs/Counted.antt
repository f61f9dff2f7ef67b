-- A plane's counts are small enough to be added, and a frame's are the sums of its planes'.
-- Assumes nothing.
use mathlib.Core.Path.{◌≡◌, refl}
use mathlib.Core.Bool.{Bool, true, false}
use mathlib.Core.List.{List}
use Prim.Native.Nat.{ℕ, ◌+◌, ◌*◌, ◌≤◌}
use native.Mathlib.Nat.{mul-le-mul}
use native.Mathlib.Omega.{arith}
use lib.ListN.{length}
use Rattle.laws.specs.Choose.{pick}
use Rattle.rules.specs.declared.settings.Frame.{Frame}
use Rattle.rules.specs.declared.settings.Plane.{Plane}
use Rattle.rules.specs.declared.counts.Counts.{Counts}
use Rattle.std.specs.declared.result.Result.TheVariants.{Ok}
use Rattle.rules.specs.Refusals.{settle}
use Rattle.rules.specs.Numbers.{top_of}
use Rattle.rules.specs.Plane.{Grid, kept_by, edges_of, run_stored, run_changed, plane_after, plane_stored, plane_changed}
use Rattle.rules.specs.Frame.{planes, grids, run_frame, run_frame_stored, run_frame_changed}
use Rattle.segment.proofs.Counts.{run_stored_holds, run_changed_holds}
use Rattle.plane.specs.Checked.{Checked, Filtered, Stated}
use Rattle.rules.specs.declared.counts.Visited.{Visited}
use Rattle.plane.proofs.Accepting.{checked}
use Rattle.plane.proofs.Everywhere.{edges_inside}
use Rattle.orders.proofs.Once.{edges_most}
use Rattle.frame_checks.specs.Settings.{kind_on, plane_of}
use Rattle.frame_planes.specs.Ran.{Runnable, PlaneRun, FrameRun}
use Rattle.frame_planes.proofs.Parts.{where_on, where_off}

-- ---- a plane

-- 64 samples for each of at most 2·1024·1024 edges
module _ (s : Plane) (steps : List ℕ) (g : Grid) {size : ℕ} (k : Checked s steps g size) (l : List ℕ) where
  stored_few : run_stored s steps g l ≤ 134217728
  unfolding run_stored
  stored_few =
      let z = k.sizes_ok in
      let twice : 2 * s.cols ≤ 2048 = omega (arith, z.cols_most) in
      omega
      (arith, run_stored_holds (top_of s.depth) s.stride (kept_by s g) (4 * s.cols) (4 * s.rows) size (edges_of s steps g) (edges_inside s steps g size k) l, edges_most s steps g z, mul-le-mul twice z.rows_most)

  changed_few : run_changed s steps g l ≤ 134217728
  unfolding run_stored run_changed
  changed_few = omega (arith, stored_few, run_changed_holds (top_of s.depth) s.stride (kept_by s g) (edges_of s steps g) l)

module _ {f : Frame} {chroma : Bool} {steps : List ℕ} {g : Grid} {l : List ℕ} where
  -- one that is not filtered
  pub plane_off : false ≡ kind_on f chroma → PlaneRun f chroma steps g l (record { stored = 0; changed = 0 }) l
  plane_off off = record {
    plane = where_off _ _ off;
    stored = where_off _ _ off;
    changed = where_off _ _ off;
    stored_most = omega arith;
    changed_most = omega arith;
  }

  -- one that is
  pub plane_on : true ≡ kind_on f chroma → Runnable f chroma steps g l → {x : Visited} {m : List ℕ} → Filtered (plane_of f chroma) steps g l x m → PlaneRun f chroma steps g l (record { stored = x.stored; changed = x.changed }) m
  plane_on on k run =
      let c = checked (plane_of f chroma) steps g l k.accepted in
      record {
        plane = where_on _ on run.plane;
        stored = where_on _ on run.stored;
        changed = where_on _ on run.changed;
        stored_most = omega (arith, run.stored, stored_few (plane_of f chroma) steps g c l);
        changed_most = omega (arith, run.changed, changed_few (plane_of f chroma) steps g c l);
      }

  -- one that is, by the plane's entry in the plain order
  pub plane_plain : true ≡ kind_on f chroma → Runnable f chroma steps g l → {a : Counts} {m : List ℕ} → Stated (plane_of f chroma) steps g l (Ok a) m → PlaneRun f chroma steps g l a m
  unfolding plane_after plane_stored plane_changed settle
  plane_plain on k {a} done =
      plane_on on k {x = record { bytes = 5 + 10 * length (edges_of (plane_of f chroma) steps g); stored = a.stored; changed = a.changed }}
      (record { plane = rw k.accepted at done.plane; visited = refl; stored = rw k.accepted at done.stored; changed = rw k.accepted at done.changed })

-- ---- a frame

module _ {f : Frame} {steps : List ℕ} {g h : Grid} {y u v : List ℕ} {a b c : Counts} {i j k : List ℕ} where
  pub frame_run : PlaneRun f false steps g y a i → PlaneRun f true steps h u b j → PlaneRun f true steps h v c k
      → FrameRun f steps (grids g h) (planes y u v) (record { stored = a.stored + b.stored + c.stored; changed = a.changed + b.changed + c.changed }) (planes i j k)
  unfolding run_frame run_frame_stored run_frame_changed pick
  frame_run p q r = record {
    planes = rw (p.plane, q.plane, r.plane);
    stored = rw (p.stored, q.stored, r.stored);
    changed = rw (p.changed, q.changed, r.changed);
  }
