-- An accepted frame's filtered planes are accepted planes, each with its own settings and the grid that was built, and the frame leaves what the plane's run leaves.
-- Assumes nothing.
use mathlib.Core.Path.{◌≡◌, refl, sym, ap, ◌∙◌}
use mathlib.Core.Bool.{Bool, true, false}
use mathlib.Core.List.{List}
use Prim.Native.Nat.{ℕ, ◌*◌, ◌≤◌}
use lib.ListN.{length}
use Rattle.laws.specs.Choose.{pick}
use Rattle.rules.specs.declared.settings.Frame.{Frame}
use Rattle.rules.specs.declared.settings.Plane.{Plane}
use Rattle.rules.specs.declared.refusals.Refusal.TheVariants.{Sample}
use Rattle.std.specs.declared.result.Result.TheVariants.{Ok}
use Rattle.rules.specs.Refusals.{found, settle}
use Rattle.std.specs.declared.option.Option.TheVariants.{None}
use Rattle.rules.specs.Plane.{Grid, tiles_check, bad_keep, over_plane, run_plane, plane_check, plane_after}
use Rattle.rules.specs.TuGrid.{marks}
use Rattle.rules.specs.Frame.{Given, Lent, luma_plane, chroma_plane, chroma_on, built_grid, built_grids, frame_samples, frame_late, run_frame, frame_of}
use Rattle.checks.proofs.Checks.{else_parts, found_nothing, only_part}
use Rattle.frame_checks.specs.Settings.{kind_on, plane_of, tu_of, q_of}
use Rattle.frame_planes.specs.Fit.{Sampled, Buildable}
use Rattle.frame.specs.Fit.{Gridded}
use Rattle.frame.proofs.Given.{luma_sampled, u_sampled, v_sampled, luma_stepped, chroma_stepped, luma_starts, chroma_starts, luma_marks, chroma_marks, luma_built, chroma_built}
use Rattle.frame.proofs.Grids.{gridded}
use Rattle.frame.proofs.Accepted.{plane_accepted}
use Rattle.frame.proofs.Ways.{luma_room, chroma_room}
use Rattle.frame_promises.proofs.Theorems.{ran}
use Rattle.frame_promises.proofs.Answers.{early_of, answer_is}
use Rattle.frame_promises.proofs.Lengths.{tx_lengths, q_length}

-- ---- one plane by a good grid

-- the grid that is built
built_gridded : (f : Frame) (chroma : Bool) {ls ks : List ℕ} (sbq : List ℕ) (g : Grid) {size count : ℕ} → Sampled f chroma size → Buildable f chroma ls ks count (length g.vedge) (length g.hedge) (length g.sqw) (length g.sqh) (length g.qindex)
    → kind_on f chroma ≡ true → tiles_check (plane_of f chroma).cols g.tiles ≡ Ok tt
    → ((plane_of f chroma).rows * (plane_of f chroma).cols ≤ length g.keep) × (bad_keep ((plane_of f chroma).rows * (plane_of f chroma).cols) g.keep ≡ None) → Gridded f chroma (built_grid (tu_of f chroma) (q_of f chroma) ls ks sbq g) size
unfolding built_grid pick
built_gridded f chroma {ls} {ks} sbq g sampled b on starts kept =
    let m = tx_lengths (tu_of f chroma) ls ks (marks g.vedge g.hedge g.sqw g.sqh) in
    gridded sbq g g.tiles g.keep sampled b m.0 m.1 m.2 m.3 (q_length (q_of f chroma) sbq g.qindex) on starts kept (rw on)

-- ---- an accepted frame

module _ (f : Frame) (n : Given) (l : Lent) (ok : (frame_of f n l).answer ≡ Ok tt) where
  early : early_of f n l ≡ Ok tt
  early = (else_parts _ _ (sym (answer_is f n l) ∙ ok)).0

  late : frame_late f (built_grids f n l.grids) l.planes ≡ Ok tt
  late = (else_parts _ _ (sym (answer_is f n l) ∙ ok)).1

  samples : frame_samples f l.planes ≡ Ok tt
  unfolding frame_late
  samples = (else_parts _ _ late).1

  pub luma_accepted : plane_check (luma_plane f) n.steps (built_grids f n l.grids).luma l.planes.y ≡ Ok tt
  unfolding built_grids frame_samples
  luma_accepted =
      plane_accepted f false n.steps _ l.planes.y
      (built_gridded f false n.sbq l.grids.luma (luma_sampled _ _ _ _ _ _ _ early) (luma_built _ _ _ _ _ _ _ early) refl (luma_starts _ _ _ _ _ _ _ early) (luma_marks _ _ _ _ _ _ _ early))
      (luma_stepped _ _ _ _ _ _ _ early)
      (luma_room f _ _ l.planes refl late)
      (found_nothing _ Sample (else_parts _ _ samples).0)

  module _ (on : chroma_on f ≡ true) where
    chroma_grid : (built_grids f n l.grids).chroma ≡ built_grid (tu_of f true) (q_of f true) n.chroma_leaves n.skips n.sbq l.grids.chroma
    unfolding built_grids pick
    chroma_grid = rw on

    both_samples : (found (over_plane (chroma_plane f) l.planes.u) Sample ≡ Ok tt) × (found (over_plane (chroma_plane f) l.planes.v) Sample ≡ Ok tt)
    unfolding frame_samples
    both_samples = else_parts _ _ (only_part _ _ (else_parts _ _ samples).1 on)

    pub u_accepted : plane_check (chroma_plane f) n.steps (built_grids f n l.grids).chroma l.planes.u ≡ Ok tt
    u_accepted =
        plane_accepted f true n.steps _ l.planes.u
        (rw chroma_grid (built_gridded f true n.sbq l.grids.chroma (u_sampled _ _ _ _ _ _ _ early on) (chroma_built _ _ _ _ _ _ _ early on) on (chroma_starts _ _ _ _ _ _ _ early on) (chroma_marks _ _ _ _ _ _ _ early on)))
        (chroma_stepped _ _ _ _ _ _ _ early)
        (chroma_room f (built_grids f n l.grids).luma _ l.planes refl late on)
        (found_nothing _ Sample both_samples.0)

    pub v_accepted : plane_check (chroma_plane f) n.steps (built_grids f n l.grids).chroma l.planes.v ≡ Ok tt
    v_accepted =
        plane_accepted f true n.steps _ l.planes.v
        (rw chroma_grid (built_gridded f true n.sbq l.grids.chroma (v_sampled _ _ _ _ _ _ _ early on) (chroma_built _ _ _ _ _ _ _ early on) on (chroma_starts _ _ _ _ _ _ _ early on) (chroma_marks _ _ _ _ _ _ _ early on)))
        (chroma_stepped _ _ _ _ _ _ _ early)
        (chroma_room f (built_grids f n l.grids).luma _ l.planes refl late on)
        (found_nothing _ Sample both_samples.1)

  -- ---- and its planes afterwards are those planes afterwards

  afterwards : (frame_of f n l).lists.planes ≡ run_frame f n.steps (built_grids f n l.grids) l.planes
  afterwards = rw (ran f n l early late)

  plane_after_holds : (s : Plane) (g : Grid) (p : List ℕ) → plane_check s n.steps g p ≡ Ok tt → plane_after s n.steps g p ≡ run_plane s n.steps g p
  unfolding plane_after settle
  plane_after_holds s g p e = rw e

  pub luma_after : (frame_of f n l).lists.planes.y ≡ plane_after (luma_plane f) n.steps (built_grids f n l.grids).luma l.planes.y
  unfolding run_frame
  luma_after = rw afterwards (sym (plane_after_holds _ _ _ luma_accepted))

  pub u_after : chroma_on f ≡ true → (frame_of f n l).lists.planes.u ≡ plane_after (chroma_plane f) n.steps (built_grids f n l.grids).chroma l.planes.u
  unfolding run_frame pick
  u_after on = rw (afterwards, on) (sym (plane_after_holds _ _ _ (u_accepted on)))

  pub v_after : chroma_on f ≡ true → (frame_of f n l).lists.planes.v ≡ plane_after (chroma_plane f) n.steps (built_grids f n l.grids).chroma l.planes.v
  unfolding run_frame pick
  v_after on = rw (afterwards, on) (sym (plane_after_holds _ _ _ (v_accepted on)))
