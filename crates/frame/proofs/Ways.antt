-- A frame at each of its ways out: refused by its early checks, refused by its late ones with its grids built, and run.
-- Assumes nothing.
use mathlib.Core.Path.{◌≡◌, sym, ap, ap₂, ◌∙◌}
use mathlib.Core.Bool.{Bool, true, false}
use mathlib.Core.List.{List}
use Prim.Native.Nat.{ℕ}
use Rattle.laws.specs.Choose.{pick}
use Rattle.rules.specs.declared.settings.Frame.{Frame}
use Rattle.rules.specs.declared.lent.GridLengths.{GridLengths}
use Rattle.rules.specs.declared.refusals.Refusal.{Refusal}
use Rattle.rules.specs.declared.refusals.Refusal.TheVariants.{Room, Sample}
use Rattle.rules.specs.Refusals.{Answer}
use Rattle.std.specs.declared.result.Result.TheVariants.{Ok, Err}
use Rattle.std.specs.declared.result.Result.{Result}
use Rattle.std.specs.declared.option.Option.TheVariants.{None}
use Rattle.rules.specs.declared.counts.Counts.{Counts}
use Rattle.rules.specs.Refusals.{settle}
use Rattle.rules.specs.Plane.{Grid, no_room, over_plane}
use Rattle.rules.specs.Frame.{Planes, Grids, Given, grids, lent, done, grid_lengths, lengths_of, luma_plane, chroma_plane, luma_tu, chroma_tu, luma_q, chroma_q, chroma_on, built_grid, built_grids, frame_early, frame_room, frame_samples, frame_late, frame_built, or_done, frame_of, frame_stored, frame_changed}
use Rattle.checks.proofs.Checks.{else_parts, found_nothing, only_part, settle_refused, settle_accepted}
use Rattle.frame_planes.specs.Ran.{FrameRun}
use Rattle.frame.specs.Fit.{lengths_for}
use Rattle.frame.specs.Stated.{Finished, Stated}

-- ---- room and samples, by the accepted late checks

module _ (f : Frame) (l c : Grid) (p : Planes) {a : Answer} (is : a ≡ frame_late f (grids l c) p) (ok : a ≡ Ok tt) where
  rooms : frame_room f (grids l c) ≡ Ok tt
  unfolding frame_late
  rooms = (else_parts _ _ (sym is ∙ ok)).0

  pub luma_room : no_room (luma_plane f) l ≡ None
  unfolding frame_room
  luma_room = found_nothing _ Room (else_parts _ _ rooms).0

  pub chroma_room : chroma_on f ≡ true → no_room (chroma_plane f) c ≡ None
  unfolding frame_room
  chroma_room on = found_nothing _ Room (only_part _ _ (else_parts _ _ rooms).1 on)

  samples : frame_samples f p ≡ Ok tt
  unfolding frame_late
  samples = (else_parts _ _ (sym is ∙ ok)).1

  pub luma_over : over_plane (luma_plane f) p.y ≡ None
  unfolding frame_samples
  luma_over = found_nothing _ Sample (else_parts _ _ samples).0

  pub chroma_over : chroma_on f ≡ true → (over_plane (chroma_plane f) p.u ≡ None) × (over_plane (chroma_plane f) p.v ≡ None)
  unfolding frame_samples
  chroma_over on =
      let e = else_parts _ _ (only_part _ _ (else_parts _ _ samples).1 on) in
      (found_nothing _ Sample e.0, found_nothing _ Sample e.1)

-- ---- the ways out of a frame whose grids are built

module _ (f : Frame) (steps : List ℕ) (l c : Grid) (p : Planes) {a : Answer} (is : a ≡ frame_late f (grids l c) p) where
  pub late_stop : {r : Refusal} → a ≡ Err r → Finished f steps (grids l c) p (Err r) p
  late_stop e = record {
    answer = sym e ∙ is;
    planes = settle_refused _ _ _ (sym e ∙ is);
    stored = settle_refused _ _ _ (sym e ∙ is);
    changed = settle_refused _ _ _ (sym e ∙ is);
  }

  pub late_run : {x : Counts} {q : Planes} → a ≡ Ok tt → FrameRun f steps (grids l c) p x q → Finished f steps (grids l c) p (Ok x) q
  late_run e run = record {
    answer = sym e ∙ is;
    planes = settle_accepted _ _ _ _ (sym e ∙ is) run.planes;
    stored = settle_accepted _ _ _ _ (sym e ∙ is) run.stored;
    changed = settle_accepted _ _ _ _ (sym e ∙ is) run.changed;
  }

-- ---- the ways out of the entry

module _ (f : Frame) (n : Given) (p : Planes) (l c : Grid) {a : Answer} {x y : GridLengths} (luma_long : x ≡ grid_lengths l) (chroma_long_holds : y ≡ grid_lengths c) (by_lengths : a ≡ frame_early f (lengths_for n p x y) l.tiles c.tiles l.keep c.keep n) where
  is : a ≡ frame_early f (lengths_of n (lent p (grids l c))) l.tiles c.tiles l.keep c.keep n
  is = by_lengths ∙ ap₂ (λ (i j : GridLengths). frame_early f (lengths_for n p i j) l.tiles c.tiles l.keep c.keep n) luma_long chroma_long_holds

  refused_is : {r : Refusal} → a ≡ Err r → frame_of f n (lent p (grids l c)) ≡ done (Err r) (lent p (grids l c))
  unfolding frame_of or_done
  refused_is e = rw (sym is ∙ e)

  pub frame_refused : {r : Refusal} → a ≡ Err r → Stated f n (lent p (grids l c)) (Err r) (lent p (grids l c))
  unfolding frame_stored frame_changed settle
  frame_refused e = let d = refused_is e in record { answer = rw d; lists = rw d; stored = rw d; changed = rw d }

  built_is : a ≡ Ok tt → frame_of f n (lent p (grids l c)) ≡ frame_built f n.steps (built_grids f n (grids l c)) p
  unfolding frame_of or_done
  built_is ok = rw (sym is ∙ ok)

  on_built : {b : Result Counts Refusal} {q : Planes} → a ≡ Ok tt → Finished f n.steps (built_grids f n (grids l c)) p b q → Stated f n (lent p (grids l c)) b (lent q (built_grids f n (grids l c)))
  unfolding frame_built frame_stored frame_changed
  on_built ok z =
      let d = built_is ok in
      record { answer = rw d z.answer; lists = rw d (ap (λ (x : Planes). lent x (built_grids f n (grids l c))) z.planes); stored = rw d z.stored; changed = rw d z.changed }

  built_by : (g : Grids) {b : Result Counts Refusal} {q : Planes} → a ≡ Ok tt → g ≡ built_grids f n (grids l c) → Finished f n.steps g p b q → Stated f n (lent p (grids l c)) b (lent q g)
  built_by g ok e z = rw e (on_built ok (rw e at z))

  -- both grids built, as l' and c'
  pub frame_built_holds : {l' c' : Grid} {b : Result Counts Refusal} {q : Planes} → a ≡ Ok tt → l' ≡ pick true (built_grid (luma_tu f) (luma_q f) n.leaves n.skips n.sbq l) l → c' ≡ pick (chroma_on f) (built_grid (chroma_tu f) (chroma_q f) n.chroma_leaves n.skips n.sbq c) c
      → Finished f n.steps (grids l' c') p b q → Stated f n (lent p (grids l c)) b (lent q (grids l' c'))
  unfolding built_grids pick
  frame_built_holds {l'} {c'} ok luma chroma z = built_by (grids l' c') ok (ap₂ grids luma chroma) z
