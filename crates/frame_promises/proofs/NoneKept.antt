-- Ticket 7 of a frame: "Without kept cells all answers stay." The answer is that of before whichever cells are kept, as long as each mark is 0 or 1; with every mark 0
-- planes, grids and counts are those of before too. Assumes nothing.
use mathlib.Core.Path.{◌≡◌, refl, sym, ap, ap₂, ◌∙◌}
use mathlib.Core.Bool.{Bool, true, false}
use mathlib.Core.List.{List, [], ◌∷◌, ◌++◌}
use Prim.Native.Nat.{ℕ, ◌+◌, ◌*◌, ◌≤◌, ◌<◌}
use native.Mathlib.Omega.{arith}
use borrow.Author.Tests.{le-leb}
use lib.Dec.{leb}
use lib.ListN.{length, get_or}
use Rattle.laws.specs.Choose.{pick, both, all}
use Rattle.rules.specs.declared.settings.Frame.{Frame}
use Rattle.rules.specs.declared.settings.Plane.{Plane}
use Rattle.rules.specs.declared.refusals.Refusal.TheVariants.{Length, Cell}
use Rattle.rules.specs.Refusals.{Answer}
use Rattle.std.specs.declared.result.Result.TheVariants.{Ok, Err}
use Rattle.std.specs.declared.result.Result.{Result}
use Rattle.rules.specs.declared.counts.Counts.{Counts}
use Rattle.rules.specs.declared.refusals.Refusal.{Refusal}
use Rattle.rules.specs.Refusals.{answered, changed_in, stored_in}
use Rattle.std.specs.declared.option.Option.TheVariants.{None}
use Rattle.rules.specs.Refusals.{or_else, unless, found, only_if, settle, over_top}
use Rattle.rules.specs.Plane.{Grid, bad_keep}
use Rattle.rules.specs.Frame.{Planes, Grids, Given, Lent, planes, grids, lent, finish, grid_lengths, lengths_of, luma_plane, chroma_plane, chroma_tu, chroma_q, chroma_on, built_grid, built_grids, samples_long, grid_long, luma_long, chroma_long, given_long}
use Rattle.rules.specs.Frame.{frame_lengths, frame_shape, frame_given, frame_keep, frame_early, frame_room, frame_late, run_frame, run_frame_stored, run_frame_changed, frame_built, or_done, frame_of, frame_stored, frame_changed}
use Rattle.checks.proofs.First.{all_nothing, over_good}
use Rattle.promises.specs.NoneKept.{unmarked}
use Rattle.promises.proofs.NoneKept.{all_but, room_unmarked, plane_unkept, stored_unkept, changed_unkept}
use Rattle.frame.specs.Stated.{Stated}
use Rattle.frame_promises.specs.NoneKept.{bare, KeepUpTo, FrameKeepUpTo, grid_long_before, lengths_before, early_before, planes_before, sum_stored_before, sum_changed_before, frame_before, frame_stored_before, frame_changed_before}
use Rattle.frame_promises.proofs.Answers.{early_of, answer_by, answer_is}
use Rattle.frame_promises.proofs.Kept.{luma_marks, chroma_marks}
use Rattle.frame_promises.proofs.Planes.{luma_accepted, u_accepted, v_accepted}

-- ---- where a test holds

only_same : (t : Bool) {a b : Answer} → (t ≡ true → a ≡ b) → only_if t a ≡ only_if t b
unfolding only_if
only_same true e = e refl
only_same false e = refl

only_accepted : (t : Bool) → only_if t (Ok tt) ≡ Ok tt
unfolding only_if
only_accepted true = refl
only_accepted false = refl

pick_same : {A : Type 0} (t : Bool) {x y : A} (z : A) → (t ≡ true → x ≡ y) → pick t x z ≡ pick t y z
unfolding pick
pick_same true z e = e refl
pick_same false z e = refl

planes_same : {y u v y' u' v' : List ℕ} → y ≡ y' → u ≡ u' → v ≡ v' → planes y u v ≡ planes y' u' v'
planes_same a b c = rw (a, b, c)

sum_same : {y u v y' u' v' : ℕ} → y ≡ y' → u ≡ u' → v ≡ v' → y + u + v ≡ y' + u' + v'
sum_same a b c = rw (a, b, c)

else_accepted : (a : Answer) → or_else a (Ok tt) ≡ a
unfolding or_else
else_accepted (Ok tt) = refl
else_accepted (Err r) = refl

-- ---- good marks change no answer

grid_before : (s : Plane) (g : Grid) → s.rows * s.cols ≤ length g.keep → grid_long s (grid_lengths g) ≡ grid_long_before s (grid_lengths (unmarked g))
unfolding grid_long grid_long_before
grid_before s g long = rw (le-leb _ _ long) (all_but _)

no_bad : {s : Plane} {keep : List ℕ} → KeepUpTo 1 s keep → bad_keep (s.rows * s.cols) keep ≡ None
unfolding bad_keep
no_bad {s} {keep} m = all_nothing (λ k. over_top 1 keep k) (s.rows * s.cols) (λ k h. sym (over_good 1 keep k (m.small k h)))

-- what is built, without its marks
grids_before : (f : Frame) (n : Given) (l : Lent) → built_grids f n (bare l).grids ≡ grids (unmarked (built_grids f n l.grids).luma) (unmarked (built_grids f n l.grids).chroma)
unfolding built_grids built_grid pick
grids_before f n l = ap (λ (c : Grid). grids (unmarked (built_grids f n l.grids).luma) c) (go (chroma_on f))
  where
    of : Grid → Grid
    of g = built_grid (chroma_tu f) (chroma_q f) n.chroma_leaves n.skips n.sbq g

    go : (t : Bool) → pick t (of (unmarked l.grids.chroma)) (unmarked l.grids.chroma) ≡ unmarked (pick t (of l.grids.chroma) l.grids.chroma)
    go true = refl
    go false = refl

late_before : (f : Frame) (n : Given) (l : Lent) → frame_late f (built_grids f n l.grids) l.planes ≡ frame_late f (built_grids f n (bare l).grids) l.planes
unfolding frame_late frame_room
late_before f n l =
    let g = built_grids f n l.grids in
    rw (grids_before f n l, room_unmarked (luma_plane f) [] g.luma, room_unmarked (chroma_plane f) [] g.chroma)

module _ (f : Frame) (n : Given) (l : Lent) (good : FrameKeepUpTo 1 f l) where
  same_lengths : frame_lengths f (lengths_of n l) ≡ lengths_before f (lengths_of n (bare l))
  unfolding frame_lengths lengths_before luma_long chroma_long given_long
  same_lengths =
      ap₂ or_else
      (ap (λ (b : Bool). unless (both (samples_long (luma_plane f) (length l.planes.y)) b) Length) (grid_before (luma_plane f) l.grids.luma good.luma.long))
      (ap (λ (a : Answer). or_else a (unless (given_long f (lengths_of n l)) Length)) (only_same (chroma_on f) (λ on.
      ap (λ (b : Bool). unless (all (samples_long (chroma_plane f) (length l.planes.u) ∷ samples_long (chroma_plane f) (length l.planes.v) ∷ b ∷ [])) Length)
      (grid_before (chroma_plane f) l.grids.chroma (good.chroma on).long))))

  marks_accepted : frame_keep f l.grids.luma.keep l.grids.chroma.keep ≡ Ok tt
  unfolding frame_keep found or_else
  marks_accepted = rw (no_bad good.luma) (only_same (chroma_on f) (λ on. rw (no_bad (good.chroma on))) ∙ only_accepted (chroma_on f))

  early_before_holds : early_of f n l ≡ early_before f n (bare l)
  unfolding frame_early frame_shape early_before
  early_before_holds = rw (same_lengths, marks_accepted, else_accepted (frame_given f l.grids.luma.tiles l.grids.chroma.tiles n))

  pub answer_before : (frame_of f n l).answer ≡ (frame_before f n (bare l)).answer
  unfolding frame_before
  answer_before = answer_is f n l ∙ ap₂ or_else early_before_holds (late_before f n l) ∙ sym (answer_by (early_before f n (bare l)) (bare l) _)

-- ---- marks of 0

module _ (f : Frame) (n : Given) (l : Lent) (none : FrameKeepUpTo 0 f l) where
  looser : {s : Plane} {keep : List ℕ} → KeepUpTo 0 s keep → KeepUpTo 1 s keep
  looser m = record { long = m.long; small = λ k h. omega (arith, m.small k h) }

  good : FrameKeepUpTo 1 f l
  good = record { luma = looser none.luma; chroma = λ on. looser (none.chroma on) }

  abbrev built : Grids
  built = built_grids f n l.grids

  luma_none : (k : ℕ) → k < (luma_plane f).rows * (luma_plane f).cols → get_or built.luma.keep k 0 ≡ 0
  luma_none k h = rw (luma_marks f n l.grids) (omega (arith, none.luma.small k h))

  chroma_none : chroma_on f ≡ true → (k : ℕ) → k < (chroma_plane f).rows * (chroma_plane f).cols → get_or built.chroma.keep k 0 ≡ 0
  chroma_none on k h = rw (chroma_marks f n l.grids) (omega (arith, (none.chroma on).small k h))

  module _ (ok : (frame_of f n l).answer ≡ Ok tt) where
    planes_before_holds : run_frame f n.steps built l.planes ≡ planes_before f n.steps (built_grids f n (bare l).grids) l.planes
    unfolding run_frame planes_before
    planes_before_holds =
        rw (grids_before f n l)
        (planes_same (plane_unkept _ _ _ _ luma_none (luma_accepted f n l ok))
        (pick_same (chroma_on f) l.planes.u (λ on. plane_unkept _ _ _ _ (chroma_none on) (u_accepted f n l ok on)))
        (pick_same (chroma_on f) l.planes.v (λ on. plane_unkept _ _ _ _ (chroma_none on) (v_accepted f n l ok on))))

    stored_before_holds : run_frame_stored f n.steps built l.planes ≡ sum_stored_before f n.steps (built_grids f n (bare l).grids) l.planes
    unfolding run_frame_stored sum_stored_before
    stored_before_holds =
        rw (grids_before f n l)
        (sum_same (stored_unkept _ _ _ _ luma_none (luma_accepted f n l ok))
        (pick_same (chroma_on f) 0 (λ on. stored_unkept _ _ _ _ (chroma_none on) (u_accepted f n l ok on)))
        (pick_same (chroma_on f) 0 (λ on. stored_unkept _ _ _ _ (chroma_none on) (v_accepted f n l ok on))))

    changed_before_holds : run_frame_changed f n.steps built l.planes ≡ sum_changed_before f n.steps (built_grids f n (bare l).grids) l.planes
    unfolding run_frame_changed sum_changed_before
    changed_before_holds =
        rw (grids_before f n l)
        (sum_same (changed_unkept _ _ _ _ luma_none (luma_accepted f n l ok))
        (pick_same (chroma_on f) 0 (λ on. changed_unkept _ _ _ _ (chroma_none on) (u_accepted f n l ok on)))
        (pick_same (chroma_on f) 0 (λ on. changed_unkept _ _ _ _ (chroma_none on) (v_accepted f n l ok on))))

  -- the lists: as lent, or built and run
  abbrev new : Planes
  new = planes_before f n.steps (built_grids f n (bare l).grids) l.planes

  settled : (a : Answer) → frame_late f built l.planes ≡ a → early_of f n l ≡ Ok tt → settle a l.planes (run_frame f n.steps built l.planes) ≡ settle a l.planes new
  unfolding settle or_else
  settled (Err r) e early = refl
  settled (Ok tt) e early = planes_before_holds (answer_is f n l ∙ rw (early, e))

  lists_by : (a : Answer) → early_of f n l ≡ a → bare (or_done a l (frame_built f n.steps built l.planes)).lists
      ≡ (or_done a (bare l) (finish (frame_late f (built_grids f n (bare l).grids) l.planes) (built_grids f n (bare l).grids) l.planes new)).lists
  unfolding or_done frame_built
  lists_by (Err r) e = refl
  lists_by (Ok tt) e = rw (← late_before f n l) (ap₂ lent (settled (frame_late f built l.planes) refl e) (sym (grids_before f n l)))

  lists_before : bare (frame_of f n l).lists ≡ (frame_before f n (bare l)).lists
  unfolding frame_of frame_before
  lists_before = rw (← early_before_holds f n l good) (lists_by (early_of f n l) refl)

  -- ---- of whatever the entry may answer and leave

  counted : (a : Answer) → (frame_of f n l).answer ≡ a → {x y : ℕ} → ((frame_of f n l).answer ≡ Ok tt → x ≡ y) → settle a 0 x ≡ settle a 0 y
  unfolding settle
  counted (Err r) e h = refl
  counted (Ok tt) e h = h e

  pub stated_unkept : {a : Result Counts Refusal} {m : Lent} → Stated f n l a m
      → (answered a ≡ (frame_before f n (bare l)).answer) × (bare m ≡ (frame_before f n (bare l)).lists) × (stored_in a ≡ frame_stored_before f n (bare l)) × (changed_in a ≡ frame_changed_before f n (bare l))
  unfolding frame_stored frame_changed frame_stored_before frame_changed_before
  stated_unkept done =
      let same = answer_before f n l good in (
        done.answer ∙ same,
        ap bare done.lists ∙ lists_before,
        done.stored ∙ counted (frame_of f n l).answer refl stored_before_holds ∙ ap (λ (a : Answer). settle a 0 (sum_stored_before f n.steps (built_grids f n (bare l).grids) l.planes)) same,
        done.changed ∙ counted (frame_of f n l).answer refl changed_before_holds ∙ ap (λ (a : Answer). settle a 0 (sum_changed_before f n.steps (built_grids f n (bare l).grids) l.planes)) same,
      )
