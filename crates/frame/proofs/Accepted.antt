-- A plane of a frame is an accepted plane, where its grid is good, its edges have room and no sample is above top.
-- Assumes nothing.
use mathlib.Core.Path.{◌≡◌, refl, sym}
use mathlib.Core.Bool.{Bool, true, false}
use mathlib.Core.List.{List}
use Prim.Native.Nat.{ℕ, zero, suc, ◌*◌, ◌/◌, ◌≤◌}
use native.Mathlib.Omega.{arith}
use borrow.Author.Tests.{le-leb}
use lib.Dec.{eqb}
use lib.ListN.{length}
use Rattle.laws.specs.Choose.{either, both, all_ok, all_none}
use Rattle.rules.specs.declared.settings.Frame.{Frame}
use Rattle.std.specs.declared.result.Result.TheVariants.{Ok}
use Rattle.std.specs.declared.option.Option.TheVariants.{None}
use Rattle.rules.specs.Numbers.{in_range, down}
use Rattle.rules.specs.Thresholds.{deltas_check}
use Rattle.rules.specs.Plane.{Grid, no_room, over_plane, plane_sizes_ok, plane_check}
use Rattle.rules.specs.Frame.{up_to_eight, halved, luma_plane, chroma_plane}
use Rattle.checks.proofs.Checks.{go_on, unless_good, found_good}
use Rattle.frame_checks.specs.Settings.{Sized, plane_of}
use Rattle.frame_checks.proofs.Ranges.{by_shift}
use Rattle.frame_planes.specs.Fit.{Sampled}
use Rattle.frame_planes.specs.Ran.{Runnable}
use Rattle.frame.specs.Fit.{Stepped, Gridded}

-- ---- a plane's sizes

in_range_is : (low high n : ℕ) → low ≤ n → n ≤ high → true ≡ in_range low high n
unfolding in_range both
in_range_is low high n a b = rw (le-leb _ _ a, le-leb _ _ b)

-- the border lies within the cells
luma_border : (n : ℕ) → 1 ≤ n → (1 ≤ up_to_eight n) × (up_to_eight n ≤ 4 * (up_to_eight n / 4))
unfolding up_to_eight
luma_border n h = (omega arith, omega arith)

chroma_border : (ss n : ℕ) → ss ≤ 1 → 1 ≤ n → (1 ≤ down ss (up_to_eight n)) × (down ss (up_to_eight n) ≤ 4 * (up_to_eight (halved ss n) / 4))
unfolding up_to_eight halved down
chroma_border zero n h a = (omega arith, omega arith)
chroma_border (suc k) n h a = let e : suc k ≡ 1 = omega arith in rw e (omega arith, omega arith)

abbrev Block : ℕ → Type 0
Block n = true ≡ either (eqb n 8) (eqb n 16)

borders : (f : Frame) (chroma : Bool) → Sized f → (1 ≤ (plane_of f chroma).width) × ((plane_of f chroma).width ≤ 4 * (plane_of f chroma).cols) × (1 ≤ (plane_of f chroma).height) × ((plane_of f chroma).height ≤ 4 * (plane_of f chroma).rows)
unfolding luma_plane chroma_plane
borders f false z =
    let w = luma_border _ z.some_width in
    let h = luma_border _ z.some_height in
    (w.0, w.1, h.0, h.1)
borders f true z =
    let w = chroma_border _ _ z.ssx_most z.some_width in
    let h = chroma_border _ _ z.ssy_most z.some_height in
    (w.0, w.1, h.0, h.1)

blocks : (f : Frame) (chroma : Bool) → Sized f → Block (plane_of f chroma).sbw × Block (plane_of f chroma).sbh
unfolding luma_plane chroma_plane either
blocks f false z = (refl, refl)
blocks f true z = (by_shift Block _ 16 z.ssx_most refl refl, by_shift Block _ 16 z.ssy_most refl refl)

sizes_ok : (f : Frame) (chroma : Bool) (size : ℕ) → Sampled f chroma size → true ≡ plane_sizes_ok (plane_of f chroma)
unfolding plane_sizes_ok
sizes_ok f chroma size k =
    let s = k.sizes_ok in
    let b = borders f chroma k.sized in
    let c = blocks f chroma k.sized in
    all_ok _ _ _ (in_range_is 1 1024 _ s.some_cols s.cols_most)
    (all_ok _ _ _ (in_range_is 1 1024 _ s.some_rows s.rows_most)
    (all_ok _ _ _ (in_range_is _ 8192 _ s.wide s.stride_most)
    (all_ok _ _ _ (in_range_is 1 _ _ b.0 b.1)
    (all_ok _ _ _ (in_range_is 1 _ _ b.2 b.3)
    (all_ok _ _ _ c.0 (all_ok _ _ _ c.1 all_none))))))

-- ---- one plane by a good grid

pub plane_accepted : (f : Frame) (chroma : Bool) (steps : List ℕ) (g : Grid) (l : List ℕ) → Gridded f chroma g (length l) → Stepped f chroma steps → no_room (plane_of f chroma) g ≡ None → over_plane (plane_of f chroma) l ≡ None → plane_check (plane_of f chroma) steps g l ≡ Ok tt
unfolding plane_check deltas_check both
plane_accepted f chroma steps g l k t room over =
    sym
    (go_on _ _ _ (unless_good _ _ (sym k.sampled.depth))
    (go_on _ _ _ (unless_good _ _ (sizes_ok f chroma (length l) k.sampled))
    (go_on _ _ _ (unless_good _ _ (sym k.lengths))
    (go_on _ _ _ (sym t.steps_ok)
    (go_on _ _ _ (unless_good _ _ (rw (t.deltaq_ok, t.deltaside_ok)))
    (go_on _ _ _ (sym k.tiles_ok)
    (go_on _ _ _ (found_good _ _ (sym k.cells))
    (go_on _ _ _ (found_good _ _ (sym room))
    (found_good _ _ (sym over))))))))))

-- what running it asks
pub runnable : {f : Frame} {chroma : Bool} {g : Grid} {l : List ℕ} → Gridded f chroma g (length l) → {steps : List ℕ} → Stepped f chroma steps → no_room (plane_of f chroma) g ≡ None → over_plane (plane_of f chroma) l ≡ None → Runnable f chroma steps g l
runnable {f} {chroma} {g} {l} k {steps} s room over = record { sized = k.sampled.sized; accepted = plane_accepted f chroma steps g l k s room over }
