-- What the parts of a frame give together: a grid from marks and qindex, and the late checks from those of each plane.
-- Assumes nothing.
use mathlib.Core.Path.{◌≡◌, refl}
use mathlib.Core.Bool.{Bool, true, false}
use mathlib.Core.List.{List}
use Prim.Native.Nat.{ℕ}
use Rattle.laws.specs.Choose.{pick}
use Rattle.rules.specs.declared.settings.Frame.{Frame}
use Rattle.rules.specs.declared.settings.TuGrid.{TuGrid}
use Rattle.rules.specs.declared.settings.QindexGrid.{QindexGrid}
use Rattle.rules.specs.declared.refusals.Refusal.TheVariants.{Room, Sample}
use Rattle.rules.specs.Refusals.{Answer}
use Rattle.std.specs.declared.result.Result.TheVariants.{Ok, Err}
use Rattle.rules.specs.Refusals.{or_else, found, only_if}
use Rattle.rules.specs.Plane.{Grid, keeping, no_room, over_plane}
use Rattle.rules.specs.TuGrid.{marks, tx_grid_of}
use Rattle.rules.specs.QindexGrid.{q_grid_of}
use Rattle.rules.specs.Frame.{Planes, grids, luma_plane, chroma_plane, chroma_on, built_grid, frame_room, frame_samples, frame_late}

-- ---- a grid

-- the grid as its two callees leave it, with its tile starts and keep marks as lent
grid_is : (tu : TuGrid) (qs : QindexGrid) (ls ks sbq v h w t q v' h' w' t' q' ts keep : List ℕ) → marks v' h' w' t' ≡ tx_grid_of tu ls ks (marks v h w t) → q' ≡ q_grid_of qs sbq q → keeping v' h' w' t' q' ts keep ≡ built_grid tu qs ls ks sbq (keeping v h w t q ts keep)
unfolding built_grid
grid_is tu qs ls ks sbq v h w t q v' h' w' t' q' ts keep e f = rw (← e, f)

pub grid_by_holds : {tu tu' : TuGrid} {qs qs' : QindexGrid} (ls ks sbq v h w t q v' h' w' t' q' ts keep : List ℕ) → tu ≡ tu' → qs ≡ qs' → marks v' h' w' t' ≡ tx_grid_of tu ls ks (marks v h w t) → q' ≡ q_grid_of qs sbq q → keeping v' h' w' t' q' ts keep ≡ built_grid tu' qs' ls ks sbq (keeping v h w t q ts keep)
grid_by_holds ls ks sbq v h w t q v' h' w' t' q' ts keep a b e f = rw (← a, ← b) (grid_is _ _ ls ks sbq v h w t q v' h' w' t' q' ts keep e f)

-- where a kind of plane is filtered, and where not
pub where_on : {A : Type 0} {t : Bool} {x a : A} (b : A) → true ≡ t → x ≡ a → x ≡ pick t a b
unfolding pick
where_on b e f = rw (← e) f

pub where_off : {A : Type 0} {t : Bool} (a b : A) → false ≡ t → b ≡ pick t a b
unfolding pick
where_off a b e = rw (← e)

-- ---- the late checks, by their parts

either_kind : (t : Bool) (a b c : Answer) → or_else a (only_if t (or_else b c)) ≡ or_else (only_if true a) (or_else (only_if t b) (only_if t c))
unfolding only_if or_else
either_kind true a b c = refl
either_kind false a b c = refl

pub samples_is : (f : Frame) (p : Planes) → frame_samples f p ≡ or_else (only_if true (found (over_plane (luma_plane f) p.y) Sample)) (or_else (only_if (chroma_on f) (found (over_plane (chroma_plane f) p.u) Sample)) (only_if (chroma_on f) (found (over_plane (chroma_plane f) p.v) Sample)))
unfolding frame_samples
samples_is f p = either_kind (chroma_on f) _ _ _

first_two : (a b c : Answer) → or_else (or_else a b) c ≡ or_else (only_if true a) (or_else b c)
unfolding only_if or_else
first_two (Ok tt) b c = refl
first_two (Err r) b c = refl

pub late_is : (f : Frame) (l c : Grid) (p : Planes) → frame_late f (grids l c) p ≡ or_else (only_if true (found (no_room (luma_plane f) l) Room)) (or_else (only_if (chroma_on f) (found (no_room (chroma_plane f) c) Room)) (frame_samples f p))
unfolding frame_late frame_room
late_is f l c p = first_two _ _ _
