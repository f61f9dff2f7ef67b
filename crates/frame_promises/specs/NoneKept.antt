-- Ticket 7 of a frame: its keep marks as lent and its checks, planes and counts as they were before cells could be kept.
-- Assumes nothing.
use Rattle.std.specs.Prelude.{◌≡◌, Bool, true, List, [], ◌∷◌, ℕ, ◌+◌, ◌*◌, ◌≤◌, ◌<◌, leb, length, get_or}
use Rattle.laws.specs.Choose.{pick, both, all}
use Rattle.rules.specs.declared.settings.Frame.{Frame}
use Rattle.rules.specs.declared.settings.Plane.{Plane}
use Rattle.rules.specs.declared.lent.GridLengths.{GridLengths}
use Rattle.rules.specs.declared.lent.FrameLengths.{FrameLengths}
use Rattle.rules.specs.declared.refusals.Refusal.TheVariants.{Depth, Length}
use Rattle.rules.specs.Refusals.{Answer}
use Rattle.rules.specs.Numbers.{depth_ok, top_of}
use Rattle.rules.specs.Refusals.{or_else, unless, only_if, settle}
use Rattle.rules.specs.Plane.{Grid, edges_of}
use Rattle.rules.specs.Frame.{Planes, Grids, Given, Lent, Done, planes, grids, lent, lengths_of, finish, or_done, luma_plane, chroma_plane, chroma_on, samples_long, given_long, frame_sizes, frame_given, frame_late, built_grids}
use Rattle.promises.specs.NoneKept.{unmarked, run_before, stored_before, changed_before}

-- the lent lists without their keep marks
abbrev pub bare : Lent → Lent
bare l = lent l.planes (grids (unmarked l.grids.luma) (unmarked l.grids.chroma))

-- "a frame .. never writes them": both lists of keep marks afterwards, in m
abbrev pub MarksAsLent : Lent → Lent → Type 0
MarksAsLent l m = (m.grids.luma.keep ≡ l.grids.luma.keep) × (m.grids.chroma.keep ≡ l.grids.chroma.keep)

-- ---- which keep marks are lent

-- a mark for each cell of a plane, none of them above top: 1 of good marks, 0 where no cell is kept
pub record KeepUpTo (top : ℕ) (s : Plane) (keep : List ℕ) : Type 0 where
  pub long : s.rows * s.cols ≤ length keep
  pub small : (k : ℕ) → k < s.rows * s.cols → get_or keep k 0 ≤ top

-- luma's, and chroma's where it is filtered
pub record FrameKeepUpTo (top : ℕ) (f : Frame) (l : Lent) : Type 0 where
  pub luma : KeepUpTo top (luma_plane f) l.grids.luma.keep
  pub chroma : chroma_on f ≡ true → KeepUpTo top (chroma_plane f) l.grids.chroma.keep

-- ---- the checks before the grids are built, without keep marks

unfoldable pub grid_long_before : Plane → GridLengths → Bool
grid_long_before s g =
    all
    (leb (s.rows * s.cols) g.vedge
    ∷ leb (s.rows * s.cols) g.hedge
    ∷ leb (s.rows * s.cols) g.sqw
    ∷ leb (s.rows * s.cols) g.sqh
    ∷ leb (s.rows * s.cols) g.qindex
    ∷ [])

unfoldable pub lengths_before : Frame → FrameLengths → Answer
lengths_before f k =
    or_else (unless (both (samples_long (luma_plane f) k.y) (grid_long_before (luma_plane f) k.luma)) Length)
    (or_else (only_if (chroma_on f) (unless (all (samples_long (chroma_plane f) k.u ∷ samples_long (chroma_plane f) k.v ∷ grid_long_before (chroma_plane f) k.chroma ∷ [])) Length))
    (unless (given_long f k) Length))

-- order 1, 2, 3, 4, 5, 9
unfoldable pub early_before : Frame → Given → Lent → Answer
early_before f n l =
    or_else (or_else (unless (depth_ok f.depth) Depth) (or_else (frame_sizes f) (lengths_before f (lengths_of n l))))
    (frame_given f l.grids.luma.tiles l.grids.chroma.tiles n)

-- ---- the run: every store of every edge

abbrev pub plane_before : Plane → List ℕ → Grid → List ℕ → List ℕ
plane_before s steps g l = run_before (top_of s.depth) s.stride (edges_of s steps g) l

abbrev pub plane_stored_before : Plane → List ℕ → Grid → List ℕ → ℕ
plane_stored_before s steps g l = stored_before (top_of s.depth) s.stride (edges_of s steps g) l

abbrev pub plane_changed_before : Plane → List ℕ → Grid → List ℕ → ℕ
plane_changed_before s steps g l = changed_before (top_of s.depth) s.stride (edges_of s steps g) l

unfoldable pub planes_before : Frame → List ℕ → Grids → Planes → Planes
planes_before f steps g p =
    planes (plane_before (luma_plane f) steps g.luma p.y)
    (pick (chroma_on f) (plane_before (chroma_plane f) steps g.chroma p.u) p.u)
    (pick (chroma_on f) (plane_before (chroma_plane f) steps g.chroma p.v) p.v)

unfoldable pub sum_stored_before : Frame → List ℕ → Grids → Planes → ℕ
sum_stored_before f steps g p =
    plane_stored_before (luma_plane f) steps g.luma p.y
    + pick (chroma_on f) (plane_stored_before (chroma_plane f) steps g.chroma p.u) 0
    + pick (chroma_on f) (plane_stored_before (chroma_plane f) steps g.chroma p.v) 0

unfoldable pub sum_changed_before : Frame → List ℕ → Grids → Planes → ℕ
sum_changed_before f steps g p =
    plane_changed_before (luma_plane f) steps g.luma p.y
    + pick (chroma_on f) (plane_changed_before (chroma_plane f) steps g.chroma p.u) 0
    + pick (chroma_on f) (plane_changed_before (chroma_plane f) steps g.chroma p.v) 0

-- ---- the whole frame, of lists without keep marks: the answer with every list afterwards, and both counts

unfoldable pub frame_before : Frame → Given → Lent → Done
frame_before f n l =
    let g = built_grids f n l.grids in
    or_done (early_before f n l) l (finish (frame_late f g l.planes) g l.planes (planes_before f n.steps g l.planes))

unfoldable pub frame_stored_before : Frame → Given → Lent → ℕ
frame_stored_before f n l = settle (frame_before f n l).answer 0 (sum_stored_before f n.steps (built_grids f n l.grids) l.planes)

unfoldable pub frame_changed_before : Frame → Given → Lent → ℕ
frame_changed_before f n l = settle (frame_before f n l).answer 0 (sum_changed_before f n.steps (built_grids f n l.grids) l.planes)
