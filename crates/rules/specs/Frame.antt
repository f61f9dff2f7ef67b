-- Document 01, "Frame": the planes of a frame, its grids, its checks in their order, and every lent list afterwards.
-- Assumes nothing.
use Rattle.std.specs.Prelude.{Bool, true, false, List, [], ◌∷◌, ℕ, ◌+◌, ◌*◌, ◌/◌, eqb, leb, length}
use Rattle.laws.specs.Choose.{pick, both, all}
use Rattle.rules.specs.declared.settings.Frame.{Frame}
use Rattle.rules.specs.declared.settings.Plane.{Plane}
use Rattle.rules.specs.declared.settings.TuGrid.{TuGrid}
use Rattle.rules.specs.declared.settings.QindexGrid.{QindexGrid}
use Rattle.rules.specs.declared.lent.GridLengths.{GridLengths}
use Rattle.rules.specs.declared.lent.FrameLengths.{FrameLengths}
use Rattle.rules.specs.declared.refusals.Refusal.TheVariants.{Depth, Size, Length, Steps, Setting, Cell, Room, Sample, Leaf}
use Rattle.rules.specs.Refusals.{Answer}
use Rattle.std.specs.declared.result.Result.TheVariants.{Ok, Err}
use Rattle.rules.specs.Numbers.{depth_ok, in_range, subsampling_ok, delta_ok, down}
use Rattle.rules.specs.Refusals.{or_else, unless, found, only_if, settle}
use Rattle.rules.specs.Thresholds.{steps_check}
use Rattle.rules.specs.Plane.{Grid, keeping, tiles_check, bad_keep, run_plane, run_stored, run_changed, no_room, over_plane}
use Rattle.rules.specs.TuGrid.{Marks, marks, tx_grid_of, cap_ok, fours_ok, bad_leaf}
use Rattle.rules.specs.QindexGrid.{q_grid_of}

-- ---- the lent lists: three planes and two grids are written, but for a grid's tile starts and keep marks; these and five lists more are only read

pub record Planes : Type 0 where
  pub y : List ℕ
  pub u : List ℕ
  pub v : List ℕ

pub record Grids : Type 0 where
  pub luma : Grid
  pub chroma : Grid

pub record Lent : Type 0 where
  pub planes : Planes
  pub grids : Grids

pub record Given : Type 0 where
  pub steps : List ℕ
  pub sbq : List ℕ
  pub leaves : List ℕ
  pub chroma_leaves : List ℕ
  pub skips : List ℕ

abbrev pub planes : List ℕ → List ℕ → List ℕ → Planes
planes y u v = record { y = y; u = u; v = v }

abbrev pub grids : Grid → Grid → Grids
grids l c = record { luma = l; chroma = c }

abbrev pub lent : Planes → Grids → Lent
lent p g = record { planes = p; grids = g }

abbrev pub given : List ℕ → List ℕ → List ℕ → List ℕ → List ℕ → Given
given steps sbq leaves chroma_leaves skips = record { steps = steps; sbq = sbq; leaves = leaves; chroma_leaves = chroma_leaves; skips = skips }

-- how long they are; the step table's length is refusal 4, not 3
abbrev pub grid_lengths : Grid → GridLengths
grid_lengths g = record {
  vedge = length g.vedge;
  hedge = length g.hedge;
  sqw = length g.sqw;
  sqh = length g.sqh;
  qindex = length g.qindex;
  keep = length g.keep;
}

abbrev pub lengths_of : Given → Lent → FrameLengths
lengths_of n l = record {
  y = length l.planes.y;
  u = length l.planes.u;
  v = length l.planes.v;
  luma = grid_lengths l.grids.luma;
  chroma = grid_lengths l.grids.chroma;
  sbq = length n.sbq;
  leaves = length n.leaves;
  chromaleaves = length n.chroma_leaves;
  skips = length n.skips;
}

-- ---- the planes of a frame

-- rounded up to 8; "Cells per plane: plane size rounded up to 8, over 4"
unfoldable pub up_to_eight : ℕ → ℕ
up_to_eight n = (n + 7) / 8 * 8

-- "chroma size is rounded up when halved"
unfoldable pub halved : ℕ → ℕ → ℕ
halved ss n = down ss (n + ss)

-- "sb_cols = ceil(width/64)"
unfoldable pub superblocks : ℕ → ℕ
superblocks n = (n + 63) / 64

unfoldable pub luma_plane : Frame → Plane
luma_plane f = record {
  cols = up_to_eight f.width / 4;
  rows = up_to_eight f.height / 4;
  stride = f.lumastride;
  width = up_to_eight f.width;
  height = up_to_eight f.height;
  sbw = 16;
  sbh = 16;
  chroma = false;
  depth = f.depth;
  deltaq = f.deltay;
  deltaside = f.deltay;
}

-- "Border width: luma rounded up to 8, shifted for chroma." "Superblocks are 16 >> subsampling."
unfoldable pub chroma_plane : Frame → Plane
chroma_plane f = record {
  cols = up_to_eight (halved f.ssx f.width) / 4;
  rows = up_to_eight (halved f.ssy f.height) / 4;
  stride = f.chromastride;
  width = down f.ssx (up_to_eight f.width);
  height = down f.ssy (up_to_eight f.height);
  sbw = down f.ssx 16;
  sbh = down f.ssy 16;
  chroma = true;
  depth = f.depth;
  deltaq = f.deltauv;
  deltaside = f.deltauv;
}

-- the grids' settings; leaves are in luma cells, so luma's grid has no subsampling
unfoldable pub luma_tu : Frame → TuGrid
luma_tu f = record { cols = (luma_plane f).cols; rows = (luma_plane f).rows; ssx = 0; ssy = 0; capw = f.capw; caph = f.caph }

unfoldable pub chroma_tu : Frame → TuGrid
chroma_tu f = record { cols = (chroma_plane f).cols; rows = (chroma_plane f).rows; ssx = f.ssx; ssy = f.ssy; capw = f.ccapw; caph = f.ccaph }

unfoldable pub luma_q : Frame → QindexGrid
luma_q f = record { cols = (luma_plane f).cols; rows = (luma_plane f).rows; ssx = 0; ssy = 0; sbcols = superblocks f.width }

unfoldable pub chroma_q : Frame → QindexGrid
chroma_q f = record { cols = (chroma_plane f).cols; rows = (chroma_plane f).rows; ssx = f.ssx; ssy = f.ssy; sbcols = superblocks f.width }

-- "A frame without chroma, or with chroma_deblock off"
unfoldable pub chroma_on : Frame → Bool
chroma_on f = both f.haschroma f.chromadeblock

-- ---- the grids that are built: marks and indices from the leaves, qindex from the superblocks, tile starts and keep marks as lent

abbrev pub with_q : Marks → List ℕ → List ℕ → List ℕ → Grid
with_q m q ts ks = keeping m.vedge m.hedge m.sqw m.sqh q ts ks

unfoldable pub built_grid : TuGrid → QindexGrid → List ℕ → List ℕ → List ℕ → Grid → Grid
built_grid tu q leaves skips sbq g =
    with_q (tx_grid_of tu leaves skips (marks g.vedge g.hedge g.sqw g.sqh)) (q_grid_of q sbq g.qindex) g.tiles g.keep

unfoldable pub built_grids : Frame → Given → Grids → Grids
built_grids f n g =
    grids (built_grid (luma_tu f) (luma_q f) n.leaves n.skips n.sbq g.luma)
    (pick (chroma_on f) (built_grid (chroma_tu f) (chroma_q f) n.chroma_leaves n.skips n.sbq g.chroma) g.chroma)

-- ---- the checks before the grids are built, luma before chroma within each number

-- a plane's stride
abbrev pub stride_ok : Plane → Bool
stride_ok s = in_range (4 * s.cols) 8192 s.stride

-- "Frame: luma 1..4096 each way; subsampling (0,0), (1,0) or (1,1)"
unfoldable pub frame_sizes : Frame → Answer
frame_sizes f =
    or_else (unless (all (in_range 1 4096 f.width ∷ in_range 1 4096 f.height ∷ subsampling_ok f.ssx f.ssy ∷ stride_ok (luma_plane f) ∷ [])) Size)
    (only_if (chroma_on f) (unless (stride_ok (chroma_plane f)) Size))

-- a plane of n samples, and a grid of its cells, are long enough
abbrev pub samples_long : Plane → ℕ → Bool
samples_long s n = leb (4 * s.rows * s.stride) n

unfoldable pub grid_long : Plane → GridLengths → Bool
grid_long s g =
    all
    (leb (s.rows * s.cols) g.vedge
    ∷ leb (s.rows * s.cols) g.hedge
    ∷ leb (s.rows * s.cols) g.sqw
    ∷ leb (s.rows * s.cols) g.sqh
    ∷ leb (s.rows * s.cols) g.qindex
    ∷ leb (s.rows * s.cols) g.keep
    ∷ [])

unfoldable pub luma_long : Frame → FrameLengths → Bool
luma_long f k = both (samples_long (luma_plane f) k.y) (grid_long (luma_plane f) k.luma)

unfoldable pub chroma_long : Frame → FrameLengths → Bool
chroma_long f k = all (samples_long (chroma_plane f) k.u ∷ samples_long (chroma_plane f) k.v ∷ grid_long (chroma_plane f) k.chroma ∷ [])

-- "at least sb_cols·ceil(height/64) qindex entries"; "Leaf lists have four numbers a leaf."
unfoldable pub given_long : Frame → FrameLengths → Bool
given_long f k =
    all
    (leb (superblocks f.width * superblocks f.height) k.sbq
    ∷ fours_ok k.leaves
    ∷ fours_ok k.chromaleaves
    ∷ fours_ok k.skips
    ∷ [])

unfoldable pub frame_lengths : Frame → FrameLengths → Answer
frame_lengths f k =
    or_else (unless (luma_long f k) Length)
    (or_else (only_if (chroma_on f) (unless (chroma_long f k) Length)) (unless (given_long f k) Length))

-- order 1, 2, 3: what a frame's settings and the lengths of its lists decide
unfoldable pub frame_shape : Frame → FrameLengths → Answer
frame_shape f k = or_else (unless (depth_ok f.depth) Depth) (or_else (frame_sizes f) (frame_lengths f k))

-- deltas and caps of both, also where chroma is not filtered
unfoldable pub frame_settings : Frame → Answer
frame_settings f =
    unless
    (all
    (delta_ok f.deltay
    ∷ cap_ok f.capw
    ∷ cap_ok f.caph
    ∷ delta_ok f.deltauv
    ∷ cap_ok f.ccapw
    ∷ cap_ok f.ccaph
    ∷ []))
    Setting

-- ticket 5: "A frame takes one for luma and, where it filters chroma, one for chroma." "Refusal: 5 also for a bad list."
unfoldable pub frame_tiles : Frame → List ℕ → List ℕ → Answer
frame_tiles f luma chroma = or_else (tiles_check (luma_plane f).cols luma) (only_if (chroma_on f) (tiles_check (chroma_plane f).cols chroma))

-- "for 9, luma, chroma, then skip leaves"
unfoldable pub frame_leaves : Given → Answer
frame_leaves n =
    or_else (found (bad_leaf false n.leaves) Leaf)
    (or_else (found (bad_leaf false n.chroma_leaves) Leaf) (found (bad_leaf true n.skips) Leaf))

-- order 4, 5, 9, with luma's and chroma's tile starts
unfoldable pub frame_given : Frame → List ℕ → List ℕ → Given → Answer
frame_given f luma chroma n = or_else (steps_check n.steps) (or_else (frame_settings f) (or_else (frame_tiles f luma chroma) (frame_leaves n)))

-- ticket 7: "a frame tests its lent marks before it builds", luma's, then chroma's where it is filtered; "Refusal: 6 also for a keep mark other than 0 or 1"
unfoldable pub frame_keep : Frame → List ℕ → List ℕ → Answer
frame_keep f luma chroma =
    or_else (found (bad_keep ((luma_plane f).rows * (luma_plane f).cols) luma) Cell)
    (only_if (chroma_on f) (found (bad_keep ((chroma_plane f).rows * (chroma_plane f).cols) chroma) Cell))

-- order 1, 2, 3, 4, 5, 9, 6, with both lists of tile starts and both of keep marks
unfoldable pub frame_early : Frame → FrameLengths → List ℕ → List ℕ → List ℕ → List ℕ → Given → Answer
frame_early f k luma chroma keep chromaKeep n =
    or_else (frame_shape f k) (or_else (frame_given f luma chroma n) (frame_keep f keep chromaKeep))

-- ---- the checks of the built grids and the planes, 7 and then 8

unfoldable pub frame_room : Frame → Grids → Answer
frame_room f g =
    or_else (found (no_room (luma_plane f) g.luma) Room) (only_if (chroma_on f) (found (no_room (chroma_plane f) g.chroma) Room))

unfoldable pub frame_samples : Frame → Planes → Answer
frame_samples f p =
    or_else (found (over_plane (luma_plane f) p.y) Sample)
    (only_if (chroma_on f) (or_else (found (over_plane (chroma_plane f) p.u) Sample) (found (over_plane (chroma_plane f) p.v) Sample)))

unfoldable pub frame_late : Frame → Grids → Planes → Answer
frame_late f g p = or_else (frame_room f g) (frame_samples f p)

-- ---- the run: "Luma, U, V in that order; the grids hold what was built."

unfoldable pub run_frame : Frame → List ℕ → Grids → Planes → Planes
run_frame f steps g p =
    planes (run_plane (luma_plane f) steps g.luma p.y)
    (pick (chroma_on f) (run_plane (chroma_plane f) steps g.chroma p.u) p.u)
    (pick (chroma_on f) (run_plane (chroma_plane f) steps g.chroma p.v) p.v)

-- document 02, ticket 4: "segment, plane and frame pass sums on", over the planes that are filtered
unfoldable pub run_frame_stored : Frame → List ℕ → Grids → Planes → ℕ
run_frame_stored f steps g p =
    run_stored (luma_plane f) steps g.luma p.y
    + pick (chroma_on f) (run_stored (chroma_plane f) steps g.chroma p.u) 0
    + pick (chroma_on f) (run_stored (chroma_plane f) steps g.chroma p.v) 0

unfoldable pub run_frame_changed : Frame → List ℕ → Grids → Planes → ℕ
run_frame_changed f steps g p =
    run_changed (luma_plane f) steps g.luma p.y
    + pick (chroma_on f) (run_changed (chroma_plane f) steps g.chroma p.u) 0
    + pick (chroma_on f) (run_changed (chroma_plane f) steps g.chroma p.v) 0

-- ---- the answer with every lent list afterwards

pub record Done : Type 0 where
  pub answer : Answer
  pub lists : Lent

abbrev pub done : Answer → Lent → Done
done a l = record { answer = a; lists = l }

-- the late answer a with the grids b built, the planes run only where it is accepted
abbrev pub finish : Answer → Grids → Planes → Planes → Done
finish a b kept new = done a (lent (settle a kept new) b)

unfoldable pub frame_built : Frame → List ℕ → Grids → Planes → Done
frame_built f steps b p = finish (frame_late f b p) b p (run_frame f steps b p)

-- "A refusal leaves all lent memory unchanged, but a frame refused by 7 or 8 has built every grid it uses, chroma's too."
unfoldable pub or_done : Answer → Lent → Done → Done
or_done (Err r) l d = done (Err r) l
or_done (Ok tt) l d = d

unfoldable pub frame_of : Frame → Given → Lent → Done
frame_of f n l =
    or_done (frame_early f (lengths_of n l) l.grids.luma.tiles l.grids.chroma.tiles l.grids.luma.keep l.grids.chroma.keep n) l
    (frame_built f n.steps (built_grids f n l.grids) l.planes)

-- ticket 4: stored and changed samples; "A refusal reports zero for both."
unfoldable pub frame_stored : Frame → Given → Lent → ℕ
frame_stored f n l = settle (frame_of f n l).answer 0 (run_frame_stored f n.steps (built_grids f n l.grids) l.planes)

unfoldable pub frame_changed : Frame → Given → Lent → ℕ
frame_changed f n l = settle (frame_of f n l).answer 0 (run_frame_changed f n.steps (built_grids f n l.grids) l.planes)
