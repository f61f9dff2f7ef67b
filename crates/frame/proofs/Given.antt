-- What the accepted early checks of a frame give: all that building its grids and filtering its planes ask.
-- Assumes nothing.
use mathlib.Core.Path.{◌≡◌, refl, sym, ap, ◌∙◌}
use mathlib.Core.Bool.{Bool, true, false}
use mathlib.Core.List.{List, [], ◌∷◌}
use Prim.Native.Nat.{ℕ, ◌+◌, ◌*◌, ◌≤◌, ◌<◌}
use native.Mathlib.Nat.{mul-le-mul}
use native.Mathlib.Omega.{arith}
use borrow.Author.Tests.{leb-true}
use lib.Dec.{leb}
use Rattle.laws.specs.Choose.{both, all, both_parts, all_parts}
use Rattle.rules.specs.declared.settings.Frame.{Frame}
use Rattle.rules.specs.declared.settings.Plane.{Plane}
use Rattle.rules.specs.declared.refusals.Refusal.TheVariants.{Depth, Length, Setting, Cell, Leaf}
use Rattle.std.specs.declared.result.Result.TheVariants.{Ok}
use Rattle.std.specs.declared.option.Option.TheVariants.{None}
use Rattle.rules.specs.Numbers.{depth_ok, delta_ok}
use Rattle.rules.specs.Refusals.{unless, only_if, found}
use Rattle.rules.specs.Thresholds.{steps_check}
use Rattle.rules.specs.declared.lent.GridLengths.{GridLengths}
use Rattle.rules.specs.declared.lent.FrameLengths.{FrameLengths}
use Rattle.rules.specs.Plane.{tiles_check, bad_keep}
use Rattle.rules.specs.TuGrid.{cap_ok, fours_ok}
use Rattle.rules.specs.Frame.{Given, luma_plane, chroma_plane, luma_tu, chroma_tu, luma_q, chroma_q, superblocks, chroma_on, samples_long, grid_long, luma_long, chroma_long, given_long, frame_sizes, frame_lengths, frame_shape, frame_settings, frame_tiles, frame_leaves, frame_given, frame_keep, frame_early}
use Rattle.checks.proofs.Checks.{else_parts, unless_true, found_nothing, only_part}
use Rattle.tiles.specs.Fit.{AllGood}
use Rattle.tiles.proofs.Checked.{by_cap, all_good}
use Rattle.cell_edges.specs.Cells.{Sizes}
use Rattle.frame_checks.specs.Settings.{Sized, plane_of, tu_of, q_of}
use Rattle.rounding.proofs.Within.{superblocks_some, superblocks_most}
use Rattle.frame_checks.proofs.Accepted.{frame_sized, luma_sizes, chroma_sizes}
use Rattle.frame_planes.specs.Fit.{Sampled, Buildable}
use Rattle.frame.specs.Fit.{Stepped}

cap_some : (n : ℕ) → cap_ok n ≡ true → 1 ≤ n
cap_some = by_cap (λ n. 1 ≤ n) (omega arith) (omega arith) (omega arith) (omega arith) (omega arith)

-- ---- a grid's lists and leaves

record Lists (n : ℕ) (g : GridLengths) : Type 0 where
  pub vedge : n ≤ g.vedge
  pub hedge : n ≤ g.hedge
  pub sqw : n ≤ g.sqw
  pub sqh : n ≤ g.sqh
  pub qindex : n ≤ g.qindex
  pub keep : n ≤ g.keep

lists : (s : Plane) (g : GridLengths) → grid_long s g ≡ true → Lists (s.rows * s.cols) g
unfolding grid_long
lists s g e =
    let p1 = all_parts _ _ e in
    let p2 = all_parts _ _ p1.1 in
    let p3 = all_parts _ _ p2.1 in
    let p4 = all_parts _ _ p3.1 in
    let p5 = all_parts _ _ p4.1 in
    let p6 = all_parts _ _ p5.1 in
    record { vedge = leb-true _ _ p1.0; hedge = leb-true _ _ p2.0; sqw = leb-true _ _ p3.0; sqh = leb-true _ _ p4.0; qindex = leb-true _ _ p5.0; keep = leb-true _ _ p6.0 }

module _ (f : Frame) (leaves skips : List ℕ) (count : ℕ) (g : GridLengths) (z : Sized f) (a : AllGood leaves) (b : AllGood skips) (some : 1 ≤ count) where
  luma_buildable : Sizes (luma_plane f) → cap_ok f.capw ≡ true → cap_ok f.caph ≡ true → Lists ((luma_plane f).rows * (luma_plane f).cols) g → Buildable f false leaves skips count g.vedge g.hedge g.sqw g.sqh g.qindex
  unfolding luma_tu luma_q
  luma_buildable s w h l =
      record {
        sized = z;
        fit = record { cols_most = s.cols_most; rows_most = s.rows_most; long_v = l.vedge; long_h = l.hedge; long_w = l.sqw; long_t = l.sqh };
        cut = record { ssx_most = omega arith; ssy_most = omega arith; some_w = cap_some _ w; some_h = cap_some _ h };
        leaves_good = a;
        skips_good = b;
        q_fit = record { cols_most = s.cols_most; rows_most = s.rows_most; ssx_most = omega arith; ssy_most = omega arith; sbcols_most = omega (arith, superblocks_most f.width z.width_most); some = some; long = l.qindex };
      }

  chroma_buildable : Sizes (chroma_plane f) → cap_ok f.ccapw ≡ true → cap_ok f.ccaph ≡ true → Lists ((chroma_plane f).rows * (chroma_plane f).cols) g → Buildable f true leaves skips count g.vedge g.hedge g.sqw g.sqh g.qindex
  unfolding chroma_tu chroma_q
  chroma_buildable s w h l =
      record {
        sized = z;
        fit = record { cols_most = s.cols_most; rows_most = s.rows_most; long_v = l.vedge; long_h = l.hedge; long_w = l.sqw; long_t = l.sqh };
        cut = record { ssx_most = z.ssx_most; ssy_most = z.ssy_most; some_w = cap_some _ w; some_h = cap_some _ h };
        leaves_good = a;
        skips_good = b;
        q_fit = record { cols_most = s.cols_most; rows_most = s.rows_most; ssx_most = z.ssx_most; ssy_most = z.ssy_most; sbcols_most = omega (arith, superblocks_most f.width z.width_most); some = some; long = l.qindex };
      }

-- ---- deltas and caps

record Settings (f : Frame) : Type 0 where
  pub deltay : delta_ok f.deltay ≡ true
  pub capw : cap_ok f.capw ≡ true
  pub caph : cap_ok f.caph ≡ true
  pub deltauv : delta_ok f.deltauv ≡ true
  pub ccapw : cap_ok f.ccapw ≡ true
  pub ccaph : cap_ok f.ccaph ≡ true

settings : (f : Frame) → frame_settings f ≡ Ok tt → Settings f
unfolding frame_settings
settings f e =
    let p1 = all_parts _ _ (unless_true _ Setting e) in
    let p2 = all_parts _ _ p1.1 in
    let p3 = all_parts _ _ p2.1 in
    let p4 = all_parts _ _ p3.1 in
    let p5 = all_parts _ _ p4.1 in
    let p6 = all_parts _ _ p5.1 in
    record { deltay = p1.0; capw = p2.0; caph = p3.0; deltauv = p4.0; ccapw = p5.0; ccaph = p6.0 }

-- ---- a frame whose early checks accept, by the lengths k of its lists, the tile starts and the keep marks

module _ (f : Frame) (k : FrameLengths) (ltiles ctiles lkeep ckeep : List ℕ) (n : Given) (ok : frame_early f k ltiles ctiles lkeep ckeep n ≡ Ok tt) where
  shape : (unless (depth_ok f.depth) Depth ≡ Ok tt) × (frame_sizes f ≡ Ok tt) × (frame_lengths f k ≡ Ok tt)
  unfolding frame_early frame_shape
  shape =
      let e1 = else_parts _ _ (else_parts _ _ ok).0 in
      let e2 = else_parts _ _ e1.1 in
      (e1.0, e2.0, e2.1)

  rest : (steps_check n.steps ≡ Ok tt) × (frame_settings f ≡ Ok tt) × (frame_tiles f ltiles ctiles ≡ Ok tt) × (frame_leaves n ≡ Ok tt)
  unfolding frame_early frame_given
  rest =
      let e1 = else_parts _ _ (else_parts _ _ (else_parts _ _ ok).1).0 in
      let e2 = else_parts _ _ e1.1 in
      let e3 = else_parts _ _ e2.1 in
      (e1.0, e2.0, e3.0, e3.1)

  marks : frame_keep f lkeep ckeep ≡ Ok tt
  unfolding frame_early
  marks = (else_parts _ _ (else_parts _ _ ok).1).1

  pub early_sized : Sized f
  early_sized = frame_sized f shape.1

  luma_long_holds : (samples_long (luma_plane f) k.y ≡ true) × (grid_long (luma_plane f) k.luma ≡ true)
  unfolding frame_lengths luma_long
  luma_long_holds = both_parts _ _ (unless_true _ Length (else_parts _ _ shape.2).0)

  chroma_long_holds : chroma_on f ≡ true → (samples_long (chroma_plane f) k.u ≡ true) × (samples_long (chroma_plane f) k.v ≡ true) × (grid_long (chroma_plane f) k.chroma ≡ true)
  unfolding frame_lengths chroma_long
  chroma_long_holds on =
      let p1 = all_parts _ _ (unless_true _ Length (only_part _ _ (else_parts _ _ (else_parts _ _ shape.2).1).0 on)) in
      let p2 = all_parts _ _ p1.1 in
      let p3 = all_parts _ _ p2.1 in
      (p1.0, p2.0, p3.0)

  some : 1 ≤ k.sbq
  unfolding frame_lengths given_long
  some =
      let p = all_parts _ _ (unless_true _ Length (else_parts _ _ (else_parts _ _ shape.2).1).1) in
      let z = early_sized in
      let long : superblocks f.width * superblocks f.height ≤ k.sbq = leb-true _ _ p.0 in
      omega (arith, mul-le-mul (superblocks_some f.width z.some_width) (superblocks_some f.height z.some_height))

  leaves : AllGood n.leaves × AllGood n.chroma_leaves × AllGood n.skips
  unfolding frame_leaves
  leaves =
      let e1 = else_parts _ _ rest.3 in
      let e2 = else_parts _ _ e1.1 in
      (all_good false _ (found_nothing _ Leaf e1.0), all_good false _ (found_nothing _ Leaf e2.0), all_good true _ (found_nothing _ Leaf e2.1))

  deep : depth_ok f.depth ≡ true
  deep = unless_true _ Depth shape.0

  pub luma_stepped : Stepped f false n.steps
  unfolding luma_plane
  luma_stepped = let s = settings f rest.1 in record { steps_ok = rest.0; deltaq_ok = s.deltay; deltaside_ok = s.deltay }

  pub chroma_stepped : Stepped f true n.steps
  unfolding chroma_plane
  chroma_stepped = let s = settings f rest.1 in record { steps_ok = rest.0; deltaq_ok = s.deltauv; deltaside_ok = s.deltauv }

  pub luma_starts : tiles_check (luma_plane f).cols ltiles ≡ Ok tt
  unfolding frame_tiles
  luma_starts = (else_parts _ _ rest.2).0

  -- ticket 7: the lent marks are tested before the grids are built, and there is one for each cell
  pub luma_marks : ((luma_plane f).rows * (luma_plane f).cols ≤ k.luma.keep) × (bad_keep ((luma_plane f).rows * (luma_plane f).cols) lkeep ≡ None)
  unfolding frame_keep
  luma_marks = ((lists _ _ luma_long_holds.1).keep, found_nothing _ Cell (else_parts _ _ marks).0)

  luma_deep : depth_ok (luma_plane f).depth ≡ true
  unfolding luma_plane
  luma_deep = deep

  chroma_deep : depth_ok (chroma_plane f).depth ≡ true
  unfolding chroma_plane
  chroma_deep = deep

  pub luma_sampled : Sampled f false k.y
  luma_sampled = record { sized = early_sized; depth = luma_deep; sizes_ok = luma_sizes f shape.1; plane_long = leb-true _ _ luma_long_holds.0 }

  pub luma_built : Buildable f false n.leaves n.skips k.sbq k.luma.vedge k.luma.hedge k.luma.sqw k.luma.sqh k.luma.qindex
  luma_built =
      let s = settings f rest.1 in
      luma_buildable f n.leaves n.skips _ k.luma early_sized leaves.0 leaves.2 some (luma_sizes f shape.1) s.capw s.caph (lists _ _ luma_long_holds.1)

  -- chroma's, where it is filtered
  module _ (on : chroma_on f ≡ true) where
    pub chroma_starts : tiles_check (chroma_plane f).cols ctiles ≡ Ok tt
    unfolding frame_tiles
    chroma_starts = only_part _ _ (else_parts _ _ rest.2).1 on

    pub chroma_marks : ((chroma_plane f).rows * (chroma_plane f).cols ≤ k.chroma.keep) × (bad_keep ((chroma_plane f).rows * (chroma_plane f).cols) ckeep ≡ None)
    unfolding frame_keep
    chroma_marks = ((lists _ _ (chroma_long_holds on).2).keep, found_nothing _ Cell (only_part _ _ (else_parts _ _ marks).1 on))

    pub u_sampled : Sampled f true k.u
    u_sampled = record { sized = early_sized; depth = chroma_deep; sizes_ok = chroma_sizes f shape.1 on; plane_long = leb-true _ _ (chroma_long_holds on).0 }

    pub v_sampled : Sampled f true k.v
    v_sampled = record { sized = early_sized; depth = chroma_deep; sizes_ok = chroma_sizes f shape.1 on; plane_long = leb-true _ _ (chroma_long_holds on).1 }

    pub chroma_built : Buildable f true n.chroma_leaves n.skips k.sbq k.chroma.vedge k.chroma.hedge k.chroma.sqw k.chroma.sqh k.chroma.qindex
    chroma_built =
        let s = settings f rest.1 in
        chroma_buildable f n.chroma_leaves n.skips _ k.chroma early_sized leaves.1 leaves.2 some (chroma_sizes f shape.1 on) s.ccapw s.ccaph (lists _ _ (chroma_long_holds on).2)
