-- A built grid is long enough and its cells are good, its lent keep marks being good, so that its plane can be checked.
-- Assumes nothing.
use mathlib.Core.Path.{◌≡◌, refl, sym, ap, ◌∙◌}
use mathlib.Core.Bool.{Bool, true, false}
use mathlib.Core.List.{List, [], ◌∷◌}
use Prim.Native.Nat.{ℕ, ◌*◌, ◌≤◌}
use borrow.Author.Tests.{le-leb}
use lib.Dec.{leb}
use lib.ListN.{length}
use Rattle.laws.specs.Choose.{pick, all, all_ok, all_none, all_parts, is_le}
use Rattle.rules.specs.declared.settings.Frame.{Frame}
use Rattle.rules.specs.declared.settings.Plane.{Plane}
use Rattle.std.specs.declared.result.Result.TheVariants.{Ok}
use Rattle.std.specs.declared.option.Option.TheVariants.{None}
use Rattle.rules.specs.Refusals.{found_unless, over_top}
use Rattle.rules.specs.Plane.{Grid, tiled, keeping, tiles_check, cell_good, bad_cell, bad_keep, plane_lengths_ok}
use Rattle.rules.specs.TuGrid.{Marks, marks, tx_grid_of}
use Rattle.rules.specs.QindexGrid.{q_grid_of}
use Rattle.rules.specs.Frame.{luma_plane, chroma_plane, luma_tu, chroma_tu, luma_q, chroma_q, with_q, built_grid}
use Rattle.checks.proofs.First.{all_nothing, nothing_all, found_unless_not, unless_nothing, over_nothing}
use Rattle.grid.proofs.Built.{no_bad_cell}
use Rattle.plane.proofs.Accepting.{lengths, readies_by}
use Rattle.frame_checks.specs.Settings.{kind_on, plane_of, tu_of, q_of}
use Rattle.frame_planes.specs.Fit.{Sampled, Marked, Buildable}
use Rattle.frame.specs.Fit.{Gridded}

-- the TU grid has the plane's cells
rows_same : (f : Frame) (chroma : Bool) → (plane_of f chroma).rows ≡ (tu_of f chroma).rows
unfolding luma_tu chroma_tu
rows_same f false = refl
rows_same f true = refl

cols_same : (f : Frame) (chroma : Bool) → (plane_of f chroma).cols ≡ (tu_of f chroma).cols
unfolding luma_tu chroma_tu
cols_same f false = refl
cols_same f true = refl

q_long : (f : Frame) (chroma : Bool) (n : ℕ) → (q_of f chroma).rows * (q_of f chroma).cols ≤ n → (plane_of f chroma).rows * (plane_of f chroma).cols ≤ n
unfolding luma_q chroma_q
q_long f false n h = h
q_long f true n h = h

tu_long : (f : Frame) (chroma : Bool) (n : ℕ) → (tu_of f chroma).rows * (tu_of f chroma).cols ≤ n → (plane_of f chroma).rows * (plane_of f chroma).cols ≤ n
unfolding luma_tu chroma_tu
tu_long f false n h = h
tu_long f true n h = h

-- what is built is good, whatever the qindex and the tile starts
built_cells : (f : Frame) (chroma : Bool) (ls ks q ts : List ℕ) (m : Marks) → bad_cell (plane_of f chroma) (with_q (tx_grid_of (tu_of f chroma) ls ks m) q ts []) ≡ None
unfolding bad_cell cell_good
built_cells f chroma ls ks q ts m = no_bad_cell (plane_of f chroma) (tu_of f chroma) ls ks m [] (rows_same f chroma) (cols_same f chroma)

-- good keep marks beside cells that are good without them
kept_cells : (s : Plane) (v h w t q ts ks : List ℕ) → bad_cell s (tiled v h w t q ts) ≡ None → bad_keep (s.rows * s.cols) ks ≡ None → bad_cell s (keeping v h w t q ts ks) ≡ None
unfolding bad_cell bad_keep cell_good
kept_cells s v h w t q ts ks e m = all_nothing _ (s.rows * s.cols) (λ k l.
    let p1 = all_parts _ _ (unless_nothing _ k (nothing_all (λ i. found_unless (cell_good (tiled v h w t q ts) i) i) _ e k l)) in
    let p2 = all_parts _ _ p1.1 in
    let p3 = all_parts _ _ p2.1 in
    let p4 = all_parts _ _ p3.1 in
    let mark = is_le _ 1 (over_nothing 1 ks k (nothing_all (λ i. over_top 1 ks i) _ m k l)) in
    sym (found_unless_not _ k (all_ok _ _ _ (sym p1.0) (all_ok _ _ _ (sym p2.0) (all_ok _ _ _ (sym p3.0) (all_ok _ _ _ (sym p4.0) (all_ok _ _ _ mark all_none)))))))

good_cells : (f : Frame) (chroma : Bool) (ls ks sbq : List ℕ) (g : Grid) → bad_keep ((plane_of f chroma).rows * (plane_of f chroma).cols) g.keep ≡ None → bad_cell (plane_of f chroma) (built_grid (tu_of f chroma) (q_of f chroma) ls ks sbq g) ≡ None
unfolding built_grid
good_cells f chroma ls ks sbq g = kept_cells _ _ _ _ _ _ _ _ (built_cells f chroma ls ks _ _ _)

-- six lists and a plane by their lengths
long_enough_holds : (s : Plane) (n : ℕ) (v h w t q ts ks : List ℕ) → 4 * s.rows * s.stride ≤ n → s.rows * s.cols ≤ length v → s.rows * s.cols ≤ length h → s.rows * s.cols ≤ length w → s.rows * s.cols ≤ length t → s.rows * s.cols ≤ length q → s.rows * s.cols ≤ length ks
    → plane_lengths_ok s (keeping v h w t q ts ks) n ≡ true
unfolding plane_lengths_ok all
long_enough_holds s n v h w t q ts ks a b c d e f i = rw (le-leb _ _ a, le-leb _ _ b, le-leb _ _ c, le-leb _ _ d, le-leb _ _ e, le-leb _ _ f, le-leb _ _ i)

-- lists of the same lengths that hold the built grid
module _ {f : Frame} {chroma : Bool} {ls ks : List ℕ} (sbq : List ℕ) (g : Grid) {size count : ℕ} {v h w t q : List ℕ} {lv lh lw lt lq : ℕ} (ts keep : List ℕ) where
  pub gridded : Sampled f chroma size → Buildable f chroma ls ks count lv lh lw lt lq → length v ≡ lv → length h ≡ lh → length w ≡ lw → length t ≡ lt → length q ≡ lq
      → kind_on f chroma ≡ true → tiles_check (plane_of f chroma).cols ts ≡ Ok tt → ((plane_of f chroma).rows * (plane_of f chroma).cols ≤ length keep) × (bad_keep ((plane_of f chroma).rows * (plane_of f chroma).cols) g.keep ≡ None)
      → keeping v h w t q ts keep ≡ pick (kind_on f chroma) (built_grid (tu_of f chroma) (q_of f chroma) ls ks sbq g) g → Gridded f chroma (keeping v h w t q ts keep) size
  unfolding pick
  gridded sampled b ev eh ew et eq on starts kept is =
      record {
        sampled = sampled;
        lengths =
            long_enough_holds (plane_of f chroma) size v h w t q ts keep sampled.plane_long
            (rw ev (tu_long f chroma _ b.fit.long_v))
            (rw eh (tu_long f chroma _ b.fit.long_h))
            (rw ew (tu_long f chroma _ b.fit.long_w))
            (rw et (tu_long f chroma _ b.fit.long_t))
            (rw eq (q_long f chroma _ b.q_fit.long))
            kept.0;
        tiles_ok = starts;
        cells = rw (rw on at is) (good_cells f chroma ls ks sbq g kept.1);
      }

-- ---- what the checks of a plane with such a grid ask

module _ {f : Frame} {chroma : Bool} {v h w t q ts ks : List ℕ} {size : ℕ} (k : Gridded f chroma (keeping v h w t q ts ks) size) where
  same_cells : (p us : List ℕ) → None ≡ bad_cell (plane_of f chroma) (keeping v h w t p us ks)
  unfolding bad_cell cell_good
  same_cells p us = sym k.cells

  pub marked : Marked f chroma v h w t
  marked =
      let l = lengths (plane_of f chroma) (keeping v h w t q ts ks) size k.lengths in
      let r = readies_by v h w t ks (record { depth = k.sampled.depth; sizes_ok = k.sampled.sizes_ok; plane_long = l.samples; lists_long = l.lists }) same_cells refl in
      record { sized = k.sampled.sized; vert = r.0; horz = r.1 }
