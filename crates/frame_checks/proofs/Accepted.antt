-- What a frame's accepted sizes and lengths give: its size in range, both planes' sizes and a keep mark for each of their cells, chroma's where it is filtered.
-- Assumes nothing.
use mathlib.Core.Path.{◌≡◌, refl, sym, ◌∙◌}
use mathlib.Core.Bool.{Bool, true, false, not}
use mathlib.Core.List.{List, [], ◌∷◌}
use Prim.Native.Nat.{ℕ, ◌*◌, ◌≤◌}
use native.Mathlib.Omega.{arith}
use borrow.Author.Tests.{leb-true}
use mir.Val.{Fits}
use mir.Syntax.{w64}
use Rattle.laws.specs.Choose.{both, all, all_parts, both_parts, both_bad, both_ok, told_yes_not}
use Rattle.rules.specs.declared.settings.Frame.{Frame}
use Rattle.rules.specs.declared.settings.Plane.{Plane}
use Rattle.rules.specs.declared.lent.GridLengths.{GridLengths}
use Rattle.rules.specs.declared.lent.FrameLengths.{FrameLengths}
use Rattle.rules.specs.declared.refusals.Refusal.TheVariants.{Size, Length}
use Rattle.rules.specs.Refusals.{Answer}
use Rattle.std.specs.declared.result.Result.TheVariants.{Ok}
use Rattle.rules.specs.Numbers.{in_range, subsampling_ok}
use Rattle.rules.specs.Frame.{luma_plane, chroma_plane, chroma_on, stride_ok, grid_long, luma_long, chroma_long, frame_sizes, frame_lengths, frame_shape}
use Rattle.checks.proofs.Checks.{else_parts, unless_true, only_part}
use Rattle.tiles.proofs.Checked.{ssx_most, ssy_most}
use Rattle.cell_edges.specs.Cells.{Sizes}
use Rattle.checks.proofs.Ranges.{in_range_holds}
use Rattle.frame_checks.specs.Settings.{Sized, KeepLong, plane_of}
use Rattle.frame_checks.proofs.Ranges.{cells, blocks}

-- the size and the subsampling
size_of : (f : Frame) → in_range 1 4096 f.width ≡ true → in_range 1 4096 f.height ≡ true → subsampling_ok f.ssx f.ssy ≡ true → Sized f
size_of f a b d =
    let w = in_range_holds 1 4096 _ a in
    let h = in_range_holds 1 4096 _ b in
    record { some_width = w.0; width_most = w.1; some_height = h.0; height_most = h.1; ssx_most = ssx_most _ _ d; ssy_most = ssy_most _ _ d }

pub size_by : (f : Frame) {t u v : Bool} → t ≡ in_range 1 4096 f.width → not t ≡ false → u ≡ in_range 1 4096 f.height → not u ≡ false → v ≡ subsampling_ok f.ssx f.ssy → not v ≡ false → Sized f
size_by f {t} {u} {v} a a' b b' d d' = size_of f (sym (told_yes_not _ t a a')) (sym (told_yes_not _ u b b')) (sym (told_yes_not _ v d d'))

-- with luma's stride
picture : (f : Frame) → all (in_range 1 4096 f.width ∷ in_range 1 4096 f.height ∷ subsampling_ok f.ssx f.ssy ∷ stride_ok (luma_plane f) ∷ []) ≡ true → Sized f × (stride_ok (luma_plane f) ≡ true)
picture f e =
    let p1 = all_parts _ _ e in
    let p2 = all_parts _ _ p1.1 in
    let p3 = all_parts _ _ p2.1 in
    let p4 = all_parts _ _ p3.1 in
    (size_of f p1.0 p2.0 p3.0, p4.0)

pub sized_by : (f : Frame) {t : Bool} → t ≡ all (in_range 1 4096 f.width ∷ in_range 1 4096 f.height ∷ subsampling_ok f.ssx f.ssy ∷ stride_ok (luma_plane f) ∷ []) → not t ≡ false → Sized f
sized_by f {t} e h = (picture f (sym (told_yes_not _ t e h))).0

-- a plane with a good stride
pub plane_sizes : (f : Frame) (chroma : Bool) → Sized f → stride_ok (plane_of f chroma) ≡ true → Sizes (plane_of f chroma)
plane_sizes f chroma z e =
    let n = cells f chroma z in
    let b = blocks f chroma z in
    let s = in_range_holds (4 * (plane_of f chroma).cols) 8192 _ e in
    record {
      some_cols = n.some_cols;
      cols_most = n.cols_most;
      some_rows = n.some_rows;
      rows_most = n.rows_most;
      wide = s.0;
      stride_most = s.1;
      some_sbw = b.0;
      sbw_most = b.1;
      some_sbh = b.2;
      sbh_most = b.3;
    }

module _ (f : Frame) (ok : frame_sizes f ≡ Ok tt) where
  luma : Sized f × (stride_ok (luma_plane f) ≡ true)
  unfolding frame_sizes
  luma = picture f (unless_true _ Size (else_parts _ _ ok).0)

  pub frame_sized : Sized f
  frame_sized = luma.0

  pub luma_sizes : Sizes (luma_plane f)
  luma_sizes = plane_sizes f false frame_sized luma.1

  pub chroma_sizes : chroma_on f ≡ true → Sizes (chroma_plane f)
  unfolding frame_sizes
  chroma_sizes on = plane_sizes f true frame_sized (unless_true _ Size (only_part _ _ (else_parts _ _ ok).1 on))

-- a grid that is long enough has a keep mark for each cell
keep_long : (s : Plane) (g : GridLengths) → grid_long s g ≡ true → s.rows * s.cols ≤ g.keep
unfolding grid_long
keep_long s g e =
    let p1 = all_parts _ _ e in
    let p2 = all_parts _ _ p1.1 in
    let p3 = all_parts _ _ p2.1 in
    let p4 = all_parts _ _ p3.1 in
    let p5 = all_parts _ _ p4.1 in
    leb-true _ _ (all_parts _ _ p5.1).0

-- by the checks 1, 2, 3, as the code has their answer
module _ (f : Frame) (k : FrameLengths) {a : Answer} (is : a ≡ frame_shape f k) (ok : a ≡ Ok tt) where
  shaped : (frame_sizes f ≡ Ok tt) × (frame_lengths f k ≡ Ok tt)
  unfolding frame_shape
  shaped = else_parts _ _ (else_parts _ _ (sym is ∙ ok)).1

  pub shape_sized : Sized f
  shape_sized = frame_sized f shaped.0

  -- the keep marks, by their number
  pub luma_keep : {n : ℕ} → k.luma.keep ≡ n → KeepLong f false n
  unfolding frame_lengths luma_long
  luma_keep e =
      let long = keep_long (luma_plane f) k.luma (both_parts _ _ (unless_true _ Length (else_parts _ _ shaped.1).0)).1 in
      record { sized = shape_sized; sizes_ok = luma_sizes f shaped.0; long = rw (← e) long }

  pub chroma_keep : {n : ℕ} → k.chroma.keep ≡ n → chroma_on f ≡ true → KeepLong f true n
  unfolding frame_lengths chroma_long
  chroma_keep e on =
      let p = all_parts _ _ (unless_true _ Length (only_part _ _ (else_parts _ _ (else_parts _ _ shaped.1).1).0 on)) in
      let long = keep_long (chroma_plane f) k.chroma (all_parts _ _ (all_parts _ _ p.1).1).0 in
      record { sized = shape_sized; sizes_ok = chroma_sizes f shaped.0 on; long = rw (← e) long }

-- four times a plane's columns fit a word, as the code has its settings
pub four_cols_fit : (f : Frame) (chroma : Bool) {s : Plane} → s ≡ plane_of f chroma → Sized f → Fits w64 (4 * s.cols)
four_cols_fit f chroma is z = let n = cells f chroma z in rw is (record { fits = omega (arith, n.cols_most) })

-- chroma's plane where the code's test on it came out true
pub chroma_by : (f : Frame) {t : Bool} → frame_sizes f ≡ Ok tt → t ≡ chroma_on f → not t ≡ false → Sizes (chroma_plane f)
chroma_by f {t} ok e h = chroma_sizes f ok (sym (told_yes_not _ t e h))

-- ---- three tests, and then the others of a list

three : (a b d : Bool) (bs : List Bool) → all (a ∷ b ∷ d ∷ bs) ≡ both (all (a ∷ b ∷ d ∷ [])) (all bs)
unfolding all both
three true true true bs = refl
three true true false bs = refl
three true false d bs = refl
three false b d bs = refl

pub three_bad : (a b d : Bool) (bs : List Bool) → false ≡ all (a ∷ b ∷ d ∷ []) → false ≡ all (a ∷ b ∷ d ∷ bs)
three_bad a b d bs e = rw three (both_bad _ _ e)

pub three_ok : (a b d x : Bool) (bs : List Bool) → true ≡ all (a ∷ b ∷ d ∷ []) → x ≡ all bs → x ≡ all (a ∷ b ∷ d ∷ bs)
three_ok a b d x bs e g = rw three (both_ok _ _ x e g)
