-- What accepted sizes and lengths of a plane give.
-- Assumes nothing.
use mathlib.Core.Path.{◌≡◌, sym}
use mathlib.Core.Logic.{⊎_elim}
use mathlib.Core.Bool.{Bool, true, false, not}
use Prim.Native.Nat.{ℕ, ◌*◌, ◌≤◌}
use native.Mathlib.Nat.{mul-le-mul}
use native.Mathlib.Omega.{arith}
use borrow.Author.Tests.{eqb-true}
use mir.Val.{Fits}
use mir.Syntax.{w64}
use lib.Dec.{eqb}
use Rattle.laws.specs.Choose.{either, told_yes_not, all_parts, either_parts}
use Rattle.rules.specs.declared.settings.Plane.{Plane}
use Rattle.rules.specs.Numbers.{in_range}
use Rattle.rules.specs.Plane.{plane_sizes_ok}
use Rattle.checks.proofs.Ranges.{in_range_holds}
use Rattle.cell_edges.specs.Cells.{Sizes}

pub sizes : (s : Plane) → plane_sizes_ok s ≡ true → Sizes s
unfolding plane_sizes_ok
sizes s e =
    let p1 = all_parts _ _ e in
    let p2 = all_parts _ _ p1.1 in
    let p3 = all_parts _ _ p2.1 in
    let p4 = all_parts _ _ p3.1 in
    let p5 = all_parts _ _ p4.1 in
    let p6 = all_parts _ _ p5.1 in
    let p7 = all_parts _ _ p6.1 in
    let cols = in_range_holds 1 1024 s.cols p1.0 in
    let rows = in_range_holds 1 1024 s.rows p2.0 in
    let stride = in_range_holds (4 * s.cols) 8192 s.stride p3.0 in
    let w = superblock s.sbw p6.0 in
    let h = superblock s.sbh p7.0 in
    record {
      some_cols = cols.0;
      cols_most = cols.1;
      some_rows = rows.0;
      rows_most = rows.1;
      wide = stride.0;
      stride_most = stride.1;
      some_sbw = w.0;
      sbw_most = w.1;
      some_sbh = h.0;
      sbh_most = h.1;
    }
  where
    superblock : (n : ℕ) → either (eqb n 8) (eqb n 16) ≡ true → (8 ≤ n) × (n ≤ 16)
    superblock n q =
        ⊎_elim
        (λ t. let z = eqb-true n 8 t in (omega arith, omega arith))
        (λ t. let z = eqb-true n 16 t in (omega arith, omega arith))
        (either_parts (eqb n 8) (eqb n 16) q)

-- as the code's tests found them
pub sizes_by : (s : Plane) (t : Bool) → t ≡ plane_sizes_ok s → not t ≡ false → Sizes s
sizes_by s t e f = sizes s (sym (told_yes_not _ t e f))

-- products of accepted sizes fit a word
pub four_fits : {t : Bool} (n : ℕ) → t ≡ in_range 1 1024 n → not t ≡ false → Fits w64 (4 * n)
four_fits {t} n e f = let h = in_range_holds 1 1024 n (sym (told_yes_not _ t e f)) in record { fits = omega arith }

module _ {s : Plane} (z : Sizes s) where
  pub rows_fit : Fits w64 (4 * s.rows)
  rows_fit = record { fits = omega arith }

  pub area_fits : Fits w64 (4 * s.rows * s.stride)
  area_fits =
      record { fits = omega (arith, mul-le-mul {n₁ = 4 * s.rows} {m₁ = s.stride} {n₂ = 4096} {m₂ = 8192} (omega arith) z.stride_most) }

  pub cells_fit : Fits w64 (s.rows * s.cols)
  cells_fit = record { fits = omega (arith, mul-le-mul z.rows_most z.cols_most) }

pub ruleset sizing = (rows_fit, area_fits, cells_fit)
