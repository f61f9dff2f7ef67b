-- Samples within 0..top in a box, in the newly filled rows and in a whole plane: what a search that found nothing says, and what it needs.
-- Assumes nothing.
use mathlib.Core.Path.{◌≡◌, sym, ap}
use mathlib.Core.List.{List}
use Prim.Native.Nat.{ℕ, ◌+◌, ◌*◌, ◌-◌, ◌≤◌, ◌<◌}
use native.Mathlib.Nat.{add-mul}
use native.Mathlib.Omega.{arith}
use lib.ListN.{get_or}
use Rattle.rules.specs.declared.settings.Plane.{Plane}
use Rattle.std.specs.declared.option.Option.TheVariants.{None}
use Rattle.rules.specs.Numbers.{top_of}
use Rattle.rules.specs.Refusals.{over_top, over_row, over_box}
use Rattle.rules.specs.Plane.{over_plane}
use Rattle.rules.specs.Rows.{over_new}
use Rattle.checks.proofs.First.{nothing_all, all_nothing, over_nothing, over_good}

-- no sample is over top in the rows from `from` up to `upto`
pub record LowRows (s : Plane) (from upto : ℕ) (l : List ℕ) : Type 0 where
  pub at : (x y : ℕ) → x < 4 * s.cols → from ≤ y → y < upto → get_or l (y * s.stride + x) 0 ≤ top_of s.depth

module _ (top : ℕ) (l : List ℕ) (start stride count rows : ℕ) where
  box_low : over_box top l start stride count rows ≡ None → (x y : ℕ) → x < count → y < rows → get_or l (start + y * stride + x) 0 ≤ top
  unfolding over_box over_row
  box_low none x y hx hy =
      let row = nothing_all (λ j. over_row top l (start + j * stride) count) rows none y hy in
      over_nothing top l (start + y * stride + x) (nothing_all (λ i. over_top top l (start + y * stride + i)) count row x hx)

  low_box : ((x y : ℕ) → x < count → y < rows → get_or l (start + y * stride + x) 0 ≤ top) → over_box top l start stride count rows ≡ None
  unfolding over_box over_row
  low_box h =
      all_nothing (λ j. over_row top l (start + j * stride) count) rows (λ y hy.
      all_nothing (λ i. over_top top l (start + y * stride + i)) count (λ x hx. sym (over_good top l (start + y * stride + x) (h x y hx hy))))

module _ (s : Plane) (l : List ℕ) where
  pub plane_low : over_plane s l ≡ None → LowRows s 0 (4 * s.rows) l
  unfolding over_plane
  plane_low none = record {
    at = λ x y hx lo hi.
        let same : 0 + y * s.stride + x ≡ y * s.stride + x = omega arith in
        rw same at (box_low (top_of s.depth) l 0 s.stride (4 * s.cols) (4 * s.rows) none x y hx hi);
  }

  pub low_plane : LowRows s 0 (4 * s.rows) l → over_plane s l ≡ None
  unfolding over_plane
  low_plane h =
      low_box (top_of s.depth) l 0 s.stride (4 * s.cols) (4 * s.rows) (λ x y hx hy.
      let same : 0 + y * s.stride + x ≡ y * s.stride + x = omega arith in rw same (h.at x y hx (omega arith) hy))

  module _ (held filled : ℕ) where
    -- row y of those from the held count on
    place : (x y : ℕ) → held * s.stride + y * s.stride + x ≡ (held + y) * s.stride + x
    place x y = ap (λ (n : ℕ). n + x) (sym (add-mul held y s.stride))

    pub new_low : over_new s held filled l ≡ None → LowRows s held filled l
    unfolding over_new
    new_low none = record {
      at = λ x y hx lo hi.
          let back : held + (y - held) ≡ y = omega arith in
          let one = box_low (top_of s.depth) l (held * s.stride) s.stride (4 * s.cols) (filled - held) none x (y - held) hx (omega arith) in
          rw (place x (y - held), back) at one;
    }

    pub low_new : LowRows s held filled l → over_new s held filled l ≡ None
    unfolding over_new
    low_new h =
        low_box (top_of s.depth) l (held * s.stride) s.stride (4 * s.cols) (filled - held) (λ x y hx hy.
        rw (place x y) (h.at x (held + y) hx (omega arith) (omega arith)))
