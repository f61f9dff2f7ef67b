-- A leaf's numbers: bit 4096, sizes of 1 to 64 cells, and that a good leaf's tile lies near the plane's cells.
-- Assumes nothing.
use mathlib.Core.Path.{◌≡◌, refl, sym, ap, ◌∙◌}
use mathlib.Core.List.{List}
use mathlib.Core.Logic.{⊎_elim}
use mathlib.Core.Bool.{Bool, true, false}
use Prim.Native.Nat.{ℕ, zero, suc, ◌+◌, ◌-◌, ◌*◌, ◌/◌, ◌%◌, ◌^◌, ◌≤◌, ◌<◌, min, max}
use native.Mathlib.Nat.{div-le_self}
use native.Mathlib.Omega.{arith}
use lib.ListN.{length, get_or}
use lib.Dec.{eqb, leb}
use borrow.Author.Tests.{eqb-true, leb-true}
use Rattle.laws.specs.Choose.{pick, either, both, all, either_parts, all_parts}
use Rattle.rules.specs.declared.settings.TuGrid.{TuGrid}
use Rattle.rules.specs.declared.settings.Tile.{Tile}
use Rattle.rules.specs.Numbers.{down}
use Rattle.rules.specs.TuGrid.{flag_of, bare_of, is_size, size_of, whole_of, tu_of, tile_of, leaf_good}
use Rattle.tiles.specs.Fit.{Cut, Placed, size_good, Good, AllGood}

-- ---- bit 4096

pub flag_most : (w : ℕ) → flag_of w ≡ true → 4096 ≤ w
unfolding flag_of
flag_most w e = omega (arith, eqb-true (w / 4096 % 2) 1 e)

bare_le : (w : ℕ) → bare_of w ≤ w
unfolding bare_of pick
bare_le w = go (flag_of w)
  where
    go : (b : Bool) → pick b (w - 4096) w ≤ w
    go true = omega arith
    go false = omega arith

-- ---- sizes

-- a property of 1, 2, 4, .. 64 is one of every size
pub by_size : (P : ℕ → Type 0) → P 1 → P 2 → P 4 → P 8 → P 16 → P 32 → P 64 → (n : ℕ) → is_size n ≡ true → P n
unfolding is_size
by_size P a b c d e f g n h =
    ⊎_elim (λ q. rw (eqb-true n 1 q) a) (λ h.
    ⊎_elim (λ q. rw (eqb-true n 2 q) b) (λ h.
    ⊎_elim (λ q. rw (eqb-true n 4 q) c) (λ h.
    ⊎_elim (λ q. rw (eqb-true n 8 q) d) (λ h.
    ⊎_elim (λ q. rw (eqb-true n 16 q) e) (λ h.
    ⊎_elim (λ q. rw (eqb-true n 32 q) f) (λ q. rw (eqb-true n 64 q) g)
    (either_parts _ _ h)) (either_parts _ _ h)) (either_parts _ _ h)) (either_parts _ _ h)) (either_parts _ _ h)) (either_parts _ _ h)

size_is : (n : ℕ) → is_size n ≡ true → n ≤ 64
size_is = by_size (λ n. n ≤ 64) (omega arith) (omega arith) (omega arith) (omega arith) (omega arith) (omega arith) (omega arith)

size_good_holds : (skip : Bool) (w : ℕ) → size_good skip w ≡ true → bare_of w ≤ 64
unfolding size_good pick
size_good_holds true w e = omega (arith, size_is w e, bare_le w)
size_good_holds false w e = size_is (bare_of w) e

-- ---- a good leaf

pub leaf_good_holds : (skip : Bool) (row col w h : ℕ) → leaf_good skip row col w h ≡ true → Good row col w h
unfolding leaf_good size_good
leaf_good_holds skip row col w h e =
    let p1 = all_parts _ _ e in
    let p2 = all_parts _ _ p1.1 in
    let p3 = all_parts _ _ p2.1 in
    let p4 = all_parts _ _ p3.1 in
    record { row_most = leb-true _ _ p1.0; col_most = leb-true _ _ p2.0; w_most = size_good_holds skip w p3.0; h_most = size_good_holds skip h p4.0 }

-- ---- its tile

down_le : (ss n : ℕ) → down ss n ≤ n
unfolding down
down_le ss n = div-le_self n (2 ^ ss)

size_most : (ss w : ℕ) → bare_of w ≤ 64 → size_of ss w ≤ 64
unfolding size_of
size_most ss w h = omega (arith, down_le ss (bare_of w))

size_some : (ss w : ℕ) → 1 ≤ size_of ss w
unfolding size_of
size_some ss w = omega arith

tu_some : (b : Bool) (n cap : ℕ) → 1 ≤ n → 1 ≤ cap → 1 ≤ tu_of b n cap
unfolding pick
tu_some true n cap a c = a
tu_some false n cap a c = omega arith

placed : (s : TuGrid) (skip : Bool) (row col w h : ℕ) → Cut s → Good row col w h → Placed (tile_of s skip row col w h)
unfolding tile_of
placed s skip row col w h c g = record {
  row_most = omega (arith, down_le s.ssy row);
  col_most = omega (arith, down_le s.ssx col);
  w_most = size_most s.ssx w g.w_most;
  h_most = size_most s.ssy h g.h_most;
  some_tw = tu_some (whole_of skip w (size_of s.ssx w) (size_of s.ssy h)) (size_of s.ssx w) s.capw (size_some s.ssx w) c.some_w;
  some_th = tu_some (whole_of skip w (size_of s.ssx w) (size_of s.ssy h)) (size_of s.ssy h) s.caph (size_some s.ssy h) c.some_h;
}

pub tile_placed : (s : TuGrid) (skip : Bool) (row col w h : ℕ) (a : Tile) → Cut s → Good row col w h → a ≡ tile_of s skip row col w h → Placed a
tile_placed s skip row col w h a c g e = rw e (placed s skip row col w h c g)
