-- What the checks leave in hand for cutting leaves: subsampling, caps and good leaves.
-- Assumes nothing.
use Rattle.std.specs.Prelude.{Bool, List, ℕ, ◌+◌, ◌*◌, ◌/◌, ◌≤◌, ◌<◌, length, get_or}
use Rattle.laws.specs.Choose.{pick}
use Rattle.rules.specs.declared.settings.TuGrid.{TuGrid}
use Rattle.rules.specs.declared.settings.Tile.{Tile}
use Rattle.rules.specs.TuGrid.{bare_of, is_size}

-- subsampling and caps, as far as cutting a leaf needs them
pub record Cut (s : TuGrid) : Type 0 where
  pub ssx_most : s.ssx ≤ 1
  pub ssy_most : s.ssy ≤ 1
  pub some_w : 1 ≤ s.capw
  pub some_h : 1 ≤ s.caph

-- a tile near enough to the plane's cells that no sum wraps
pub record Placed (a : Tile) : Type 0 where
  pub row_most : a.row ≤ 1023
  pub col_most : a.col ≤ 1023
  pub w_most : a.w ≤ 64
  pub h_most : a.h ≤ 64
  pub some_tw : 1 ≤ a.tw
  pub some_th : 1 ≤ a.th

-- a number that is a size, as it stands in a skip leaf and without bit 4096 in another
unfoldable pub size_good : Bool → ℕ → Bool
size_good skip w = is_size (pick skip w (bare_of w))

-- a leaf in range, as far as the grid needs it; every leaf of a list
pub record Good (row col w h : ℕ) : Type 0 where
  pub row_most : row ≤ 1023
  pub col_most : col ≤ 1023
  pub w_most : bare_of w ≤ 64
  pub h_most : bare_of h ≤ 64

pub record AllGood (ls : List ℕ) : Type 0 where
  pub each : (k : ℕ) → k < length ls / 4 → Good (get_or ls (k * 4) 0) (get_or ls (k * 4 + 1) 0) (get_or ls (k * 4 + 2) 0) (get_or ls (k * 4 + 3) 0)
