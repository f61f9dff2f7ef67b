-- Document 01, "TU grid": marks and size indices of a plane's cells from the leaves of a frame; ticket 7: keep marks cleared where the grid is built alone.
-- Assumes nothing.
use Rattle.std.specs.Prelude.{Bool, true, false, List, [], ◌∷◌, ℕ, ◌+◌, ◌*◌, ◌-◌, ◌/◌, ◌%◌, min, max, eqb, ltb, leb, get_or, length, set}
use Rattle.laws.specs.Choose.{pick, either, both, all}
use Rattle.laws.specs.Loops.{turns}
use Rattle.rules.specs.declared.settings.TuGrid.{TuGrid}
use Rattle.rules.specs.declared.settings.Tile.{Tile}
use Rattle.rules.specs.declared.refusals.Refusal.TheVariants.{Size, Length, Setting, Leaf}
use Rattle.rules.specs.Refusals.{Answer}
use Rattle.std.specs.declared.option.Option.{Option}
use Rattle.rules.specs.Numbers.{in_range, subsampling_ok, down}
use Rattle.rules.specs.Refusals.{or_else, unless, found, settle, first, found_unless}

-- the four lists that are built
pub record Marks : Type 0 where
  pub vedge : List ℕ
  pub hedge : List ℕ
  pub sqw : List ℕ
  pub sqh : List ℕ

abbrev pub marks : List ℕ → List ℕ → List ℕ → List ℕ → Marks
marks v h w t = record { vedge = v; hedge = h; sqw = w; sqh = t }

-- ---- a leaf's four numbers

-- bit 4096 of a number, and the number without it
unfoldable pub flag_of : ℕ → Bool
flag_of w = eqb (w / 4096 % 2) 1

unfoldable pub bare_of : ℕ → ℕ
bare_of w = pick (flag_of w) (w - 4096) w

-- "1,2,4,..,64", and the logarithm of such a size
unfoldable pub is_size : ℕ → Bool
is_size n = either (eqb n 1) (either (eqb n 2) (either (eqb n 4) (either (eqb n 8) (either (eqb n 16) (either (eqb n 32) (eqb n 64))))))

unfoldable pub log2_of : ℕ → ℕ
log2_of n = pick (eqb n 1) 0 (pick (eqb n 2) 1 (pick (eqb n 4) 2 (pick (eqb n 8) 3 (pick (eqb n 16) 4 (pick (eqb n 32) 5 6)))))

-- "Leaf origin and size are shifted right by the subsampling, size at least 1."
unfoldable pub size_of : ℕ → ℕ → ℕ
size_of ss w = max 1 (down ss (bare_of w))

-- "the whole size if w carries 4096, or the shifted size is (4,16) or (16,4)"; "Skip leaves follow, whole"
unfoldable pub whole_of : Bool → ℕ → ℕ → ℕ → Bool
whole_of skip w bw bh = either skip (either (flag_of w) (either (both (eqb bw 4) (eqb bh 16)) (both (eqb bw 16) (eqb bh 4))))

-- "TU size is the smaller of size and cap, each way"
abbrev pub tu_of : Bool → ℕ → ℕ → ℕ
tu_of whole size cap = pick whole size (min size cap)

unfoldable pub tile_of : TuGrid → Bool → ℕ → ℕ → ℕ → ℕ → Tile
tile_of s skip row col w h = record {
  row = down s.ssy row;
  col = down s.ssx col;
  w = size_of s.ssx w;
  h = size_of s.ssy h;
  tw = tu_of (whole_of skip w (size_of s.ssx w) (size_of s.ssy h)) (size_of s.ssx w) s.capw;
  th = tu_of (whole_of skip w (size_of s.ssx w) (size_of s.ssy h)) (size_of s.ssy h) s.caph;
}

-- ---- painting a leaf

-- "Marks stand at each TU's first column and row"
unfoldable pub mark_of : ℕ → ℕ → ℕ
mark_of d t = pick (eqb (d % t) 0) 1 0

unfoldable pub store_cell : ℕ → ℕ → ℕ → ℕ → ℕ → Marks → Marks
store_cell at v h w t g = marks (set g.vedge at v) (set g.hedge at h) (set g.sqw at w) (set g.sqh at t)

-- "index = log2 of TU size. Cells outside the plane are skipped"
unfoldable pub paint_cell : TuGrid → Tile → ℕ → ℕ → Marks → Marks
paint_cell s a dr dc g =
    pick (both (ltb (a.row + dr) s.rows) (ltb (a.col + dc) s.cols))
    (store_cell ((a.row + dr) * s.cols + (a.col + dc)) (mark_of dc a.tw) (mark_of dr a.th) (log2_of a.tw) (log2_of a.th) g)
    g

unfoldable pub paint_row : TuGrid → Tile → ℕ → Marks → Marks
paint_row s a dr g = turns a.w (λ dc. paint_cell s a dr dc) g

unfoldable pub paint_of : TuGrid → Tile → Marks → Marks
paint_of s a g = turns a.h (λ dr. paint_row s a dr) g

-- leaf k of a list of four numbers a leaf; "later leaves win"
unfoldable pub leaf_of : TuGrid → Bool → List ℕ → ℕ → Tile
leaf_of s skip ls k = tile_of s skip (get_or ls (k * 4) 0) (get_or ls (k * 4 + 1) 0) (get_or ls (k * 4 + 2) 0) (get_or ls (k * 4 + 3) 0)

unfoldable pub leaves_of : TuGrid → Bool → List ℕ → Marks → Marks
leaves_of s skip ls g = turns (length ls / 4) (λ k. paint_of s (leaf_of s skip ls k)) g

-- "Lists start at 0 over mi_cols·mi_rows; what lies beyond is kept."
unfoldable pub clear_of : ℕ → List ℕ → List ℕ
clear_of n xs = turns n (λ k l. set l k 0) xs

abbrev pub blank_of : ℕ → Marks → Marks
blank_of n g = marks (clear_of n g.vedge) (clear_of n g.hedge) (clear_of n g.sqw) (clear_of n g.sqh)

unfoldable pub tx_grid_of : TuGrid → List ℕ → List ℕ → Marks → Marks
tx_grid_of s leaves skips g = leaves_of s true skips (leaves_of s false leaves (blank_of (s.rows * s.cols) g))

-- ---- the checks, in the order 2, 3, 5, 9

-- "mi_cols and mi_rows 1..1024"
unfoldable pub cells_ok : ℕ → ℕ → Bool
cells_ok cols rows = both (in_range 1 1024 cols) (in_range 1 1024 rows)

-- "Caps 1,2,4,8 or 16."
unfoldable pub cap_ok : ℕ → Bool
cap_ok n = either (eqb n 1) (either (eqb n 2) (either (eqb n 4) (either (eqb n 8) (eqb n 16))))

-- "a leaf list's length is no multiple of 4"
unfoldable pub fours_ok : ℕ → Bool
fours_ok n = eqb (n % 4) 0

-- "row and column 0..1023, w and h each 1,2,4,..,64 after bit 4096 is taken off"; a skip leaf "must not carry 4096 on w or h"
unfoldable pub leaf_good : Bool → ℕ → ℕ → ℕ → ℕ → Bool
leaf_good skip row col w h =
    all (leb row 1023 ∷ leb col 1023 ∷ is_size (pick skip w (bare_of w)) ∷ is_size (pick skip h (bare_of h)) ∷ [])

-- "9: its number in the list"
unfoldable pub leaf_good_at : Bool → List ℕ → ℕ → Bool
leaf_good_at skip ls k = leaf_good skip (get_or ls (k * 4) 0) (get_or ls (k * 4 + 1) 0) (get_or ls (k * 4 + 2) 0) (get_or ls (k * 4 + 3) 0)

unfoldable pub bad_leaf : Bool → List ℕ → Option ℕ
bad_leaf skip ls = first (length ls / 4) (λ k. found_unless (leaf_good_at skip ls k) k)

-- "Each list has at least mi_cols·mi_rows entries." Ticket 7: "Each grid cell gets a third mark, keep", so its list too
unfoldable pub lists_long : ℕ → Marks → List ℕ → Bool
lists_long n g keep =
    all
    (leb n (length g.vedge)
    ∷ leb n (length g.hedge)
    ∷ leb n (length g.sqw)
    ∷ leb n (length g.sqh)
    ∷ leb n (length keep)
    ∷ [])

unfoldable pub tx_grid_check : TuGrid → List ℕ → List ℕ → Marks → List ℕ → Answer
tx_grid_check s leaves skips g keep =
    or_else (unless (both (cells_ok s.cols s.rows) (subsampling_ok s.ssx s.ssy)) Size)
    (or_else (unless (all (lists_long (s.rows * s.cols) g keep ∷ fours_ok (length leaves) ∷ fours_ok (length skips) ∷ [])) Length)
    (or_else (unless (both (cap_ok s.capw) (cap_ok s.caph)) Setting)
    (or_else (found (bad_leaf false leaves) Leaf)
    (found (bad_leaf true skips) Leaf))))

-- the four lists afterwards
unfoldable pub tx_grid_after : TuGrid → List ℕ → List ℕ → Marks → List ℕ → Marks
tx_grid_after s leaves skips g keep = settle (tx_grid_check s leaves skips g keep) g (tx_grid_of s leaves skips g)

-- Ticket 7, "The TU grid alone clears the mark": the keep marks afterwards, 0 over mi_cols·mi_rows whatever they were; what lies beyond is kept
unfoldable pub cleared_after : TuGrid → List ℕ → List ℕ → Marks → List ℕ → List ℕ
cleared_after s leaves skips g keep = settle (tx_grid_check s leaves skips g keep) keep (clear_of (s.rows * s.cols) keep)
