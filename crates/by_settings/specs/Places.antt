-- Where a refusal stands: a plane or list by its number, and a row and a column.
-- Assumes nothing.
use Rattle.std.specs.Prelude.{Bool, false, List, ℕ, ◌+◌, ◌*◌, ◌/◌, ◌%◌, eqb, leb, ltb, get_or, length}
use Rattle.laws.specs.Choose.{pick, both}
use Rattle.rules.specs.declared.settings.Frame.{Frame}
use Rattle.std.specs.declared.option.Option.{Option}
use Rattle.std.specs.declared.option.Option.TheVariants.{Some, None}
use Rattle.rules.specs.Numbers.{depth_ok, top_of}
use Rattle.rules.specs.TuGrid.{bad_leaf}
use Rattle.by_settings.specs.declared.places.Place.{Place}

-- ---- the planes and lists by number

-- luma, U and V
abbrev pub in_luma : ℕ
in_luma = 0

abbrev pub in_u : ℕ
in_u = 1

abbrev pub in_v : ℕ
in_v = 2

-- both planes of chroma
abbrev pub in_chroma : ℕ
in_chroma = 3

-- luma's leaves, chroma's leaves, the skip leaves
abbrev pub in_leaves : ℕ
in_leaves = 4

abbrev pub in_chroma_leaves : ℕ
in_chroma_leaves = 5

abbrev pub in_skips : ℕ
in_skips = 6

-- the step table
abbrev pub in_steps : ℕ
in_steps = 7

-- the frame as a whole
abbrev pub in_frame : ℕ
in_frame = 8

-- ---- a place

abbrev pub place : ℕ → ℕ → ℕ → Place
place plane row column = record { plane = plane; row = row; column = column }

-- number k of rows that are so far across; a list without rows is one row
unfoldable pub place_in : ℕ → ℕ → ℕ → Place
place_in plane k across = pick (eqb across 0) (place plane 0 k) (place plane (k / across) (k % across))

-- sample k is above the depth's top
unfoldable pub over_top : ℕ → List ℕ → ℕ → Bool
over_top depth xs k = both (depth_ok depth) (ltb (top_of depth) (get_or xs k 0))

-- the first of luma, U and V whose sample k is above top, V where neither of the others has one
unfoldable pub sample_place : Frame → List ℕ → List ℕ → ℕ → Place
sample_place f y u k =
    pick (over_top f.depth y k) (place_in in_luma k f.lumastride)
    (pick (over_top f.depth u k) (place_in in_u k f.chromastride) (place_in in_v k f.chromastride))

-- a leaf's own row and column; one that the list lacks stands by its number
unfoldable pub leaf_place : ℕ → List ℕ → ℕ → Place
leaf_place plane leaves k =
    pick (leb (length leaves / 4) k) (place_in plane k 0) (place plane (get_or leaves (k * 4) 0) (get_or leaves (k * 4 + 1) 0))

-- the first of two where something was found, the second where not
unfoldable pub if_found : {A : Type 0} → Option ℕ → A → A → A
if_found (Some k) a b = a
if_found None a b = b

-- the first of luma's, chroma's and the skip leaves that has a bad one
unfoldable pub leaves_place : List ℕ → List ℕ → List ℕ → ℕ → Place
leaves_place leaves chroma skips k =
    if_found (bad_leaf false leaves) (leaf_place in_leaves leaves k)
    (if_found (bad_leaf false chroma) (leaf_place in_chroma_leaves chroma k) (leaf_place in_skips skips k))
