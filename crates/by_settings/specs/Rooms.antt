-- How many numbers each list of the settings holds, and the kinds of settings by their names, as `settings` counts them. Assumes nothing.
use Rattle.std.specs.Prelude.{ℕ, ◌+◌, ◌*◌}

-- ---- rooms

-- the places for a frame's signed numbers, and for those of each plane's CCSO settings
abbrev pub numbers_each : ℕ
numbers_each = 16

-- all of them
abbrev pub numbers_room : ℕ
numbers_room = 4 * numbers_each

-- those that a frame has
abbrev pub frame_numbers : ℕ
frame_numbers = 8

-- the qindex entries, one for each superblock
abbrev pub qindex_room : ℕ
qindex_room = 4096

-- the tile starts of luma, and of chroma
abbrev pub tiles_room : ℕ
tiles_room = 1023

-- the kept rectangles, four numbers each
abbrev pub keeps_room : ℕ
keeps_room = 16384

-- the short numbers where no leaf has room
abbrev pub fewest_shorts : ℕ
fewest_shorts = qindex_room + tiles_room + tiles_room + keeps_room

-- the steps
abbrev pub steps_room : ℕ
steps_room = 352

-- the CCSO flags of a plane, and its offsets
abbrev pub flags_room : ℕ
flags_room = 4096

abbrev pub offsets_room : ℕ
offsets_room = 128

-- those of luma, U and V
abbrev pub planes_room : ℕ → ℕ
planes_room room = 3 * room

-- ---- kinds: a place after the last number for each, and none for kind 0

abbrev pub kinds : ℕ
kinds = 24

abbrev pub steps_kind : ℕ
steps_kind = 3

abbrev pub leaf_kind : ℕ
leaf_kind = 4

abbrev pub chroma_leaf_kind : ℕ
chroma_leaf_kind = 5

abbrev pub skip_kind : ℕ
skip_kind = 6

-- the CCSO settings of plane p: luma, U, V
abbrev pub ccso_kind : ℕ → ℕ
ccso_kind p = 12 + p

abbrev pub tiles_kind : ℕ
tiles_kind = 21

abbrev pub chroma_tiles_kind : ℕ
chroma_tiles_kind = 22

abbrev pub keep_kind : ℕ
keep_kind = 23
