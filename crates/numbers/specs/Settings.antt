-- An entry's settings as C lends them: a list of numbers, in the order of the settings' fields.
-- Assumes nothing.
use Rattle.std.specs.Prelude.{Bool, true, false, List, ℕ, eqb, get_or, ℤ, pos, negsuc}
use Rattle.rules.specs.declared.settings.Plane.{Plane}
use Rattle.rules.specs.declared.settings.Replay.{Replay}
use Rattle.rules.specs.declared.settings.TuGrid.{TuGrid}
use Rattle.rules.specs.declared.settings.QindexGrid.{QindexGrid}
use Rattle.rules.specs.declared.settings.Keep.{Keep}
use Rattle.rules.specs.declared.settings.Ccso.{Ccso}

-- number k of the list
unfoldable pub number_at : List ℤ → ℕ → ℤ
number_at l k = get_or l k (pos 0)

-- a count; a negative number is none, and stands for the largest number of 32 bits, which no range holds
unfoldable pub count_of : ℤ → ℕ
count_of (pos n) = n
count_of (negsuc n) = 4294967295

-- whether a number is one
unfoldable pub is_count : ℤ → Bool
is_count (pos n) = true
is_count (negsuc n) = false

unfoldable pub count_at : List ℤ → ℕ → ℕ
count_at l k = count_of (number_at l k)

-- a plane's, eleven numbers: chroma is 0 or 1
unfoldable pub plane_of : List ℤ → Plane
plane_of l = record {
  cols = count_at l 0;
  rows = count_at l 1;
  stride = count_at l 2;
  width = count_at l 3;
  height = count_at l 4;
  sbw = count_at l 5;
  sbh = count_at l 6;
  chroma = eqb (count_at l 7) 1;
  depth = count_at l 8;
  deltaq = number_at l 9;
  deltaside = number_at l 10;
}

-- of a plane on which a record is run, four numbers
unfoldable pub replay_settings : List ℤ → Replay
replay_settings l = record {
  cols = count_at l 0;
  rows = count_at l 1;
  stride = count_at l 2;
  depth = count_at l 3;
}

-- a TU grid's, six numbers
unfoldable pub tu_grid_of : List ℤ → TuGrid
tu_grid_of l = record {
  cols = count_at l 0;
  rows = count_at l 1;
  ssx = count_at l 2;
  ssy = count_at l 3;
  capw = count_at l 4;
  caph = count_at l 5;
}

-- a qindex grid's, five numbers
unfoldable pub qindex_grid_of : List ℤ → QindexGrid
qindex_grid_of l = record {
  cols = count_at l 0;
  rows = count_at l 1;
  ssx = count_at l 2;
  ssy = count_at l 3;
  sbcols = count_at l 4;
}

-- of keep marks over a rectangle, six numbers
unfoldable pub rectangle_of : List ℤ → Keep
rectangle_of l = record {
  cols = count_at l 0;
  rows = count_at l 1;
  row = count_at l 2;
  col = count_at l 3;
  h = count_at l 4;
  w = count_at l 5;
}

-- CCSO's, sixteen numbers
unfoldable pub offsets_of : List ℤ → Ccso
offsets_of l = record {
  width = count_at l 0;
  height = count_at l 1;
  ssx = count_at l 2;
  ssy = count_at l 3;
  depth = count_at l 4;
  scale = count_at l 5;
  lo = number_at l 6;
  hi = number_at l 7;
  below = count_at l 8;
  within = count_at l 9;
  above = count_at l 10;
  dx0 = number_at l 11;
  dy0 = number_at l 12;
  dx1 = number_at l 13;
  dy1 = number_at l 14;
  bandlog = count_at l 15;
}
