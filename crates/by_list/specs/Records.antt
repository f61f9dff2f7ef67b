-- A TU grid's settings and answer where C lends its leaves as records: what is read of a list that may be too short, and the answer by how many numbers it has.
-- Assumes nothing.
use Rattle.std.specs.Prelude.{List, ℕ, leb, length, ℤ}
use Rattle.laws.specs.Choose.{pick}
use Rattle.rules.specs.declared.settings.TuGrid.{TuGrid}
use Rattle.rules.specs.declared.refusals.Refusal.TheVariants.{Length}
use Rattle.rules.specs.Refusals.{Answer}
use Rattle.rules.specs.Refusals.{or_else, unless}
use Rattle.numbers.specs.Settings.{tu_grid_of}

-- a grid of no cells, which is refused
abbrev pub no_grid : TuGrid
no_grid = record { cols = 0; rows = 0; ssx = 0; ssy = 0; capw = 0; caph = 0 }

unfoldable pub tu_grid_read : List ℤ → TuGrid
tu_grid_read settings = pick (leb 6 (length settings)) (tu_grid_of settings) no_grid

-- an answer where n numbers or more are needed and m are lent
unfoldable pub long_enough : ℕ → ℕ → Answer → Answer
long_enough n m a = or_else (unless (leb n m) Length) a
