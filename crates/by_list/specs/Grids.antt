-- What a TU grid's entries tell C: its four lists and its keep marks.
-- Assumes nothing.
use Rattle.std.specs.Prelude.{List, ℕ, ◌*◌, ℤ}
use Rattle.rules.specs.Refusals.{Answer}
use Rattle.rules.specs.TuGrid.{Marks, clear_of, tx_grid_check, tx_grid_of}
use Rattle.answers.specs.Told.{listed, Reported}
use Rattle.numbers.specs.Settings.{tu_grid_of}

abbrev pub c_grid_check : List ℤ → List ℕ → List ℕ → Marks → List ℕ → Answer
c_grid_check settings leaves skips g k = listed 6 settings (tx_grid_check (tu_grid_of settings) leaves skips g k)

-- the lists that an accepted grid is built in, and ticket 7: "The TU grid alone clears the mark"
abbrev pub c_grid_of : List ℤ → List ℕ → List ℕ → Marks → List ℕ → Marks × List ℕ
c_grid_of settings leaves skips g k =
    let s = tu_grid_of settings in
    (tx_grid_of s leaves skips g, clear_of (s.rows * s.cols) k)

-- what C is told of lists g and keep marks k: the answer r, the lists m and the keep marks n
abbrev pub GridTold : List ℤ → List ℕ → List ℕ → Marks → List ℕ → List ℕ → ℤ → Marks → List ℕ → List ℕ → Type 0
GridTold settings leaves skips g k place r m n placed =
    Reported (c_grid_check settings leaves skips g k) (g, k) (c_grid_of settings leaves skips g k) place r (m, n) placed
