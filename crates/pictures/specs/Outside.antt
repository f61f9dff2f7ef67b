-- What the settings and the header must not say: a leaf that begins outside the picture, a letter's value twice. Assumes nothing.
use Rattle.std.specs.Prelude.{ℕ, ◌+◌, ◌-◌, ◌*◌, ◌/◌, List, Bool, false, leb, ltb, length, get_or}
use Rattle.laws.specs.Choose.{pick, either}
use Rattle.text.specs.Places.{seek}
use Rattle.y4m.specs.Headers.{tag_at}

-- a place, by its row and column
unfoldable pub beyond : ℕ → ℕ → ℕ → ℕ → Bool
beyond rows columns row column = either (leb rows row) (leb columns column)

-- leaf k, of four numbers, begins beyond
unfoldable pub beyond_at : ℕ → ℕ → List ℕ → ℕ → Bool
beyond_at rows columns leaves k = beyond rows columns (get_or leaves (4 * k) 0) (get_or leaves (4 * k + 1) 0)

-- the first such leaf, or how many leaves there are
unfoldable pub outside_of : ℕ → ℕ → List ℕ → ℕ
outside_of rows columns leaves = seek (beyond_at rows columns leaves) 0 (length leaves / 4)

-- a letter has a value at one place of a line, and then at another one
unfoldable pub again_of : List ℕ → ℕ → ℕ → ℕ → Bool
again_of xs letter last first =
    pick (ltb first last) (ltb (seek (tag_at xs letter) (first + 1) (last - (first + 1))) last) false

unfoldable pub twice_of : List ℕ → ℕ → ℕ → Bool
twice_of xs letter last = again_of xs letter last (seek (tag_at xs letter) 0 last)
