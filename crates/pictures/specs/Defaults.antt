-- What holds where the settings do not say: numbers, a qindex for every superblock, a leaf for every superblock.
-- Assumes nothing.
use Rattle.std.specs.Prelude.{List, [], ◌∷◌, ℕ, ◌+◌, ◌-◌, ◌*◌, eqb, ℤ, pos, get_or, set, replicate}
use Rattle.laws.specs.Choose.{pick}
use Rattle.laws.specs.Loops.{each}
use Rattle.rules.specs.Frame.{superblocks}
use Rattle.pictures.specs.Storing.{stored}

-- luma's and chroma's caps of 16 cells each way at 3 to 6, chroma deblocked at 7; deltas and all else 0
unfoldable pub default_numbers : List ℤ
default_numbers = stored (replicate 64 (pos 0)) 3 (pos 16 ∷ pos 16 ∷ pos 16 ∷ pos 16 ∷ pos 1 ∷ [])

-- ---- superblocks of 64 by 64 samples, 16 by 16 cells

-- the last of n qindex entries serves the superblocks after it, up to the 4096th; without one nothing does
unfoldable pub last_repeated : ℕ → List ℕ → List ℕ
last_repeated n l = pick (eqb n 0) l (stored l n (replicate (4096 - n) (get_or l (n - 1) 0)))

-- the leaf of a superblock: its row and column in cells, and its size
unfoldable pub leaf : ℕ → ℕ → List ℕ
leaf row column = row ∷ column ∷ 16 ∷ 16 ∷ []

-- a leaf for each of a row of superblocks, and for each of the rows
unfoldable pub leaf_row : ℕ → ℕ → List ℕ
leaf_row row across = each across (λ c. leaf row (16 * c))

unfoldable pub leaves : ℕ → ℕ → List ℕ
leaves across down = each down (λ r. leaf_row (16 * r) across)

-- the list of short numbers, whose leaves stand from place 4096 on, and the place after the last of them
unfoldable pub tiled : ℕ → ℕ → List ℕ → List ℕ
tiled across down l = stored l 4096 (leaves across down)

unfoldable pub tiled_end : ℕ → ℕ → ℕ
tiled_end across down = 4096 + 4 * across * down

-- ---- what a picture's size decides, where place 2 is that after the last qindex entry, and place 4 that after the last leaf

-- a leaf for every superblock where there is none
unfoldable pub complete_shorts : ℕ → ℕ → List ℕ → List ℕ → List ℕ
complete_shorts width height places l =
    pick (eqb (get_or places 4 0) 4096) (tiled (superblocks width) (superblocks height) (last_repeated (get_or places 2 0) l)) (last_repeated (get_or places 2 0) l)

unfoldable pub complete_places : ℕ → ℕ → List ℕ → List ℕ
complete_places width height places =
    pick (eqb (get_or places 4 0) 4096) (set places 4 (tiled_end (superblocks width) (superblocks height))) places
