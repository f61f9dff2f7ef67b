-- The settings' names, each as one number of its letters. Assumes nothing.
use Rattle.std.specs.Prelude.{ℕ, eqb}
use Rattle.laws.specs.Choose.{pick}
use Rattle.text.specs.Words.{spelled}

-- the number of a name, 0 for any other word
unfoldable pub kind_of : ℕ → ℕ
kind_of name =
    pick (eqb name (spelled "settings")) 1
    (pick (eqb name (spelled "qindex")) 2
    (pick (eqb name (spelled "steps")) 3
    (pick (eqb name (spelled "leaf")) 4
    (pick (eqb name (spelled "leaf_uv")) 5
    (pick (eqb name (spelled "skip")) 6
    (pick (eqb name (spelled "delta_y")) 7
    (pick (eqb name (spelled "delta_uv")) 8
    (pick (eqb name (spelled "cap_y")) 9
    (pick (eqb name (spelled "cap_uv")) 10
    (pick (eqb name (spelled "chroma")) 11
    (pick (eqb name (spelled "ccso_y")) 12
    (pick (eqb name (spelled "ccso_u")) 13
    (pick (eqb name (spelled "ccso_v")) 14
    (pick (eqb name (spelled "flags_y")) 15
    (pick (eqb name (spelled "flags_u")) 16
    (pick (eqb name (spelled "flags_v")) 17
    (pick (eqb name (spelled "offset_y")) 18
    (pick (eqb name (spelled "offset_u")) 19
    (pick (eqb name (spelled "offset_v")) 20
    (pick (eqb name (spelled "tiles_y")) 21
    (pick (eqb name (spelled "tiles_uv")) 22
    (pick (eqb name (spelled "keep")) 23
    0))))))))))))))))))))))
