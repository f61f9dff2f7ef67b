-- The formats of a picture by their names, each name as one number of its letters. Assumes nothing.
use Rattle.std.specs.Prelude.{ℕ, ◌+◌, List, Bool, true, false, eqb, ltb}
use Rattle.laws.specs.Choose.{pick}
use Rattle.text.specs.Words.{word_at, spelled}
use Rattle.y4m.specs.declared.format.Layout.{Layout}

abbrev pub form : ℕ → ℕ → Bool → ℕ → Layout
form x y c d = record { ssx = x; ssy = y; chroma = c; depth = d }

abbrev pub none : Layout
none = form 0 0 false 0

-- by their names
unfoldable pub layout_of : ℕ → Layout
layout_of name =
    pick (eqb name (spelled "420")) (form 1 1 true 8)
    (pick (eqb name (spelled "420jpeg")) (form 1 1 true 8)
    (pick (eqb name (spelled "420mpeg2")) (form 1 1 true 8)
    (pick (eqb name (spelled "420paldv")) (form 1 1 true 8)
    (pick (eqb name (spelled "420p10")) (form 1 1 true 10)
    (pick (eqb name (spelled "420p12")) (form 1 1 true 12)
    (pick (eqb name (spelled "422")) (form 1 0 true 8)
    (pick (eqb name (spelled "422p10")) (form 1 0 true 10)
    (pick (eqb name (spelled "422p12")) (form 1 0 true 12)
    (pick (eqb name (spelled "444")) (form 0 0 true 8)
    (pick (eqb name (spelled "444p10")) (form 0 0 true 10)
    (pick (eqb name (spelled "444p12")) (form 0 0 true 12)
    (pick (eqb name (spelled "mono")) (form 0 0 false 8)
    (pick (eqb name (spelled "mono10")) (form 0 0 false 10)
    (pick (eqb name (spelled "mono12")) (form 0 0 false 12)
    none))))))))))))))

-- after the letter C where the line has one, else 420
unfoldable pub format_at : List ℕ → ℕ → ℕ → Layout
format_at xs at end = pick (ltb (at + 1) end) (layout_of (word_at xs (at + 2) end).value) (layout_of (spelled "420"))
