-- Lists of leaf records as document 01's lists of four numbers a leaf, and refusal 9 by what a look through them found.
-- Assumes nothing.
use Rattle.std.specs.Prelude.{Bool, List, [], ◌∷◌, ℕ, ltb, length}
use Rattle.rules.specs.declared.refusals.Refusal.TheVariants.{Leaf as BadLeaf}
use Rattle.rules.specs.Refusals.{Answer}
use Rattle.std.specs.declared.option.Option.{Option}
use Rattle.std.specs.declared.option.Option.TheVariants.{Some, None}
use Rattle.rules.specs.Refusals.{or_else, found, found_if}
use Rattle.rules.specs.TuGrid.{bad_leaf}
use Rattle.leaves.specs.declared.records.Leaf.{Leaf}

-- a leaf of zeros: what stands past the end of a list
abbrev pub none : Leaf
none = record { row = 0; col = 0; w = 0; h = 0 }

-- "four numbers a leaf"
unfoldable pub flat : List Leaf → List ℕ
flat [] = []
flat (l ∷ ls) = l.row ∷ l.col ∷ l.w ∷ l.h ∷ flat ls

-- the place found, or the count where nothing was found
unfoldable pub place_or : Option ℕ → ℕ → ℕ
place_or (Some k) n = k
place_or None n = n

-- how many leaves stand before the first bad one
unfoldable pub good_of : Bool → List Leaf → ℕ
good_of skip ls = place_or (bad_leaf skip (flat ls)) (length ls)

-- the first bad one of n leaves, of which so many good ones stand before it
unfoldable pub bad_after : ℕ → ℕ → Option ℕ
bad_after n good = found_if (ltb good n) good

-- refusal 9 of n leaves, and then of m skip leaves
unfoldable pub leaves_check : ℕ → ℕ → ℕ → ℕ → Answer
leaves_check n good m sound = or_else (found (bad_after n good) BadLeaf) (found (bad_after m sound) BadLeaf)
