-- What is said of two records: the first edge that differs, or which record goes on.
-- Assumes nothing.
use Rattle.std.specs.Prelude.{Bool, List, [], ◌∷◌, ℕ, min, eqb, ltb}
use Rattle.laws.specs.Choose.{pick, all}
use Rattle.rules.specs.declared.edge.Edge.{Edge}
use Rattle.std.specs.declared.option.Option.{Option}
use Rattle.std.specs.declared.option.Option.TheVariants.{Some, None}
use Rattle.rules.specs.Refusals.{first, found_unless}
use Rattle.rules.specs.Record.{edge_in, entry_at, entry_count}
use Rattle.compared.specs.declared.beside.Difference.{Difference}
use Rattle.compared.specs.declared.beside.Difference.TheVariants.{Equal, Edges, FirstGoesOn, SecondGoesOn}

unfoldable pub same_numbers : Edge → Edge → Bool
same_numbers e f =
    all
    (eqb e.x f.x
    ∷ eqb e.y f.y
    ∷ eqb e.dir f.dir
    ∷ eqb e.pair f.pair
    ∷ eqb e.q f.q
    ∷ eqb e.side f.side
    ∷ [])

-- entry k of a record
abbrev pub edge_of : List ℕ → ℕ → Edge
edge_of bytes k = edge_in bytes (entry_at k)

-- the first entry that both records have and that differs
unfoldable pub first_difference : List ℕ → List ℕ → Option ℕ
first_difference a b = first (min (entry_count a) (entry_count b)) (λ k. found_unless (same_numbers (edge_of a k) (edge_of b k)) k)

unfoldable pub said_of : List ℕ → List ℕ → Option ℕ → Difference
said_of a b (Some k) = Edges k (edge_of a k) (edge_of b k)
said_of a b None =
    pick (ltb (entry_count b) (entry_count a)) (FirstGoesOn (entry_count b) (edge_of a (entry_count b)))
    (pick (ltb (entry_count a) (entry_count b)) (SecondGoesOn (entry_count a) (edge_of b (entry_count a))) (Equal (entry_count a)))

unfoldable pub difference_of : List ℕ → List ℕ → Difference
difference_of a b = said_of a b (first_difference a b)
