-- A list stored into another one, from a place on. Assumes nothing.
use Rattle.std.specs.Prelude.{List, ℕ}
use Rattle.std.proofs.lemmas.List.Edits.{sets}

-- vs over what stood from place i on; what would come to lie beyond the end is lost
unfoldable pub stored : {A : Type 0} → List A → ℕ → List A → List A
stored l i vs = sets l i vs
