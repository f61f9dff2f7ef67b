-- Entries noted in a buffer while edges run: each at its place, where it fits, and else none.
-- Assumes nothing.
use Rattle.std.specs.Prelude.{List, [], ◌∷◌, ℕ, ◌+◌, leb, length}
use Rattle.std.proofs.lemmas.List.Edits.{sets}
use Rattle.laws.specs.Choose.{pick}
use Rattle.rules.specs.declared.edge.Edge.{Edge}
use Rattle.rules.specs.Record.{entry_of}

-- the entry at a place
unfoldable pub noted_one : ℕ → Edge → List ℕ → List ℕ
noted_one at e buffer = pick (leb (at + 10) (length buffer)) (sets buffer at (entry_of e)) buffer

-- a list of entries, the first at a place
unfoldable pub noted : ℕ → List Edge → List ℕ → List ℕ
noted at [] buffer = buffer
noted at (e ∷ es) buffer = noted (at + 10) es (noted_one at e buffer)
