-- `first_places` takes each kind's first place from its rule. Assumes nothing.
use mathlib.Core.Path.{◌≡◌}
use lib.ListN.{length}
use Rattle.laws.specs.Loops.{filled}
use Rattle.settings.proofs.Rules.{from_of}
use Rattle.settings.proofs.names.first_places.Given as goal

abbrev pub invariant-loop-k : goal.invariant-loop-k
invariant-loop-k l = (length l.places ≡ 24) × (l.places ≡ filled l.initial.places (from_of l.n) l.k)
