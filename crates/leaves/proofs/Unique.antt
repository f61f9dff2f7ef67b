-- Two results that the entry's promise allows are equal.
-- Assumes nothing.
use mathlib.Core.Path.{◌≡◌}
use mathlib.Core.List.{List}
use Prim.Native.Nat.{ℕ}
use Rattle.rules.specs.declared.settings.TuGrid.{TuGrid}
use Rattle.rules.specs.Refusals.{Answer}
use Rattle.rules.specs.TuGrid.{Marks}
use Rattle.grid.specs.Stated.{Stated}
use Rattle.grid.proofs.Unique.{tx_unique}
use Rattle.leaves.specs.declared.records.Leaf.{Leaf}
use Rattle.leaves.specs.Records.{flat}

pub record_unique : (s : TuGrid) (ls skips : List Leaf) (g : Marks) (k : List ℕ) {a b : Answer} {m1 m2 : Marks} {n1 n2 : List ℕ} → Stated s (flat ls) (flat skips) g k a m1 n1 → Stated s (flat ls) (flat skips) g k b m2 n2 → (a ≡ b) × (m1 ≡ m2) × (n1 ≡ n2)
record_unique s ls skips g k p q = tx_unique p q
