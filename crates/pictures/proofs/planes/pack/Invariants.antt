-- `pack` moves a row a turn, towards the front. Assumes nothing.
use mathlib.Core.Path.{◌≡◌}
use Prim.Native.Nat.{ℕ, ◌*◌, ◌≤◌, ◌<◌}
use lib.ListN.{length}
use Rattle.laws.specs.Loops.{each}
use Rattle.pictures.specs.Storing.{stored}
use Rattle.pictures.specs.Rows.{bare_row}
use Rattle.pictures.proofs.Packing.{Holds}
use Rattle.pictures.proofs.planes.pack.Given as goal

abbrev pub invariant-loop-r : goal.invariant-loop-r
invariant-loop-r l = (l.to ≤ l.from) × (l.from ≤ 4096 * l._r) × (l._r ≤ l.s.height) × (length l.plane ≡ length l.initial.plane) × (l.from ≡ l.s.stride * l._r) × (l.to ≡ l.s.width * l._r) × ((k : ℕ) → k < l._r → Holds l.s l.initial.plane k) × (l.plane ≡ stored l.initial.plane 0 (each l._r (bare_row l.s l.initial.plane)))
