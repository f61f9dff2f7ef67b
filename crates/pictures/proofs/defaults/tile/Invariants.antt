-- `tile` stores a row of leaves a turn. Assumes nothing.
use mathlib.Core.Path.{◌≡◌}
use Prim.Native.Nat.{◌+◌, ◌*◌, ◌≤◌}
use lib.ListN.{length}
use Rattle.laws.specs.Loops.{each}
use Rattle.pictures.specs.Storing.{stored}
use Rattle.pictures.specs.Defaults.{leaf_row}
use Rattle.pictures.proofs.defaults.tile.Given as goal

abbrev pub invariant-loop-r : goal.invariant-loop-r
invariant-loop-r l = (l.r ≤ l.down) × (l.at ≤ 4096 + 256 * l.r) × (length l.shorts ≡ length l.initial.shorts) × (l.at ≡ 4096 + 4 * l.across * l.r) × (l.shorts ≡ stored l.initial.shorts 4096 (each l.r (λ k. leaf_row (16 * k) l.across)))
