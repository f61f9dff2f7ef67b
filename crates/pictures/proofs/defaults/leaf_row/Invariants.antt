-- `leaf_row` stores a leaf a turn. Assumes nothing.
use mathlib.Core.Path.{◌≡◌}
use Prim.Native.Nat.{◌*◌, ◌≤◌}
use lib.ListN.{length}
use Rattle.laws.specs.Loops.{each}
use Rattle.pictures.specs.Storing.{stored}
use Rattle.pictures.specs.Defaults.{leaf}
use Rattle.pictures.proofs.defaults.leaf_row.Given as goal

abbrev pub invariant-loop-c : goal.invariant-loop-c
invariant-loop-c l = (l.c ≤ l.across) × (length l.shorts ≡ length l.initial.shorts) × (l.shorts ≡ stored l.initial.shorts l.at (each l.c (λ k. leaf l.row (16 * k))))
