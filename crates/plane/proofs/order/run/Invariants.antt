-- `run` meets its contract: the invariant says that the superblock columns passed have had their turn. Assumes nothing.
use native.Mathlib.Omega.{arith}
use borrow.Author.Rules.{rules}
use Prim.Native.Nat.{◌*◌, ◌-◌, ◌≤◌}
use lib.ListN.{length}
use mathlib.Core.Path.{◌≡◌, refl}
use Rattle.laws.specs.Loops.{each}
use Rattle.plane.specs.Run.{none, Few, state, Ran}
use Rattle.rules.specs.Plane.{tiled, turn_of, sb_cols}
use Rattle.plane.proofs.Runs.{field_same, few_none, few_then, few_most, most_none, ran_none, ran_more}
use Rattle.plane.proofs.Superblocks.{sb_some, sb_last, sb_most, sb_part, horz_of, edges_are}
use Rattle.plane.proofs.order.run.Given as goal

abbrev pub invariant-loop-sb : goal.invariant-loop-sb
invariant-loop-sb l = (l.sb ≤ l.n)
    × Ran l.s l.table l.keep (λ steps ts. each l.sb (λ k. turn_of l.s steps (tiled l.vedge l.hedge l.sqw l.sqh l.qindex ts) k)) (state l.initial.plane l.initial.buffer none) (state l.plane l.buffer l.done)
    × (length l.plane ≡ length l.initial.plane) × (length l.buffer ≡ length l.initial.buffer) × Few (l.sb * 2097152) none l.done

abbrev pub decreases-loop-sb : goal.decreases-loop-sb
decreases-loop-sb l = l.n - l.sb
