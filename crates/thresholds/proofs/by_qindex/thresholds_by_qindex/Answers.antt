-- `thresholds_by_qindex` starts from a table of the last number alone, and fills it place by place up to where all are alike. Assumes nothing.
use mathlib.Core.Path.{◌≡◌}
use Prim.Native.Nat.{◌-◌, ◌≤◌}
use native.Mathlib.Omega.{arith}
use borrow.Author.Rules.{rules}
use mir.Syntax.{w32}
use mir.Val.{to_z}
use mir.Facts.{to_z-of_z}
use lib.ListN.{length}
use Rattle.laws.specs.Loops.{filled, filled_none, filled_more}
use Rattle.thresholds.specs.ByQindex.{packed_of, last_qindex}
use Rattle.thresholds.proofs.Packed.{steady_most, by_qindex}
use Rattle.thresholds.proofs.by_qindex.thresholds_by_qindex.Goals as goal

pub loop-k-init : goal.loop-k-init
loop-k-init c =
    let f = c.ranges in
    let pre = c.requires in
    let m = steady_most _ _ _ pre.0 pre.1 pre.2 in
    let n = rw (to_z-of_z f.deltaq, to_z-of_z f.deltaside) at c.steady_from-n.ensures in
    (omega arith, omega arith, search rules, search filled_none)

pub loop-k-preserved : goal.loop-k-preserved
loop-k-preserved c = (omega arith, search rules, search rules, filled_more _ _ _ c.loop-k.invariant.3 (rw c.packed.ensures))

pub returns : goal.returns
returns c =
    let f = c.ranges in
    let pre = c.requires in
    let inv = c.loop-k.invariant in
    let last = rw (to_z-of_z f.deltaq, to_z-of_z f.deltaside) at c.packed-last.ensures in
    let n = rw (to_z-of_z f.deltaq, to_z-of_z f.deltaside) at c.steady_from-n.ensures in
    by_qindex _ _ _ _ pre.0 pre.1 pre.2 _ _ last (omega arith) (rw (to_z-of_z f.deltaq, to_z-of_z f.deltaside) at inv.3)
