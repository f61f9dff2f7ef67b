-- `delta_ok` is the two tests of a delta. Assumes nothing.
use mir.Syntax.{w32}
use mir.Val.{to_z, of_z}
use mir.Facts.{to_z-of_z}
use native.Mathlib.Omega.{arith}
use lib.IntN.{negsuc}
use Rattle.laws.specs.Whole.{Is, over, under, self, count}
use Rattle.laws.specs.Order.{lt_yes, lt_no}
use Rattle.thresholds.proofs.Indices.{too_low, too_high, in_range_holds}
use Rattle.thresholds.proofs.tests.delta_ok.Goals as goal

pub returns-then-delta-ltminus128 : goal.returns-then-delta-ltminus128
returns-then-delta-ltminus128 c = let d : Is (to_z w32 (of_z w32 c.args.delta)) (over c.args.delta) (under c.args.delta) = rw (to_z-of_z c.ranges.delta) (self c.args.delta) in too_low _ (omega (arith, lt_yes _ _ d (self (negsuc 127)) c.if-delta-ltminus128.true))

pub returns-then-delta-gt127 : goal.returns-then-delta-gt127
returns-then-delta-gt127 c = let d : Is (to_z w32 (of_z w32 c.args.delta)) (over c.args.delta) (under c.args.delta) = rw (to_z-of_z c.ranges.delta) (self c.args.delta) in too_high _ (omega (arith, lt_yes _ _ (count 127) d c.if-delta-gt127.true))

pub returns : goal.returns
returns c =
    let d : Is (to_z w32 (of_z w32 c.args.delta)) (over c.args.delta) (under c.args.delta) = rw (to_z-of_z c.ranges.delta) (self c.args.delta) in
    in_range_holds
    _
    (omega (arith, lt_no _ _ d (self (negsuc 127)) c.if-delta-ltminus128.false))
    (omega (arith, lt_no _ _ (count 127) d c.if-delta-gt127.false))
