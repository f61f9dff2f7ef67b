-- `combine_thresholds` answers by the rule on every input. Assumes nothing.
use mathlib.Core.Path.{refl, ◌∙◌}
use mir.Facts.{to_z-of_z}
use Rattle.checks.proofs.Checks.{handed}
use Rattle.thresholds.proofs.Accepted.{entry_refused, entry_both, depth_good, steps_good, q_good, side_good}
use Rattle.thresholds.proofs.combine.combine_thresholds.Goals as goal

pub returns-in_err-thresholds_check : goal.returns-in_err-thresholds_check
returns-in_err-thresholds_check c =
    let e = rw (to_z-of_z c.ranges.deltaq, to_z-of_z c.ranges.deltaside) at c.in_err-thresholds_check.ensures in
    handed _ c.from_residual.ensures ∙ entry_refused _ _ _ _ _ _ _ e refl

pub q_threshold-q-requires : goal.q_threshold-q-requires
q_threshold-q-requires c =
    let e = c.in_ok-thresholds_check.ensures in
    (depth_good c.args.curr c.args.prev _ _ _ _ _ e refl, q_good c.args.curr c.args.prev _ _ _ _ _ e refl, steps_good c.args.curr c.args.prev _ _ _ _ _ e refl)

pub side_threshold-side-requires : goal.side_threshold-side-requires
side_threshold-side-requires c =
    let e = rw (to_z-of_z c.ranges.deltaq, to_z-of_z c.ranges.deltaside) at c.in_ok-thresholds_check.ensures in
    (depth_good c.args.curr c.args.prev _ _ _ _ _ e refl, rw (to_z-of_z c.ranges.deltaside) (side_good c.args.curr c.args.prev _ _ _ _ _ e refl))

pub returns : goal.returns
returns c =
    let e = rw (to_z-of_z c.ranges.deltaq, to_z-of_z c.ranges.deltaside) at c.in_ok-thresholds_check.ensures in
    let q = rw (to_z-of_z c.ranges.deltaq) at c.q_threshold-q.ensures in
    let s = rw (to_z-of_z c.ranges.deltaside) at c.side_threshold-side.ensures in
    entry_both _ _ _ _ _ _ _ e refl q s
