-- `build_qindex_grid` answers by its checks, and builds only where they accept. Assumes nothing.
use mathlib.Core.Path.{refl, sym}
use Rattle.rules.specs.QindexGrid.{q_grid_after}
use Rattle.checks.proofs.Checks.{handed, settle_refused, settle_accepted}
use Rattle.qindex.proofs.Checked.{q_accepted}
use Rattle.qindex.proofs.qindex_grid.build_qindex_grid.Goals as goal

pub returns-in_err-q_check : goal.returns-in_err-q_check
unfolding q_grid_after
returns-in_err-q_check c =
    let e = c.in_err-q_check.ensures.of c.args.sbq.now c.args.qindex.now refl refl in
    rw (handed _ c.from_residual.ensures) (e, settle_refused _ _ _ e)

pub qindex_grid-requires : goal.qindex_grid-requires
qindex_grid-requires c = q_accepted _ _ _ (sym (c.in_ok-q_check.ensures.of c.args.sbq.now c.args.qindex.now refl refl))

pub returns : goal.returns
unfolding q_grid_after
returns c =
    let e = c.in_ok-q_check.ensures.of c.args.sbq.now c.args.qindex.now refl refl in
    (e, settle_accepted _ _ _ _ e c.qindex_grid.ensures)
