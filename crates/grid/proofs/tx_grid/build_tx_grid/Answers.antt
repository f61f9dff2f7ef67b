-- `build_tx_grid` starts by what it found in the leaves, and paints only where nothing is refused. Assumes nothing.
use mathlib.Core.Path.{refl}
use Rattle.checks.proofs.Checks.{handed}
use Rattle.grid.proofs.Checked.{check_is, after_refused, all_fit, after_accepted}
use Rattle.grid.proofs.Places.{fit_same}
use Rattle.grid.proofs.tx_grid.build_tx_grid.Goals as goal

pub returns-in_err-start : goal.returns-in_err-start
returns-in_err-start c =
    rw (handed _ c.from_residual.ensures) (after_refused _ _ (check_is _ _ _ _ _ _ _ c.leaves_fours-fours.ensures c.leaves_ok-nine.ensures) c.in_err-start.ensures refl)

pub paint_lists-requires : goal.paint_lists-requires
paint_lists-requires c =
    let p = all_fit _ _ (check_is _ _ _ _ _ _ _ c.leaves_fours-fours.ensures c.leaves_ok-nine.ensures) c.in_ok-start.ensures refl in
    record {
      grid_fits = fit_same p.0 c.start.auto.vedge c.start.auto.hedge c.start.auto.sqw c.start.auto.sqh;
      cut = p.1;
      all_good = p.2;
      all_good_2 = p.3;
    }

pub returns : goal.returns
returns c = after_accepted _ _ (check_is _ _ _ _ _ _ _ c.leaves_fours-fours.ensures c.leaves_ok-nine.ensures) c.in_ok-start.ensures refl c.paint_lists.ensures
