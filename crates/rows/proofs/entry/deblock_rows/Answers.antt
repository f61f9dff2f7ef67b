-- `deblock_rows` meets its contract. Assumes nothing.
use mathlib.Core.Path.{sym, ◌∙◌}
use borrow.Author.Rules.{rules}
use Rattle.plane.proofs.Accepting.{settled, checked_samples}
use Rattle.rows.proofs.Calls.{stated_refused, band_asks, stated_run}
use Rattle.rows.proofs.entry.deblock_rows.Goals as goal

pub rows_check-a-requires : goal.rows_check-a-requires
rows_check-a-requires c = λ e. checked_samples (settled _ _ _ _ (sym c.settings_check-given.ensures ∙ e))

pub returns-in-Err : goal.returns-in-Err
returns-in-Err c = stated_refused _ _ _ _ _ _ (c.rows_check-a.ensures _ _ c.settings_check-given.ensures) (search rules) c.spent_by-kept.ensures

pub run_band-done-requires : goal.run_band-done-requires
run_band-done-requires c = band_asks _ _ _ _ _ _ (c.rows_check-a.ensures _ _ c.settings_check-given.ensures) (search rules)

pub final_rows-requires : goal.final_rows-requires
final_rows-requires c = (band_asks _ _ _ _ _ _ (c.rows_check-a.ensures _ _ c.settings_check-given.ensures) (search rules)).0.sizes_ok.rows_most

pub returns : goal.returns
returns c = stated_run _ _ _ _ _ _ (c.rows_check-a.ensures _ _ c.settings_check-given.ensures) (search rules) c.run_band-done.ensures c.final_rows.ensures
