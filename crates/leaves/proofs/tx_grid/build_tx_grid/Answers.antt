-- `build_tx_grid` starts by what it found in both lists, and paints only where nothing is refused. Assumes nothing.
use Rattle.std.proofs.Common.{◌≡◌, ◌∙◌, true, false, List, ℕ, length}
use Rattle.checks.proofs.Checks.{handed}
use Rattle.rules.specs.declared.settings.TuGrid.{TuGrid}
use Rattle.rules.specs.TuGrid.{Marks, tx_grid_check}
use Rattle.grid.specs.Start.{start_check}
use Rattle.grid.proofs.Places.{fit_same}
use Rattle.leaves.specs.declared.records.Leaf.{Leaf}
use Rattle.leaves.specs.Records.{flat, good_of, leaves_check}
use Rattle.leaves.proofs.Entry.{check_is, after_refused, all_accepted, after_accepted}
use Rattle.leaves.proofs.tx_grid.build_tx_grid.Goals as goal

-- the checks by what a look through both lists found
looked : (s : TuGrid) (ls skips : List Leaf) (g : Marks) (keep : List ℕ) (good sound : ℕ) → good ≡ good_of false ls → sound ≡ good_of true skips
    → start_check s true (leaves_check (length ls) good (length skips) sound) g keep ≡ tx_grid_check s (flat ls) (flat skips) g keep
looked s ls skips g keep good sound e f = rw (e, f) (check_is s ls skips g keep)

pub returns-in_err-start : goal.returns-in_err-start
returns-in_err-start c =
    rw (handed _ c.from_residual.ensures)
    (after_refused _ _ c.args.ls.now c.args.skips.now _ _ _ _ (looked _ _ _ _ _ _ _ c.good_leaves-good.ensures c.good_leaves-sound.ensures) c.in_err-start.ensures)

pub paint_leaves-requires : goal.paint_leaves-requires
paint_leaves-requires c =
    let p = all_accepted c.args.s _ c.args.ls.now c.args.skips.now _ _ _ _ (looked _ _ _ _ _ _ _ c.good_leaves-good.ensures c.good_leaves-sound.ensures) c.in_ok-start.ensures in
    (fit_same p.0 c.start.auto.vedge c.start.auto.hedge c.start.auto.sqw c.start.auto.sqh, p.1, p.2)

pub paint_leaves-requires-2 : goal.paint_leaves-requires-2
paint_leaves-requires-2 c =
    let p = all_accepted c.args.s _ c.args.ls.now c.args.skips.now _ _ _ _ (looked _ _ _ _ _ _ _ c.good_leaves-good.ensures c.good_leaves-sound.ensures) c.in_ok-start.ensures in (
      fit_same p.0 (c.paint_leaves.auto.vedge ∙ c.start.auto.vedge) (c.paint_leaves.auto.hedge ∙ c.start.auto.hedge) (c.paint_leaves.auto.sqw ∙ c.start.auto.sqw) (c.paint_leaves.auto.sqh ∙ c.start.auto.sqh),
      p.1,
      p.3,
    )

pub returns : goal.returns
returns c =
    after_accepted c.args.s _ c.args.ls.now c.args.skips.now _ _ _ _ (looked _ _ _ _ _ _ _ c.good_leaves-good.ensures c.good_leaves-sound.ensures) c.in_ok-start.ensures
    _ c.paint_leaves.ensures c.paint_leaves-2.ensures
