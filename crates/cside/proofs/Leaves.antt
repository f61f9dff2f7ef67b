-- A TU grid from leaf records: C is told what it is told where its leaves are numbers.
-- Assumes nothing.
use mathlib.Core.Path.{◌≡◌, refl}
use mathlib.Core.Bool.{Bool, true, false}
use mathlib.Core.List.{List}
use Prim.Native.Nat.{ℕ}
use lib.Dec.{leb}
use lib.ListN.{length}
use lib.IntN.{ℤ}
use Rattle.laws.specs.Choose.{pick, both}
use Rattle.rules.specs.declared.settings.TuGrid.{TuGrid}
use Rattle.rules.specs.declared.refusals.Refusal.TheVariants.{Size}
use Rattle.rules.specs.Refusals.{Answer}
use Rattle.std.specs.declared.result.Result.TheVariants.{Err}
use Rattle.rules.specs.Numbers.{in_range}
use Rattle.rules.specs.Refusals.{or_else, unless, settle}
use Rattle.rules.specs.TuGrid.{Marks, cells_ok, tx_grid_check}
use Rattle.checks.proofs.Checks.{stop, unless_bad}
use Rattle.grid.specs.Stated.{Stated}
use Rattle.answers.specs.Told.{listed, Told}
use Rattle.numbers.specs.Settings.{tu_grid_of}
use Rattle.by_list.specs.Grids.{GridTold}
use Rattle.by_list.specs.Records.{no_grid, tu_grid_read, long_enough}
use Rattle.cside.proofs.Telling.{grid_left}

module _ (settings : List ℤ) (leaves skips : List ℕ) (g : Marks) (k : List ℕ) where
  -- a grid of no cells is refused, whatever the leaves
  none_refused : Err Size ≡ tx_grid_check no_grid leaves skips g k
  unfolding tx_grid_check cells_ok both in_range
  none_refused = stop _ _ (unless_bad _ _ refl)

  module _ (s : TuGrid) {a : Answer} {m : Marks} {n p q : List ℕ} {z : ℤ} (built : Stated s leaves skips g k a m n) (t : Told (long_enough 6 (length settings) a) p z q) where
    abbrev Reports : Type 0
    Reports = GridTold settings leaves skips g k p z m n q

    by_length : (b : Bool) → leb 6 (length settings) ≡ b → s ≡ pick b (tu_grid_of settings) no_grid → Reports
    unfolding pick listed long_enough or_else unless settle
    by_length true l e = rw l (record { told = rw (l, built.answer, e) at t; left_is = rw e at (grid_left leaves skips g k built) })
    by_length false l e = rw l (record { told = rw l at t; left_is = rw (e, ← none_refused) at (grid_left leaves skips g k built) })

    pub records_told : s ≡ tu_grid_read settings → Reports
    unfolding tu_grid_read
    records_told e = by_length (leb 6 (length settings)) refl e
