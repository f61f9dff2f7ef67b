-- A TU grid from leaf records: its settings are read before the grid, and its answer is told after.
-- Assumes nothing.
use mathlib.Core.Path.{◌≡◌, refl}
use mathlib.Core.List.{List}
use Prim.Native.Nat.{ℕ, ◌≤◌, ◌<◌}
use lib.ListN.{length}
use lib.IntN.{ℤ}
use Rattle.laws.specs.Choose.{pick_yes, pick_no, is_le, not_le}
use Rattle.rules.specs.declared.settings.TuGrid.{TuGrid}
use Rattle.rules.specs.declared.refusals.Refusal.TheVariants.{Length}
use Rattle.rules.specs.Refusals.{Answer}
use Rattle.std.specs.declared.result.Result.TheVariants.{Err}
use Rattle.checks.proofs.Checks.{stop, go_on, unless_bad, unless_good}
use Rattle.numbers.specs.Settings.{tu_grid_of}
use Rattle.by_list.specs.Records.{no_grid, tu_grid_read, long_enough}

-- ---- before the grid: too few settings, and enough

pub read_short : (settings : List ℤ) → length settings < 6 → no_grid ≡ tu_grid_read settings
unfolding tu_grid_read
read_short settings h = pick_no _ _ _ _ (not_le 6 (length settings) h) refl

pub read_long : (settings : List ℤ) {s : TuGrid} → 6 ≤ length settings → s ≡ tu_grid_of settings → s ≡ tu_grid_read settings
unfolding tu_grid_read
read_long settings h e = pick_yes _ _ _ _ (is_le 6 (length settings) h) e

-- ---- after it

pub too_few : (n m : ℕ) (a : Answer) → m < n → Err Length ≡ long_enough n m a
unfolding long_enough
too_few n m a h = stop _ _ (unless_bad _ _ (not_le n m h))

pub enough : (n m : ℕ) (a : Answer) → n ≤ m → a ≡ long_enough n m a
unfolding long_enough
enough n m a h = go_on _ _ _ (unless_good _ _ (is_le n m h)) refl
