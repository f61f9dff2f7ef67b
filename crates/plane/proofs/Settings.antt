-- The checks 1 to 7 in their order, as the code comes by them.
-- Assumes nothing.
use mathlib.Core.Path.{◌≡◌}
use mathlib.Core.Bool.{Bool, false, not}
use mathlib.Core.List.{List}
use Prim.Native.Nat.{ℕ}
use lib.IntN.{ℤ}
use mir.Syntax.{w32}
use mir.Val.{SFits, to_z, of_z}
use mir.Facts.{to_z-of_z}
use Rattle.laws.specs.Choose.{told_yes_not}
use Rattle.rules.specs.declared.settings.Plane.{Plane}
use Rattle.rules.specs.Refusals.{Answer}
use Rattle.std.specs.declared.result.Result.TheVariants.{Ok}
use Rattle.rules.specs.Numbers.{depth_ok}
use Rattle.rules.specs.Refusals.{or_else}
use Rattle.rules.specs.Thresholds.{steps_check, deltas_check}
use Rattle.rules.specs.Plane.{Grid, tiles_check, plane_sizes_ok, plane_lengths_ok}
use Rattle.rules.specs.Rows.{settings_check}
use Rattle.checks.proofs.Checks.{go_on, accepted_by, unless_good}
use Rattle.plane.specs.Checked.{grid_check}

-- the deltas as they are read from the settings
pub deltas_read : {q side : ℤ} {a : Answer} → SFits w32 q → SFits w32 side → a ≡ deltas_check (to_z w32 (of_z w32 q)) (to_z w32 (of_z w32 side)) → a ≡ deltas_check q side
deltas_read {q} {side} fits fits' e = rw (to_z-of_z {w = w32} {z = q} fits, to_z-of_z {w = w32} {z = side} fits') at e

-- depth, sizes and lengths were good
module _ (s : Plane) (steps : List ℕ) (g : Grid) (n : ℕ) {a b c : Bool} (d : a ≡ depth_ok s.depth) (d' : not a ≡ false) (e : b ≡ plane_sizes_ok s) (e' : not b ≡ false) (f : c ≡ plane_lengths_ok s g n) (f' : not c ≡ false) where
  pub past_lengths : {x : Answer} → x ≡ or_else (steps_check steps) (or_else (deltas_check s.deltaq s.deltaside) (or_else (tiles_check s.cols g.tiles) (grid_check s g))) → x ≡ settings_check s steps g n
  unfolding settings_check grid_check
  past_lengths rest = go_on _ _ _ (unless_good _ _ (told_yes_not _ _ d d')) (go_on _ _ _ (unless_good _ _ (told_yes_not _ _ e e')) (go_on _ _ _ (unless_good _ _ (told_yes_not _ _ f f')) rest))

  -- and the steps and the deltas
  pub past_deltas : {x y z : Answer} → y ≡ steps_check steps → y ≡ Ok tt → z ≡ deltas_check s.deltaq s.deltaside → z ≡ Ok tt → x ≡ or_else (tiles_check s.cols g.tiles) (grid_check s g) → x ≡ settings_check s steps g n
  past_deltas {x} {y} {z} i i' j j' rest = past_lengths (go_on _ _ _ (accepted_by _ y i i') (go_on _ _ _ (accepted_by _ z j j') rest))
