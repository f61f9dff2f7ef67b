-- The checks of sizes and settings: ranges of signed numbers by their two counts, and the settings' check as its three parts.
-- Assumes nothing.
use mathlib.Core.Path.{◌≡◌, refl, sym, ap, ◌∙◌}
use mathlib.Core.Bool.{Bool, true, false, not}
use mathlib.Core.List.{List, [], ◌∷◌, ◌++◌}
use Prim.Native.Nat.{ℕ, ◌≤◌, ◌<◌}
use borrow.Author.Tests.{not-true, not-false}
use lib.Dec.{leb}
use lib.IntN.{ℤ, pos, neg_ℤ}
use lib.Signed.{le_z, mag}
use mir.Syntax.{w32}
use mir.Val.{SFits, to_z, of_z}
use mir.Facts.{to_z-of_z}
use Rattle.laws.specs.Choose.{all, both, both_bad, both_ok, told_yes_not, told_no_not}
use Rattle.laws.specs.Whole.{over, under}
use Rattle.laws.specs.Machine.{back}
use Rattle.rules.specs.declared.settings.Ccso.{Ccso}
use Rattle.rules.specs.Numbers.{in_range_z}
use Rattle.rules.specs.Ccso.{ccso_settings_ok}
use Rattle.ccso.specs.Checks.{cuts_ok, classes_ok, taps_ok}
use Rattle.checks.proofs.Ranges.{range_below, range_above}

-- ---- a signed number in -low..high

-- by a number's split, which was read back
module _ (z : ℤ) (low high : ℕ) (fit : SFits w32 z) (d : ℕ) (e : d ≡ under (to_z w32 (of_z w32 z))) where
  down_is : d ≡ under z
  down_is = rw (to_z-of_z fit) at e

  pub split_below : low < d → false ≡ in_range_z (neg_ℤ (pos low)) (pos high) z
  split_below h = range_below z low high (rw down_is at h)

  pub split_above : (u : ℕ) → u ≡ over (to_z w32 (of_z w32 z)) → d ≤ low → leb u high ≡ in_range_z (neg_ℤ (pos low)) (pos high) z
  split_above u f h = ap (λ (n : ℕ). leb n high) (rw (to_z-of_z fit) at f) ∙ range_above z low high (rw down_is at h)

-- a callee's answer on a field that was read back, and how the branch on it came out
module _ (z low high : ℤ) (u : Bool) (m : mag z < 2147483648) (e : u ≡ in_range_z low high (to_z w32 (of_z w32 z))) where
  told : u ≡ in_range_z low high z
  told = rw (back z m) at e

  pub range_yes : not u ≡ false → true ≡ in_range_z low high z
  range_yes f = sym (not-false u f) ∙ told

  pub range_no : not u ≡ true → false ≡ in_range_z low high z
  range_no f = sym (not-true u f) ∙ told

pub order_told : (z w : ℤ) (u : Bool) → mag z < 2147483648 → mag w < 2147483648 → u ≡ le_z (to_z w32 (of_z w32 z)) (to_z w32 (of_z w32 w)) → u ≡ le_z z w
order_told z w u m n e = rw (back z m, back w n) at e

-- ---- the settings' check in three parts

all_join : (xs ys : List Bool) → all (xs ++ ys) ≡ both (all xs) (all ys)
unfolding all both
all_join [] ys = refl
all_join (true ∷ xs) ys = all_join xs ys
all_join (false ∷ xs) ys = refl

pub three_parts : (s : Ccso) → ccso_settings_ok s ≡ both (cuts_ok s) (both (classes_ok s) (taps_ok s))
unfolding ccso_settings_ok cuts_ok classes_ok taps_ok
three_parts s = all_join (_ ∷ _ ∷ _ ∷ _ ∷ []) _ ∙ ap (both _) (all_join (_ ∷ _ ∷ _ ∷ []) _)

-- each way out of it
module _ (s : Ccso) where
  pub settings_cuts : false ≡ cuts_ok s → false ≡ ccso_settings_ok s
  settings_cuts e = both_bad _ _ e ∙ sym (three_parts s)

  pub settings_classes : true ≡ cuts_ok s → false ≡ classes_ok s → false ≡ ccso_settings_ok s
  settings_classes e f = both_ok _ _ _ e (both_bad _ _ f) ∙ sym (three_parts s)

  pub settings_taps : (u : Bool) → true ≡ cuts_ok s → true ≡ classes_ok s → u ≡ taps_ok s → u ≡ ccso_settings_ok s
  settings_taps u e f g = both_ok _ _ _ e (both_ok _ _ _ f g) ∙ sym (three_parts s)

pub ruleset settings = (told_yes_not, told_no_not, settings_cuts, settings_classes, settings_taps)
