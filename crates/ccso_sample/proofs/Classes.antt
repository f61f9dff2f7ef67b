-- The place of a tap and its class, by the tests of the code on counts.
-- Assumes nothing.
use mathlib.Core.Path.{◌≡◌, refl, sym, ◌∙◌}
use mathlib.Core.Bool.{Bool, true, false}
use Prim.Native.Nat.{ℕ, ◌+◌, ◌-◌, ◌≤◌, ◌<◌, min, max}
use native.Mathlib.Omega.{arith}
use borrow.Author.Rules.{rules}
use lib.IntN.{ℤ, pos, ◌+ℤ◌, ◌-ℤ◌}
use lib.Signed.{lt_z, le_z}
use Rattle.laws.specs.Choose.{pick, pick_yes, pick_no}
use Rattle.laws.specs.Whole.{Is, count, between, between_is}
use Rattle.laws.proofs.Operations.{plus, differ}
use Rattle.rules.specs.declared.settings.Ccso.{Ccso}
use Rattle.rules.specs.Ccso.{class_of, tap_class}
use Rattle.ccso_sample.specs.declared.counts.Counts.{Counts}
use Rattle.ccso_sample.specs.Ranges.{Ranges, Raised}
use Rattle.laws.specs.Order.{is_lt_z, not_lt_z, is_le_z, not_le_z}

-- a place moved by a tap and limited, in counts
pub limited_is : (at raised size r : ℕ) → r ≡ min (at + raised - 16) (size - 1) → (dx : ℤ) → Is dx raised 16 → r ≡ between 0 (size - 1) (pos at +ℤ dx)
limited_is at raised size r e dx h = e ∙ recount ∙ sym (between_is 0 (size - 1) _ (omega arith) (plus (pos at) dx (count at) h))
  where
    recount : min (at + raised - 16) (size - 1) ≡ max 0 (min (at + raised - (0 + 16)) (size - 1))
    recount = omega arith

-- the three classes of a difference
module _ {s : Ccso} {k : Counts} (up : Raised s k) (tap c : ℕ) where
  pub class_below : tap + 4095 < c + k.lo → s.below ≡ tap_class s tap c
  unfolding tap_class class_of
  class_below h = pick_yes _ _ _ _ (is_lt_z _ _ (differ tap c) up.lo (omega arith)) refl

  pub class_within : c + k.lo ≤ tap + 4095 → tap + 4095 ≤ c + k.hi → s.within ≡ tap_class s tap c
  unfolding tap_class class_of
  class_within h l =
      pick_no _ _ _ _ (not_lt_z _ _ (differ tap c) up.lo (omega arith))
      (pick_yes _ _ _ _ (is_le_z _ _ (differ tap c) up.hi (omega arith)) refl)

  pub class_above : c + k.lo ≤ tap + 4095 → c + k.hi < tap + 4095 → s.above ≡ tap_class s tap c
  unfolding tap_class class_of
  class_above h l =
      pick_no _ _ _ _ (not_lt_z _ _ (differ tap c) up.lo (omega arith))
      (pick_no _ _ _ _ (not_le_z _ _ (differ tap c) up.hi (omega arith)) refl)

-- a class number is one of the three
pub class_most : {s : Ccso} → Ranges s → (tap c : ℕ) → tap_class s tap c ≤ 3
unfolding tap_class class_of pick
class_most {s} a tap c = go (lt_z (pos tap -ℤ pos c) s.lo) (le_z (pos tap -ℤ pos c) s.hi)
  where
    go : (t u : Bool) → pick t s.below (pick u s.within s.above) ≤ 3
    go true u = a.below_most
    go false true = a.within_most
    go false false = a.above_most

pub ruleset classes = (rules, class_below, class_within, class_above)
