-- The width choice in the order and the grouping of the code: the same width.
-- Assumes nothing.
use mathlib.Core.Path.{◌≡◌, refl, sym, ◌∙◌}
use mathlib.Core.Bool.{Bool, true, false}
use mathlib.Core.List.{List}
use Prim.Native.Nat.{ℕ, ◌+◌, ◌*◌, ◌/◌, max}
use borrow.Author.Rules.{rules}
use lib.Dec.{eqb, ltb}
use lib.ListN.{get_or}
use Rattle.laws.specs.Choose.{pick, either}
use Rattle.rules.specs.declared.edge.Line.{Line}
use Rattle.rules.specs.Width.{blank, dm2_of, d1_of, dm1_of, d0_of, steep_of, fails_of, from_of, far_of, wide_of, grade_of, width_of}
use Rattle.width.specs.Ends.{ends}
use Rattle.width.specs.Tests.{off_of, one_of, two_of}
use Rattle.lengths.proofs.Picks.{pick_eq, pick_ne}
use Rattle.width.proofs.Picks.{either_max, pick_lt, pick_ge, said_yes, said_not}

-- two tests with the same outcome, and three tests in one
two_picks : (a b : Bool) (u v : ℕ) → pick (either a b) u v ≡ pick a u (pick b u v)
unfolding pick either
two_picks true b u v = refl
two_picks false b u v = refl

three_tests : (a b c : Bool) → either a (either b c) ≡ either (either a b) c
unfolding either
three_tests true b c = refl
three_tests false b c = refl

-- the tests as the code makes them; e is the larger of dm2 and d1, g is dm1+d0
abbrev by_tests : List Line → ℕ → ℕ → ℕ → ℕ → ℕ → ℕ → ℕ
by_tests ls n p q side e g =
    pick (ltb side e) 0
    (pick (one_of p q side e g) 1
    (pick (two_of q side e g) 2
    (pick (steep_of ls n 3 (3 * side / 16)) 2
    (pick (eqb p 3) 3
    (far_of ls n p q side g)))))

grouped : (ls : List Line) (n p q side e f g : ℕ) → grade_of ls n p q side e f g ≡ pick (off_of q side) 0 (by_tests ls n p q side (max e f) g)
unfolding grade_of wide_of off_of one_of two_of
grouped ls n p q side e f g = simp (either_max, three_tests, two_picks)

-- "only lines 0 and 3 decide"
pub ends_decide : (ls : List Line) (n p q side : ℕ) {w : ℕ} → w ≡ width_of (ends (get_or ls 0 blank) (get_or ls 3 blank)) n p q side → w ≡ width_of ls n p q side
unfolding width_of grade_of wide_of far_of from_of fails_of steep_of
ends_decide ls n p q side h = h

-- thresholds of 0
pub off_none : (ls : List Line) (n p q side : ℕ) {r : Bool} → r ≡ off_of q side → r ≡ true → 0 ≡ width_of ls n p q side
unfolding width_of
off_none ls n p q side h y = said_yes _ _ _ _ _ h y refl ∙ sym (grouped ls n p q side _ _ _)

-- thresholds that are not 0
pub by_tests_holds : (ls : List Line) (n p q side : ℕ) {e g z : ℕ} → e ≡ max (dm2_of ls) (d1_of ls) → g ≡ dm1_of ls + d0_of ls → off_of q side ≡ false → z ≡ by_tests ls n p q side e g → z ≡ width_of ls n p q side
unfolding width_of pick
by_tests_holds ls n p q side he hg ho hz = rw (he, hg) at hz ∙ sym (grouped ls n p q side _ _ _ ∙ rw ho)

pub ruleset widths = (refl, pick_eq, pick_ne, pick_lt, pick_ge, said_yes, said_not, by_tests_holds)

pub ruleset choices = (rules, ends_decide)
