-- What the width can be: never over the most samples after the edge, for the numbers that the length pairs have, and never 5 or 7.
-- Assumes nothing.
use mathlib.Core.Bool.{Bool, true, false}
use mathlib.Core.List.{List}
use Prim.Native.Nat.{ℕ, ◌≤◌, ◌<◌}
use borrow.Author.Rules.{rules}
use Rattle.rules.specs.declared.edge.Line.{Line}
use Rattle.laws.specs.Choose.{pick}
use Rattle.lengths.proofs.Lengths.{After, one, three, four, six, eight, pair_facts}
use Rattle.rules.specs.Lengths.{most_before, most_after}
use Rattle.rules.specs.Width.{at_distance, from_of, far_of, wide_of, grade_of, width_of}

most_true : (u v m : ℕ) → u ≤ m → pick true u v ≤ m
unfolding pick
most_true u v m h = h

most_pick : (t : Bool) (u v m : ℕ) → u ≤ m → v ≤ m → pick t u v ≤ m
unfolding pick
most_pick true u v m h k = h
most_pick false u v m h k = k

ruleset mosts = (rules, most_true, most_pick)

pub width_most : (ls : List Line) (n q side : ℕ) {p : ℕ} → After p → width_of ls n p q side ≤ p
unfolding at_distance from_of far_of wide_of grade_of width_of
width_most ls n q side one = search mosts depth 20
width_most ls n q side three = search mosts depth 20
width_most ls n q side four = search mosts depth 20
width_most ls n q side six = search mosts depth 20
width_most ls n q side eight = search mosts depth 20

-- the same of every pair
pub pair_most : (ls : List Line) (pair q side : ℕ) → pair < 8 → width_of ls (most_before pair) (most_after pair) q side ≤ most_after pair
pair_most ls pair q side h = width_most ls (most_before pair) q side (pair_facts pair h).after_is

-- ---- no width is 5 or 7
pub data Chosen : ℕ → Type 0 where
  w0 : Chosen 0
  w1 : Chosen 1
  w2 : Chosen 2
  w3 : Chosen 3
  w4 : Chosen 4
  w6 : Chosen 6
  w8 : Chosen 8

chosen_pick : (t : Bool) (u v : ℕ) → Chosen u → Chosen v → Chosen (pick t u v)
unfolding pick
chosen_pick true u v h k = h
chosen_pick false u v h k = k

ruleset chosens = (chosen_pick, w0, w1, w2, w3, w4, w6, w8)

pub width_chosen : (ls : List Line) (n p q side : ℕ) → Chosen (width_of ls n p q side)
unfolding at_distance from_of far_of wide_of grade_of width_of
width_chosen ls n p q side = search chosens depth 20
