-- What an edge's ranges and its room say: one test of room for both directions, and the ranges that passed.
-- Assumes nothing.
use mathlib.Core.Path.{◌≡◌}
use mathlib.Core.Bool.{Bool, true}
use Prim.Native.Nat.{ℕ, ◌≤◌}
use borrow.Author.Tests.{eq-eqb, ne_eqb, leb-true}
use Rattle.laws.specs.Choose.{all_parts}
use Rattle.rules.specs.declared.edge.Edge.{Edge}
use Rattle.rules.specs.Lengths.{reach_before, reach_after}
use Rattle.rules.specs.Segment.{ranges_ok, room_along, has_room}

-- ---- room

pub room_upright : (columns rows b a : ℕ) (e : Edge) {r : Bool} → e.dir ≡ 0 → b ≡ reach_before e.pair → a ≡ reach_after e.pair → r ≡ room_along true columns rows e.x e.y b a → r ≡ has_room columns rows e
unfolding has_room
room_upright columns rows b a e d p q h = rw (eq-eqb _ _ d, ← p, ← q) h

pub room_level : (columns rows b a : ℕ) (e : Edge) {r : Bool} → (e.dir ≡ 0 → ⊥) → b ≡ reach_before e.pair → a ≡ reach_after e.pair → r ≡ room_along true rows columns e.y e.x b a → r ≡ has_room columns rows e
unfolding has_room
room_level columns rows b a e d p q h = rw (ne_eqb _ _ d, ← p, ← q) h

-- ---- ranges

pub record Ranges (e : Edge) : Type 0 where
  pub q_most : e.q ≤ 2048
  pub side_most : e.side ≤ 839
  pub pair_most : e.pair ≤ 7
  pub dir_most : e.dir ≤ 1

pub ranges_are : (e : Edge) → ranges_ok e ≡ true → Ranges e
unfolding ranges_ok
ranges_are e h =
    let p = all_parts _ _ h in
    let q = all_parts _ _ p.1 in
    let r = all_parts _ _ q.1 in
    let t = all_parts _ _ r.1 in
    record { q_most = leb-true e.q 2048 p.0; side_most = leb-true e.side 839 q.0; pair_most = leb-true e.pair 7 r.0; dir_most = leb-true e.dir 1 t.0 }
