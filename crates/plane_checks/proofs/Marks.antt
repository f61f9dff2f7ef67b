-- A grid whose largest numbers are small has no bad cell, and what a grid without one gives.
-- Assumes nothing.
use mathlib.Core.Path.{◌≡◌, refl, sym, ap, ◌∙◌}
use mathlib.Core.List.{List, []}
use Prim.Native.Nat.{ℕ, ◌+◌, ◌*◌, ◌≤◌, ◌<◌, max}
use native.Mathlib.Nat.{le_antisymm}
use native.Mathlib.Decide.{dec_le}
use native.Mathlib.Omega.{arith}
use borrow.Author.Rules.{rules}
use borrow.Author.Tests.{le-leb, lt-leb, leb-true}
use mathlib.Core.Bool.{Bool, true, false}
use lib.Dec.{leb, ltb}
use lib.ListN.{get_or}
use Rattle.laws.specs.Choose.{all_bad, all_ok, all_none, all_later, all_parts, is_le, not_le, not_lt, told_yes_not, told_no_not}
use Rattle.laws.specs.Largest.{largest, largest_none}
use Rattle.rules.specs.declared.settings.Plane.{Plane}
use Rattle.std.specs.declared.option.Option.{Option}
use Rattle.std.specs.declared.option.Option.TheVariants.{None}
use Rattle.rules.specs.Refusals.{found_if, found_unless, over_top}
use Rattle.rules.specs.Plane.{Grid, keeping, cell_good, bad_cell, bad_keep}
use Rattle.checks.proofs.Bytes.{most_more, under_most as under_all}
use Rattle.checks.proofs.First.{firsts, all_nothing, nothing_all, found_unless_not, found_if_not, unless_nothing}
use Rattle.plane_checks.specs.Fit.{small, bad_of}

-- ---- the largest of each list

-- the largest of four, taken by other pairs
swap : (a b x y : ℕ) → max (max a b) (max x y) ≡ max (max a x) (max b y)
swap a b x y = omega arith

-- one number more of a list
one_more : (l : List ℕ) (k : ℕ) → largest l 0 (k + 1) ≡ max (largest l 0 k) (get_or l k 0)
one_more l k = sym (most_more l k refl refl)

-- the largest mark of three lists and the largest size index of two, from none on and with a cell more
abbrev pub most_mark : List ℕ → List ℕ → List ℕ → ℕ → ℕ
most_mark v h ks n = max (largest v 0 n) (max (largest h 0 n) (largest ks 0 n))

abbrev pub most_index : List ℕ → List ℕ → ℕ → ℕ
most_index w t n = max (largest w 0 n) (largest t 0 n)

pub mark_none : (v h ks : List ℕ) → 0 ≡ most_mark v h ks 0
mark_none v h ks = omega (arith, largest_none v 0, largest_none h 0, largest_none ks 0)

pub index_none : (w t : List ℕ) → 0 ≡ most_index w t 0
index_none w t = omega (arith, largest_none w 0, largest_none t 0)

pub mark_more : (v h ks : List ℕ) (k : ℕ) {m a b r : ℕ} → m ≡ most_mark v h ks k → a ≡ max (get_or h k 0) (get_or ks k 0) → b ≡ max (get_or v k 0) a → r ≡ max m b → r ≡ most_mark v h ks (k + 1)
mark_more v h ks k e f g i =
    let inner = swap (largest h 0 k) (largest ks 0 k) (get_or h k 0) (get_or ks k 0) in
    let outer = swap (largest v 0 k) (max (largest h 0 k) (largest ks 0 k)) (get_or v k 0) (max (get_or h k 0) (get_or ks k 0)) in
    rw (i, e, g, f, one_more v k, one_more h k, one_more ks k) (outer ∙ ap (max (max (largest v 0 k) (get_or v k 0))) inner)

pub index_more : (w t : List ℕ) (k : ℕ) {m a r : ℕ} → m ≡ most_index w t k → a ≡ max (get_or w k 0) (get_or t k 0) → r ≡ max m a → r ≡ most_index w t (k + 1)
index_more w t k e f g = rw (g, e, f, one_more w k, one_more t k) (swap (largest w 0 k) (largest t 0 k) (get_or w k 0) (get_or t k 0))

-- the largest mark found to be too large, or else the largest size index
module _ (v h w t ks : List ℕ) (k n : ℕ) {m : ℕ} (is : m ≡ most_mark v h ks k) (up : k ≤ n) (all_of : n ≤ k) where
  at_end : m ≡ most_mark v h ks n
  at_end = rw (le_antisymm up all_of) at is

  pub mark_over : 1 < m → false ≡ small n (keeping v h w t [] [] ks)
  unfolding small
  mark_over o = let e = at_end in elim (dec_le (largest v 0 n) 1) [
    | no a ↦ all_bad _ _ (not_le (largest v 0 n) 1 (omega arith))
    | yes a ↦ all_later _ _ (elim (dec_le (largest h 0 n) 1) [
      | no b ↦ all_bad _ _ (not_le (largest h 0 n) 1 (omega arith))
      | yes b ↦ all_later _ _ (all_later _ _ (all_later _ _ (all_bad _ _ (not_le (largest ks 0 n) 1 (omega arith)))))
    ])
  ]

  pub index_last : {z : ℕ} → m ≤ 1 → z ≡ most_index w t k → leb z 6 ≡ small n (keeping v h w t [] [] ks)
  unfolding small
  index_last {z} o f =
      let e = at_end in
      let i : z ≡ most_index w t n = rw (le_antisymm up all_of) at f in
      all_ok _ _ _ (is_le (largest v 0 n) 1 (omega arith)) (all_ok _ _ _ (is_le (largest h 0 n) 1 (omega arith)) (elim (dec_le z 6) [
        | yes a ↦ rw (le-leb z 6 a) (all_ok _ _ _ (is_le (largest w 0 n) 6 (omega arith)) (all_ok _ _ _ (is_le (largest t 0 n) 6 (omega arith)) (all_ok _ _ _ (is_le (largest ks 0 n) 1 (omega arith)) all_none)))
        | no a ↦ rw (lt-leb z 6 (omega arith)) (elim (dec_le (largest w 0 n) 6) [
          | no b ↦ all_bad _ _ (not_le (largest w 0 n) 6 (omega arith))
          | yes b ↦ all_later _ _ (all_bad _ _ (not_le (largest t 0 n) 6 (omega arith)))
        ])
      ]))

-- where it is small enough, so is every number
pub every_small : (l : List ℕ) (n m k : ℕ) → leb (largest l 0 n) m ≡ true → k < n → true ≡ leb (get_or l k 0) m
every_small l n m k e h =
    let u = under_all l n k h in let t = leb-true (largest l 0 n) m e in is_le (get_or l k 0) m (omega arith)

pub small_none : (n : ℕ) (g : Grid) (b : Bool) → b ≡ small n g → b ≡ true → None ≡ bad_of n g
unfolding bad_of cell_good small
small_none n g b e t =
    let p = all_parts _ _ (sym e ∙ t) in
    let q = all_parts _ _ p.1 in
    let r = all_parts _ _ q.1 in
    let o = all_parts _ _ r.1 in
    let k = all_parts _ _ o.1 in
    sym (all_nothing (λ i. found_unless (cell_good g i) i) n
    (λ i h. sym (found_unless_not _ i
    (all_ok _ _ _ (every_small g.vedge n 1 i p.0 h)
    (all_ok _ _ _ (every_small g.hedge n 1 i q.0 h)
    (all_ok _ _ _ (every_small g.sqw n 6 i r.0 h)
    (all_ok _ _ _ (every_small g.sqh n 6 i o.0 h)
    (all_ok _ _ _ (every_small g.keep n 1 i k.0 h) all_none))))))))

-- ---- good cells

-- what a grid without a bad cell gives
pub none_good : (n : ℕ) (g : Grid) → bad_of n g ≡ None → (k : ℕ) → k < n → (get_or g.sqw k 0 ≤ 6) × (get_or g.sqh k 0 ≤ 6)
unfolding bad_of cell_good
none_good n g e k h =
    let t = unless_nothing _ k (nothing_all (λ i. found_unless (cell_good g i) i) n e k h) in
    let p = all_parts _ _ (all_parts _ _ t).1 in
    let q = all_parts _ _ p.1 in
    (leb-true _ _ q.0, leb-true _ _ (all_parts _ _ q.1).0)

-- its keep marks are good too
pub none_bad : (n : ℕ) (g : Grid) → bad_of n g ≡ None → bad_keep n g.keep ≡ None
unfolding bad_of bad_keep cell_good over_top
none_bad n g e =
    all_nothing (λ i. found_if (ltb 1 (get_or g.keep i 0)) i) n (λ i h.
    let t = unless_nothing _ i (nothing_all (λ k. found_unless (cell_good g k) k) n e i h) in
    let p = all_parts _ _ (all_parts _ _ (all_parts _ _ (all_parts _ _ t).1).1).1 in
    sym (found_if_not _ i (not_lt 1 (get_or g.keep i 0) (leb-true _ _ (all_parts _ _ p.1).0))))

-- no qindex and no tile is looked at
pub bad_is : (s : Plane) (v h w t ks : List ℕ) (r : Option ℕ) → r ≡ bad_of (s.rows * s.cols) (keeping v h w t [] [] ks) → (q ts : List ℕ) → r ≡ bad_cell s (keeping v h w t q ts ks)
unfolding bad_cell bad_of cell_good
bad_is s v h w t ks r e q ts = e

-- the code's scan
pub ruleset finds = (firsts, told_yes_not, told_no_not)

-- the loop over all lists
pub ruleset larges = (rules, mark_none, index_none, mark_over, index_last)

pub ruleset bads = (rules, small_none, bad_is)
