-- Room: what an edge needs of it, and that only the first and the last column or row of edges can lack it.
-- Assumes nothing.
use mathlib.Core.Path.{◌≡◌, refl, sym, ap, ◌∙◌}
use mathlib.Core.Bool.{Bool, true, false, not}
use mathlib.Core.List.{List, [], ◌∷◌}
use Prim.Native.Nat.{ℕ, zero, suc, ◌+◌, ◌*◌, ◌-◌, ◌≤◌, ◌<◌}
use native.Mathlib.Omega.{arith}
use native.Mathlib.Decide.{ℕ_discrete}
use borrow.Author.Rules.{rules}
use borrow.Author.Tests.{eq-eqb, ne_eqb, ltb-true, ltb-false}
use lib.Dec.{eqb, leb, ltb}
use lib.ListN.{get_or}
use Rattle.laws.specs.Choose.{pick, both, all, both_parts, pick_yes, pick_no, all_ok, all_none, is_le, is_lt, not_lt, both_bad, both_ok, both_later, told_yes_not, told_no_not, told_yes, told_no}
use Rattle.rules.specs.declared.settings.Plane.{Plane}
use Rattle.std.specs.declared.option.Option.{Option}
use Rattle.std.specs.declared.option.Option.TheVariants.{Some, None}
use Rattle.rules.specs.Lengths.{length_before, length_after, reach_of, pair_of, reach_before, reach_after}
use Rattle.rules.specs.Refusals.{first, sooner}
use Rattle.rules.specs.Segment.{has_room, room_along}
use Rattle.rules.specs.Plane.{Grid, keeping, cell_of, marks_of, indices_of, capped_of, index_at, shortened_at, is_edge, edge_room, lacks_room, lacks_row, lacks_dir, no_room}
use Rattle.lengths.proofs.Lengths.{pair_facts}
use Rattle.checks.proofs.First.{first_found, all_nothing, found_unless_holds, found_unless_not, sooner_first_by, sooner_second_by}
use Rattle.cell_edges.specs.Cells.{Cell, Inner, one_way, sized, marked, starting}
use Rattle.plane_checks.specs.Fit.{room_of, may_lack}
use Rattle.cell_edges.proofs.Places.{cell_below, marks_one, indices_one, pair_below}

-- ---- one edge

pub reach_small : (p : ℕ) → p < 8 → {a : ℕ} → a ≡ reach_after p → a ≤ 8
reach_small p h e = let f = pair_facts p h in omega (arith, f.after.reach_8)

-- a marked cell is not in the first column or row
pub inner_by : {s : Plane} (m : List ℕ) {dir r c : ℕ} {t : Bool} → Cell s r c → t ≡ is_edge s (marked m) dir r c → not t ≡ false → Inner s dir r c
unfolding is_edge
inner_by m {t = t} k e f = record { cell = k; later = ltb-true _ _ (both_parts _ _ (sym (told_yes_not _ t e f))).0 }

-- room along the lines, in either direction
module _ (s : Plane) (z : List ℕ) (u : Bool) (dir r c : ℕ) {p b a : ℕ} {t : Bool} (is : p ≡ pair_of (index_at s (sized z) dir r c) s.chroma u) (before : b ≡ reach_before p) (after : a ≡ reach_after p) where
  pub room_left : dir ≡ 0 → t ≡ all (leb b (c * 4) ∷ leb (c * 4 + a) (4 * s.cols) ∷ leb (r * 4 + 4) (4 * s.rows) ∷ []) → t ≡ room_of s z u dir r c
  unfolding room_of has_room
  room_left e f = rw (← is, ← before, ← after, eq-eqb _ _ e) f

  pub room_up : (dir ≡ 0 → ⊥) → t ≡ all (leb b (r * 4) ∷ leb (r * 4 + a) (4 * s.rows) ∷ leb (c * 4 + 4) (4 * s.cols) ∷ []) → t ≡ room_of s z u dir r c
  unfolding room_of has_room
  room_up e f = rw (← is, ← before, ← after, ne_eqb _ _ e) f

-- an edge's room is by whether it is shortened
pub edge_room_is : (s : Plane) (m z q ts : List ℕ) (dir r c : ℕ) → room_of s z (shortened_at s (starting ts) dir r c) dir r c ≡ edge_room s (one_way m z q ts) dir r c
unfolding room_of edge_room index_at indices_of shortened_at
edge_room_is s m z q ts dir r c = refl

-- a cell's answer, from its mark and its room
module _ (s : Plane) (m z ts : List ℕ) (dir r c : ℕ) {t : Bool} (edge : t ≡ is_edge s (marked m) dir r c) where
  pub lacks_none : not t ≡ true → None ≡ lacks_room s (one_way m z [] ts) dir r c
  unfolding lacks_room is_edge marks_of
  lacks_none f = found_unless_not _ _ (pick_no _ _ _ _ (told_no_not _ t edge f) refl)

  module _ (f : not t ≡ false) {u w : Bool} (short : w ≡ shortened_at s (starting ts) dir r c) (room : u ≡ room_of s z w dir r c) where
    has : u ≡ edge_room s (one_way m z [] ts) dir r c
    has = room ∙ ap (λ (b : Bool). room_of s z b dir r c) short ∙ edge_room_is s m z [] ts dir r c

    pub lacks_not : u ≡ true → None ≡ lacks_room s (one_way m z [] ts) dir r c
    unfolding lacks_room is_edge marks_of
    lacks_not e = found_unless_not _ _ (pick_yes _ _ _ _ (told_yes_not _ t edge f) (told_yes _ u has e))

    pub lacks_it : {i : ℕ} → u ≡ false → i ≡ cell_of s r c → Some i ≡ lacks_room s (one_way m z [] ts) dir r c
    unfolding lacks_room is_edge marks_of
    lacks_it e q = rw q (found_unless_holds _ _ (pick_yes _ _ _ _ (told_yes_not _ t edge f) (told_no _ u has e)))

-- ---- only the ends can lack room

-- the number along a direction, and how many there are
abbrev pub Middle : Plane → ℕ → ℕ → ℕ → Type 0
Middle s dir r c = (pick (eqb dir 0) c r ≡ 1 → ⊥) × (pick (eqb dir 0) c r + 1 ≡ pick (eqb dir 0) s.cols s.rows → ⊥)

middle_along : (s : Plane) (at beside count breadth b a : ℕ) → 0 < at → at < count → beside < breadth → b ≤ 8 → a ≤ 8 → (at ≡ 1 → ⊥) → (at + 1 ≡ count → ⊥) → true ≡ all (leb b (at * 4) ∷ leb (at * 4 + a) (4 * count) ∷ leb (beside * 4 + 4) (4 * breadth) ∷ [])
middle_along s at beside count breadth b a some in_count in-breadth small_b small-a not_first not_last =
    let low : 2 ≤ at = omega arith in
    let high : at + 2 ≤ count = omega arith in
    all_ok _ _ _ (is_le b (at * 4) (omega arith))
    (all_ok _ _ _ (is_le (at * 4 + a) (4 * count) (omega arith))
    (all_ok _ _ _ (is_le (beside * 4 + 4) (4 * breadth) (omega arith)) all_none))

module _ (s : Plane) (g : Grid) (dir r c : ℕ) (k : Cell s r c) where
  middle_room : 0 < pick (eqb dir 0) c r → Middle s dir r c → true ≡ edge_room s g dir r c
  unfolding edge_room has_room pick
  middle_room some mid =
      let f = pair_facts _ (pair_below (index_at s g dir r c) s.chroma (shortened_at s g dir r c) refl) in
      go (eqb dir 0) some mid f.before.reach_8 f.after.reach_8
    where
      go : (t : Bool) → 0 < pick t c r → (pick t c r ≡ 1 → ⊥) × (pick t c r + 1 ≡ pick t s.cols s.rows → ⊥) → {b a : ℕ} → b ≤ 8 → a ≤ 8 → true ≡ room_along t (4 * s.cols) (4 * s.rows) (c * 4) (r * 4) b a
      go true some' mid' hb ha = middle_along s c r s.cols s.rows _ _ some' k.in_cols k.in_rows hb ha mid'.0 mid'.1
      go false some' mid' hb ha = middle_along s r c s.rows s.cols _ _ some' k.in_rows k.in_cols hb ha mid'.0 mid'.1

  -- the first column or row has no edges
  pub first_line : pick (eqb dir 0) c r ≡ 0 → lacks_room s g dir r c ≡ None
  unfolding lacks_room is_edge
  first_line e = sym (found_unless_not _ _ (pick_no _ _ _ _ (both_bad _ _ (not_lt 0 (pick (eqb dir 0) c r) (omega arith))) refl))

  pub middle : Middle s dir r c → lacks_room s g dir r c ≡ None
  unfolding lacks_room is_edge pick
  middle mid = sym (found_unless_not _ _ (go (is_edge s g dir r c) refl))
    where
      go : (t : Bool) → is_edge s g dir r c ≡ t → true ≡ pick t (edge_room s g dir r c) true
      go true e = middle_room (ltb-true _ _ (both_parts _ _ e).0) mid
      go false e = refl

-- ---- only a size index over 1 can lack room

pick_most : (t : Bool) {a b n : ℕ} → a ≤ n → b ≤ n → pick t a b ≤ n
unfolding pick
pick_most true h g = h
pick_most false h g = g

-- near the border a size index is lowered
index_most : (s : Plane) (g : Grid) (dir r c : ℕ) → index_at s g dir r c ≤ get_or (indices_of g dir) (cell_of s r c) 0
unfolding index_at capped_of
index_most s g dir r c = pick_most _ (pick_most _ (omega arith) (omega arith)) (pick_most _ (omega arith) (omega arith))

-- up to 1 both sides reach over a cell at most
abbrev Short : ℕ → Type 0
Short p = (reach_before p ≤ 4) × (reach_after p ≤ 4)

short_reach : (m : ℕ) (chroma shortened : Bool) → m ≤ 1 → Short (pair_of m chroma shortened)
unfolding pair_of pick reach_before reach_after reach_of length_before length_after
short_reach zero chroma shortened h = (omega arith, omega arith)
short_reach (suc zero) true true h = (omega arith, omega arith)
short_reach (suc zero) true false h = (omega arith, omega arith)
short_reach (suc zero) false shortened h = (omega arith, omega arith)
short_reach (suc (suc m)) chroma shortened h = absurd (omega arith)

short_along : (at beside count breadth b a : ℕ) → 0 < at → at < count → beside < breadth → b ≤ 4 → a ≤ 4 → true ≡ all (leb b (at * 4) ∷ leb (at * 4 + a) (4 * count) ∷ leb (beside * 4 + 4) (4 * breadth) ∷ [])
short_along at beside count breadth b a some in_count in-breadth small_b small-a =
    all_ok _ _ _ (is_le b (at * 4) (omega arith))
    (all_ok _ _ _ (is_le (at * 4 + a) (4 * count) (omega arith))
    (all_ok _ _ _ (is_le (beside * 4 + 4) (4 * breadth) (omega arith)) all_none))

module _ (s : Plane) (g : Grid) (dir r c : ℕ) (k : Cell s r c) (low : get_or (indices_of g dir) (cell_of s r c) 0 ≤ 1) where
  short_room : 0 < pick (eqb dir 0) c r → true ≡ edge_room s g dir r c
  unfolding edge_room has_room pick
  short_room some =
      let most = index_most s g dir r c in
      let f = short_reach (index_at s g dir r c) s.chroma (shortened_at s g dir r c) (omega arith) in
      go (eqb dir 0) some f.0 f.1
    where
      go : (t : Bool) → 0 < pick t c r → {b a : ℕ} → b ≤ 4 → a ≤ 4 → true ≡ room_along t (4 * s.cols) (4 * s.rows) (c * 4) (r * 4) b a
      go true some' hb ha = short_along c r s.cols s.rows _ _ some' k.in_cols k.in_rows hb ha
      go false some' hb ha = short_along r c s.rows s.cols _ _ some' k.in_rows k.in_cols hb ha

  short_has : None ≡ lacks_room s g dir r c
  unfolding lacks_room is_edge pick
  short_has = found_unless_not _ _ (go (is_edge s g dir r c) refl)
    where
      go : (t : Bool) → is_edge s g dir r c ≡ t → true ≡ pick t (edge_room s g dir r c) true
      go true e = short_room (ltb-true _ _ (both_parts _ _ e).0)
      go false e = refl

-- the test of a cell by its size index and its mark, as the code finds it
module _ (s : Plane) (m z : List ℕ) (r c : ℕ) {i : ℕ} (at : i ≡ cell_of s r c) where
  pub may_not : get_or z i 0 ≤ 1 → false ≡ may_lack s m z r c
  unfolding may_lack
  may_not h = both_bad _ _ (rw (← at) (not_lt 1 (get_or z i 0) h))

  pub may_marked : 1 < get_or z i 0 → eqb (get_or m i 0) 1 ≡ may_lack s m z r c
  unfolding may_lack
  may_marked h = both_ok _ _ _ (rw (← at) (is_lt 1 (get_or z i 0) h)) (rw (← at))

-- a cell that is not marked, and so any that fails the test, lacks no room
unmarked : (s : Plane) (m z ts : List ℕ) (dir r c : ℕ) → false ≡ eqb (get_or m (cell_of s r c) 0) 1 → None ≡ lacks_room s (one_way m z [] ts) dir r c
unfolding lacks_room is_edge
unmarked s m z ts dir r c q = found_unless_not _ _ (pick_no _ _ _ _ (both_later _ _ (rw (marks_one dir m z [] ts) q)) refl)

pub may_none : (s : Plane) (m z ts : List ℕ) (dir r c : ℕ) {t : Bool} → Cell s r c → t ≡ may_lack s m z r c → not t ≡ true → None ≡ lacks_room s (one_way m z [] ts) dir r c
unfolding may_lack both
may_none s m z ts dir r c {t} k e f = go (ltb 1 (get_or z (cell_of s r c) 0)) refl
  where
    go : (u : Bool) → ltb 1 (get_or z (cell_of s r c) 0) ≡ u → None ≡ lacks_room s (one_way m z [] ts) dir r c
    go false l = short_has s (one_way m z [] ts) dir r c k (rw (indices_one dir m z [] ts) (ltb-false 1 _ l))
    go true l = unmarked s m z ts dir r c (told_no_not _ t (e ∙ ap (λ (u : Bool). both u (eqb (get_or m (cell_of s r c) 0) 1)) l) f)

-- a search that can find something at 1 and at n - 1 alone
pub record Ends (n : ℕ) (f : ℕ → Option ℕ) : Type 0 where
  pub others : (k : ℕ) → k < n → (k ≡ 1 → ⊥) → (k + 1 ≡ n → ⊥) → f k ≡ None
  pub start : 1 ≤ n → f 0 ≡ None

module _ (n : ℕ) (f : ℕ → Option ℕ) (e : Ends n f) where
  up_to : (m : ℕ) → m + 1 ≤ n → f 1 ≡ None → first m f ≡ None
  up_to m h one = all_nothing f m (λ k lt. elim (ℕ_discrete k 1) [
    | yes q ↦ rw q one
    | no a ↦ e.others k (omega arith) a (omega arith)
  ])

  pub ends_none : n < 2 → None ≡ first n f
  ends_none h = sym (all_nothing f n (λ k lt. let z : k ≡ 0 = omega arith in rw z (e.start (omega arith))))

  pub ends_first : {r : Option ℕ} {k : ℕ} → 2 ≤ n → r ≡ f 1 → r ≡ Some k → Some k ≡ first n f
  ends_first h a b = first_found f 1 n (all_nothing f 1 (λ i lt. let z : i ≡ 0 = omega arith in rw z (e.start (omega arith)))) (sym b ∙ a) h

  pub ends_second : {r x : Option ℕ} → 2 ≤ n → r ≡ f 1 → r ≡ None → x ≡ f (n - 1) → x ≡ first n f
  ends_second {r} {x} h a b q = go x q
    where
      before : first (n - 1) f ≡ None
      before = up_to (n - 1) (omega arith) (sym a ∙ b)

      go : (y : Option ℕ) → y ≡ f (n - 1) → y ≡ first n f
      go (Some k) q' = first_found f (n - 1) n before q' (omega arith)
      go None q' = sym (all_nothing f n (λ k lt. elim (ℕ_discrete (k + 1) n) [
        | yes l ↦ let z : k ≡ n - 1 = omega arith in rw z (sym q')
        | no l ↦ elim (ℕ_discrete k 1) [
          | yes o ↦ rw o (sym a ∙ b)
          | no o ↦ e.others k lt o l
        ]
      ]))

-- the columns of a row of vertical edges, and the rows of horizontal edges
module _ (s : Plane) (g : Grid) where
  pub ends_columns : (r : ℕ) → r < s.rows → Ends s.cols (λ c. lacks_room s g 0 r c)
  unfolding pick
  ends_columns r h = record {
    others = λ c lt a b. middle s g 0 r c (record { in_rows = h; in_cols = lt }) (a, b);
    start = λ lt. first_line s g 0 r 0 (record { in_rows = h; in_cols = lt }) refl;
  }

  row_none : (r : ℕ) → ((c : ℕ) → c < s.cols → lacks_room s g 1 r c ≡ None) → lacks_row s g 1 r ≡ None
  unfolding lacks_row
  row_none r f = all_nothing (λ c. lacks_room s g 1 r c) s.cols f

  pub ends_rows : Ends s.rows (λ r. lacks_row s g 1 r)
  unfolding pick
  ends_rows = record {
    others = λ r lt a b. row_none r (λ c h. middle s g 1 r c (record { in_rows = lt; in_cols = h }) (a, b));
    start = λ lt. row_none 0 (λ c h. first_line s g 1 0 c (record { in_rows = lt; in_cols = h }) refl);
  }

  -- the same, as a row's and a direction's answer
  module _ (r : ℕ) (h : r < s.rows) where
    pub columns_none : s.cols < 2 → None ≡ lacks_row s g 0 r
    unfolding lacks_row
    columns_none few = ends_none _ _ (ends_columns r h) few

    module _ {f : Option ℕ} (some : 2 ≤ s.cols) (one : f ≡ lacks_room s g 0 r 1) where
      pub columns_first : {k : ℕ} → f ≡ Some k → Some k ≡ lacks_row s g 0 r
      unfolding lacks_row
      columns_first e = ends_first _ _ (ends_columns r h) some one e

      pub columns_last : {x : Option ℕ} → f ≡ None → x ≡ lacks_room s g 0 r (s.cols - 1) → x ≡ lacks_row s g 0 r
      unfolding lacks_row
      columns_last e q = ends_second _ _ (ends_columns r h) some one e q

  pub rows_none : s.rows < 2 → None ≡ lacks_dir s g 1
  unfolding lacks_dir
  rows_none few = ends_none _ _ ends_rows few

  module _ {f : Option ℕ} (some : 2 ≤ s.rows) (one : f ≡ lacks_row s g 1 1) where
    pub rows_first : {k : ℕ} → f ≡ Some k → Some k ≡ lacks_dir s g 1
    unfolding lacks_dir
    rows_first e = ends_first _ _ ends_rows some one e

    pub rows_last : {x : Option ℕ} → f ≡ None → x ≡ lacks_row s g 1 (s.rows - 1) → x ≡ lacks_dir s g 1
    unfolding lacks_dir
    rows_last e q = ends_second _ _ ends_rows some one e q

-- both directions, of any qindex and keep marks; no tile is looked at in direction 1
pub room_is : (s : Plane) (v h w t ts : List ℕ) (r : Option ℕ) → r ≡ sooner (lacks_dir s (one_way v w [] ts) 0) (lacks_dir s (one_way h t [] []) 1) → (q ks : List ℕ) → r ≡ no_room s (keeping v h w t q ts ks)
unfolding no_room lacks_dir lacks_row lacks_room is_edge marks_of edge_room index_at indices_of shortened_at pick
room_is s v h w t ts r e q ks = e

pub ruleset rooms = (rules, reach_small, inner_by, room_left, room_up, lacks_none, lacks_not, lacks_it)

pub ruleset over_one = (rules, cell_below, may_not, may_marked, may_none)

pub ruleset ends = (rules, columns_none, columns_first, columns_last, rows_none, rows_first, rows_last)

pub ruleset both_ways = (rules, sooner_first_by, sooner_second_by, room_is)
