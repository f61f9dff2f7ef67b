-- Which rows the edges of a call reach: none after those that are filled, so that these may hold anything; and none that was called final before.
-- Assumes nothing.
use mathlib.Core.Path.{◌≡◌, refl, sym, ap, ◌∙◌}
use mathlib.Core.Bool.{Bool, true, false}
use mathlib.Core.List.{List}
use Prim.Native.Nat.{ℕ, ◌+◌, ◌*◌, ◌-◌, ◌/◌, ◌%◌, ◌≤◌, ◌<◌}
use native.Mathlib.Nat.{div-add-mod'}
use native.Mathlib.Decide.{dec_le}
use native.Mathlib.Omega.{arith}
use lib.Dec.{eqb}
use lib.ListN.{get_or}
use Rattle.laws.specs.Choose.{pick}
use Rattle.laws.specs.Loops.{each}
use Rattle.laws.specs.Lists.{Each, each_map, each_both, each_append, each_loop}
use Rattle.laws.specs.Footprints.{Agree}
use Rattle.laws.specs.Boxes.{Box, in_box, in_of, in_at, Inside}
use Rattle.rules.specs.declared.edge.Edge.{Edge}
use Rattle.rules.specs.declared.settings.Plane.{Plane}
use Rattle.rules.specs.Lengths.{reach_before, reach_after}
use Rattle.rules.specs.Segment.{has_room}
use Rattle.rules.specs.Plane.{Grid, visit_of, sweep_of}
use Rattle.rules.specs.Rows.{ready, band_of, final_of}
use Rattle.lengths.proofs.Lengths.{pair_facts}
use Rattle.segment.specs.Fit.{InPlane}
use Rattle.segment.specs.Boxes.{read_box}
use Rattle.segment.proofs.Cells.{Along, along_of}
use Rattle.segment.proofs.Local.{Untouched}
use Rattle.plane.specs.Checked.{Checked}
use Rattle.plane.proofs.Everywhere.{both_clear, sweep_inside}
use Rattle.orders.proofs.Plain.{Stands, visit_stands}
use Rattle.orders.proofs.Bands.{ready_full, ready_part, vert_below, horz_below}
use Rattle.bands.proofs.Bands.{ready_goes}
use Rattle.rows.proofs.Final.{final_full, final_part}
use Rattle.rows_promises.specs.Calls.{SameRows}
use Rattle.rows_promises.proofs.Agree.{Within}

-- ---- rows as a box

abbrev pub rows_box : Plane → ℕ → ℕ → Box
rows_box s from upto = record { x0 = 0; x1 = 4 * s.cols; y0 = from; y1 = upto }

pub agree_rows : (s : Plane) (from upto : ℕ) (l m : List ℕ) → SameRows s from upto l m → Agree (in_box s.stride (rows_box s from upto)) l m
agree_rows s from upto l m h i t =
    let j = in_of s.stride (rows_box s from upto) i t in
    sym (ap (λ (k : ℕ). get_or l k 0) (div-add-mod' i s.stride))
    ∙ h.at (i % s.stride) (i / s.stride) j.right j.top j.bottom
    ∙ ap (λ (k : ℕ). get_or m k 0) (div-add-mod' i s.stride)

pub rows_agree : (s : Plane) (from upto : ℕ) (l m : List ℕ) → 4 * s.cols ≤ s.stride → Agree (in_box s.stride (rows_box s from upto)) l m → SameRows s from upto l m
rows_agree s from upto l m wide g = record {
  at = λ x y hx lo hi. g (y * s.stride + x) (in_at s.stride (rows_box s from upto) x y (omega arith) (record { left = omega arith; right = hx; top = lo; bottom = hi }));
}

-- ---- how many rows are final

pub final_up : (rows m n : ℕ) → m ≤ n → final_of rows m ≤ final_of rows n
final_up rows m n h = elim (dec_le (4 * rows) m) [
  | yes l ↦ omega (arith, final_full rows m l, final_full rows n (omega arith))
  | no l ↦ elim (dec_le (4 * rows) n) [
    | yes k ↦ omega (arith, final_part rows m (omega arith), final_full rows n k)
    | no k ↦ omega (arith, final_part rows m (omega arith), final_part rows n (omega arith))
  ]
]

pub final_most : (rows n : ℕ) → n ≤ 4 * rows → final_of rows n ≤ n
final_most rows n h = elim (dec_le (4 * rows) n) [
  | yes l ↦ omega (arith, final_full rows n l)
  | no l ↦ omega (arith, final_part rows n (omega arith))
]

-- ---- the edges of a part stand in its rows

pub record StandsIn (dir row rows : ℕ) (e : Edge) : Type 0 where
  pub r : ℕ
  pub c : ℕ
  pub low : row ≤ r
  pub high : r < row + rows
  pub stands : Stands dir r c e

module _ (s : Plane) (steps : List ℕ) (g : Grid) where
  sweep_stands : (dir row rows col cols : ℕ) → Each (StandsIn dir row rows) (sweep_of s steps g dir row rows col cols)
  unfolding sweep_of pick
  sweep_stands dir row rows col cols = go (eqb dir 0)
    where
      one : (i j : ℕ) → i < rows → Each (StandsIn dir row rows) (visit_of s steps g dir (row + i) (col + j))
      one i j h =
          each_map (Stands dir (row + i) (col + j)) (StandsIn dir row rows) (λ e v. record { r = row + i; c = col + j; low = omega arith; high = omega arith; stands = v })
          (visit_of s steps g dir (row + i) (col + j)) (visit_stands s steps g dir (row + i) (col + j))

      go : (t : Bool) → Each (StandsIn dir row rows) (pick t (each rows (λ i. each cols (λ j. visit_of s steps g dir (row + i) (col + j)))) (each cols (λ j. each rows (λ i. visit_of s steps g dir (row + i) (col + j)))))
      go true =
          each_loop (StandsIn dir row rows) rows (λ i. each cols (λ j. visit_of s steps g dir (row + i) (col + j))) (λ i h.
          each_loop (StandsIn dir row rows) cols (λ j. visit_of s steps g dir (row + i) (col + j)) (λ j k. one i j h))
      go false =
          each_loop (StandsIn dir row rows) cols (λ j. each rows (λ i. visit_of s steps g dir (row + i) (col + j))) (λ j k.
          each_loop (StandsIn dir row rows) rows (λ i. visit_of s steps g dir (row + i) (col + j)) (λ i h. one i j h))

-- ---- the edges of a call, whose filled rows of cells grow from h to a

module _ (s : Plane) (steps : List ℕ) (g : Grid) (size : ℕ) (k : Checked s steps g size) (h a : ℕ) (up : h ≤ a) (most : a ≤ s.rows) where
  abbrev Here : Edge → Type 0
  Here e = InPlane s.stride (4 * s.cols) (4 * s.rows) e size

  abbrev Vert : Edge → Type 0
  Vert e = StandsIn 0 h (a - h) e

  abbrev Horz : Edge → Type 0
  Horz e = StandsIn 1 (ready s.rows h) (ready s.rows a - ready s.rows h) e

  ups : (ready s.rows h ≤ ready s.rows a) × (ready s.rows a ≤ s.rows)
  ups = ready_goes up most refl refl

  -- what holds of every vertical edge of the new rows, and of every horizontal one that is due now
  band_each : (P : Edge → Type 0) → ((e : Edge) → Here e → Vert e → P e) → ((e : Edge) → Here e → Horz e → P e) → Each P (band_of s steps g h a)
  unfolding band_of
  band_each P v w =
      let clear = both_clear s steps g size k in
      let xs = sweep_of s steps g 0 h (a - h) 0 s.cols in
      let ys = sweep_of s steps g 1 (ready s.rows h) (ready s.rows a - ready s.rows h) 0 s.cols in
      each_append P xs ys
      (each_both Here Vert P v xs (sweep_inside s steps g size k 0 h (a - h) 0 s.cols clear.0 (omega arith) (omega arith)) (sweep_stands s steps g 0 h (a - h) 0 s.cols))
      (each_both Here Horz P w ys (sweep_inside s steps g size k 1 (ready s.rows h) (ready s.rows a - ready s.rows h) 0 s.cols clear.1 (omega (arith, ups.0, ups.1)) (omega arith))
      (sweep_stands s steps g 1 (ready s.rows h) (ready s.rows a - ready s.rows h) 0 s.cols))

  -- a vertical edge lies in its own four rows, and a horizontal one that is due reaches no row that is not filled
  module _ (e : Edge) (here : Here e) where
    vert_reach : Vert e → Inside (read_box e) (rows_box s 0 (4 * a))
    unfolding has_room
    vert_reach v =
        let along : Along true (4 * s.cols) (4 * s.rows) e.x e.y (reach_before e.pair) (reach_after e.pair) =
        rw v.stands.dir_is at (along_of (eqb e.dir 0) (4 * s.cols) (4 * s.rows) e.x e.y (reach_before e.pair) (reach_after e.pair) here.room) in
        rw v.stands.dir_is
        (record { ix0 = omega arith; ix1 = omega arith; iy0 = omega arith; iy1 = omega (arith, v.stands.y_is, v.high, up) })

    horz_down : Horz e → e.y + reach_after e.pair ≤ 4 * s.rows → e.y + reach_after e.pair ≤ 4 * a
    horz_down v room = elim (dec_le s.rows a) [
      | yes l ↦ omega arith
      | no l ↦
          let f = (pair_facts e.pair here.pair_is).after.reach_8 in
          omega (arith, f, v.stands.y_is, v.high, ups.0, ready_part s.rows a (omega arith))
    ]

    horz_reach : Horz e → Inside (read_box e) (rows_box s 0 (4 * a))
    unfolding has_room
    horz_reach v =
        let along : Along false (4 * s.cols) (4 * s.rows) e.x e.y (reach_before e.pair) (reach_after e.pair) =
        rw v.stands.dir_is at (along_of (eqb e.dir 0) (4 * s.cols) (4 * s.rows) e.x e.y (reach_before e.pair) (reach_after e.pair) here.room) in
        let down = horz_down v along.1 in
        rw v.stands.dir_is
        (record { ix0 = omega arith; ix1 = omega arith; iy0 = omega arith; iy1 = down })

  pub band_reach : Each (Within s.stride (4 * s.cols) (4 * s.rows) size (rows_box s 0 (4 * a))) (band_of s steps g h a)
  band_reach = band_each _ (λ e here v. (here, vert_reach e here v)) (λ e here v. (here, horz_reach e here v))

  -- rows that are final when 4h rows are filled
  module _ (p : ℕ) (final : p / s.stride < final_of s.rows (4 * h)) where
    final_vert : (e : Edge) → Vert e → Untouched s.stride p e
    final_vert e v = vert_below s.stride p v.r v.c e v.stands (elim (dec_le s.rows h) [
      | yes l ↦ absurd (omega (arith, v.low, v.high))
      | no l ↦ omega (arith, v.low, final, final_part s.rows (4 * h) (omega arith))
    ])

    final_horz : (e : Edge) → Horz e → Untouched s.stride p e
    final_horz e v = horz_below s.stride p v.r v.c e v.stands (elim (dec_le s.rows h) [
      | yes l ↦ absurd (omega (arith, v.low, v.high, ups.1, ready_full s.rows h l))
      | no l ↦ omega (arith, v.low, final, final_part s.rows (4 * h) (omega arith), ready_part s.rows h (omega arith))
    ])

    pub band_final : Each (λ e. InPlane s.stride (4 * s.cols) (4 * s.rows) e size × Untouched s.stride p e) (band_of s steps g h a)
    band_final = band_each _ (λ e here v. (here, final_vert e v)) (λ e here v. (here, final_horz e v))
