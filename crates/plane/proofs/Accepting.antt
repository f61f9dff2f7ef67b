-- What the checks of a plane give: the statement at each way out, and all that an accepted plane's run asks.
-- Assumes nothing.
use mathlib.Core.Path.{◌≡◌, refl, sym, ap, ◌∙◌}
use mathlib.Core.Bool.{Bool, true, false, not}
use mathlib.Core.List.{List, []}
use Prim.Native.Nat.{ℕ, ◌+◌, ◌*◌, ◌-◌, ◌/◌, ◌%◌, ◌≤◌, ◌<◌, min}
use native.Mathlib.Omega.{arith}
use borrow.Author.Rules.{rules}
use borrow.Author.Tests.{leb-true}
use lib.Dec.{eqb, ltb}
use lib.IntN.{ℤ}
use lib.ListN.{length, get_or}
use Rattle.laws.specs.Choose.{pick, pick_yes, pick_no, is_lt, not_lt, told_yes_not, all_parts, both_parts}
use Rattle.rules.specs.declared.settings.Plane.{Plane}
use Rattle.rules.specs.declared.refusals.Refusal.{Refusal}
use Rattle.rules.specs.declared.refusals.Refusal.TheVariants.{Depth, Size, Length, Setting, Cell, Room, Sample}
use Rattle.rules.specs.Refusals.{Answer}
use Rattle.std.specs.declared.result.Result.TheVariants.{Ok, Err}
use Rattle.std.specs.declared.option.Option.{Option}
use Rattle.std.specs.declared.option.Option.TheVariants.{None}
use Rattle.rules.specs.Numbers.{depth_ok}
use Rattle.rules.specs.Refusals.{or_else, found}
use Rattle.rules.specs.Thresholds.{steps_check, deltas_check, quant_of, step_of, side_of, index_of}
use Rattle.rules.specs.Plane.{Grid, tiled, keeping, starts_tile, shortened_at, cell_good, edge_at, visit_of, sweep_of, column_of, turn_of, edges_of, marks_of, indices_of, index_at, is_edge, edge_room, lacks_room, lacks_row, lacks_dir, bad_cell, no_room, over_plane, plane_sizes_ok, plane_lengths_ok, plane_check, plane_after, plane_stored, plane_changed, run_plane, run_stored, run_changed}
use Rattle.rules.specs.Rows.{settings_check}
use Rattle.thresholds.specs.ByQindex.{packed_of, ByQindex}
use Rattle.thresholds.proofs.Quants.{q_most}
use Rattle.thresholds.proofs.Sides.{side_most}
use Rattle.checks.proofs.First.{sooner_nothing, nothing_all, unless_nothing}
use Rattle.checks.proofs.Checks.{else_parts, unless_true, found_nothing, settle_refused, settle_accepted}
use Rattle.checks.proofs.Exactly.{else_joined}
use Rattle.cell_edges.specs.Cells.{Sizes, Ready, Cell as Inside, one_way, marked, short_by}
use Rattle.plane_checks.specs.Fit.{CellsLong, bad_of, room_of}
use Rattle.plane_checks.proofs.Accepted.{sizes, sizes_by}
use Rattle.plane_checks.proofs.Marks.{none_good}
use Rattle.plane_checks.proofs.Reach.{edge_room_is}
use Rattle.plane.proofs.Edges.{short_is}
use Rattle.plane.specs.Run.{table_at, IsTable, start_by, Table, Levels, Field, none, state, Ran}
use Rattle.plane.specs.Checked.{Sized, Checked, Filtered, Noted, Stated}
use Rattle.rules.specs.declared.counts.Visited.{Visited}

-- ---- lengths

pub record Lengths (s : Plane) (g : Grid) (n : ℕ) : Type 0 where
  pub samples : 4 * s.rows * s.stride ≤ n
  pub lists : CellsLong (s.rows * s.cols) (length g.vedge) (length g.hedge) (length g.sqw) (length g.sqh) (length g.keep)
  pub qindex : s.rows * s.cols ≤ length g.qindex

pub lengths : (s : Plane) (g : Grid) (n : ℕ) → plane_lengths_ok s g n ≡ true → Lengths s g n
unfolding plane_lengths_ok
lengths s g n e =
    let p1 = all_parts _ _ e in
    let p2 = all_parts _ _ p1.1 in
    let p3 = all_parts _ _ p2.1 in
    let p4 = all_parts _ _ p3.1 in
    let p5 = all_parts _ _ p4.1 in
    let p6 = all_parts _ _ p5.1 in
    let p7 = all_parts _ _ p6.1 in
    record {
      samples = leb-true _ _ p1.0;
      lists = record { vedge = leb-true _ _ p2.0; hedge = leb-true _ _ p3.0; sqw = leb-true _ _ p4.0; sqh = leb-true _ _ p5.0; keep = leb-true _ _ p7.0 };
      qindex = leb-true _ _ p6.0;
    }

-- as the code's tests found them
pub sized_by : {s : Plane} {n : ℕ} (v h w t q ts ks : List ℕ) {a b c : Bool} → a ≡ depth_ok s.depth → not a ≡ false → b ≡ plane_sizes_ok s → not b ≡ false → c ≡ plane_lengths_ok s (keeping v h w t q ts ks) n → not c ≡ false
    → Sized s n (length v) (length h) (length w) (length t) (length ks)
sized_by {s} {n} v h w t q ts ks {a} {b} {c} d d' e e' f f' =
    let l = lengths s (keeping v h w t q ts ks) n (sym (told_yes_not _ c f f')) in
    record { depth = sym (told_yes_not _ a d d'); sizes_ok = sizes_by s b e e'; plane_long = l.samples; lists_long = l.lists }

-- ---- cells without a bad number

module _ {s : Plane} (v h w t ks : List ℕ) (z : Sizes s) (l : CellsLong (s.rows * s.cols) (length v) (length h) (length w) (length t) (length ks)) (none : bad_of (s.rows * s.cols) (keeping v h w t [] [] ks) ≡ None) where
  pub ready_vert : Ready s v w
  ready_vert = record {
    sizes_ok = z;
    marks_long = l.vedge;
    indices = record { long = l.sqw; small = record { each_one = λ k b. (none_good _ (keeping v h w t [] [] ks) none k b).0 } };
  }

  pub ready_horz : Ready s h t
  ready_horz = record {
    sizes_ok = z;
    marks_long = l.hedge;
    indices = record { long = l.sqh; small = record { each_one = λ k b. (none_good _ (keeping v h w t [] [] ks) none k b).1 } };
  }

bad_none : (s : Plane) (v h w t q ts ks : List ℕ) → bad_cell s (keeping v h w t q ts ks) ≡ None → bad_of (s.rows * s.cols) (keeping v h w t [] [] ks) ≡ None
unfolding bad_cell bad_of cell_good
bad_none s v h w t q ts ks e = e

pub readies : {s : Plane} (v h w t ks : List ℕ) {f : Option ℕ} → Sizes s → CellsLong (s.rows * s.cols) (length v) (length h) (length w) (length t) (length ks) → ((q ts : List ℕ) → f ≡ bad_cell s (keeping v h w t q ts ks)) → f ≡ None → Ready s v w × Ready s h t
readies {s} v h w t ks z l e g =
    let none = bad_none s v h w t [] [] ks (sym (e [] []) ∙ g) in
    (ready_vert v h w t ks z l none, ready_horz v h w t ks z l none)

pub readies_by : {s : Plane} {n : ℕ} (v h w t ks : List ℕ) {f : Option ℕ} → Sized s n (length v) (length h) (length w) (length t) (length ks) → ((q ts : List ℕ) → f ≡ bad_cell s (keeping v h w t q ts ks)) → f ≡ None → Ready s v w × Ready s h t
readies_by v h w t ks z e g = readies v h w t ks z.sizes_ok z.lists_long e g

-- ---- an accepted plane

-- checks 1 to 7
pub settled : (s : Plane) (steps : List ℕ) (g : Grid) (n : ℕ) → settings_check s steps g n ≡ Ok tt → Checked s steps g n
unfolding settings_check deltas_check
settled s steps g n e =
    let p1 = else_parts _ _ e in
    let p2 = else_parts _ _ p1.1 in
    let p3 = else_parts _ _ p2.1 in
    let p4 = else_parts _ _ p3.1 in
    let p5 = else_parts _ _ p4.1 in
    let p6 = else_parts _ _ p5.1 in
    let p7 = else_parts _ _ p6.1 in
    let deltas = both_parts _ _ (unless_true _ Setting p5.0) in
    record {
      depth = unless_true _ Depth p1.0;
      sizes_ok = sizes s (unless_true _ Size p2.0);
      lengths = unless_true _ Length p3.0;
      steps_ok = p4.0;
      deltaq_ok = deltas.0;
      deltaside_ok = deltas.1;
      tiles_ok = p6.0;
      cells = found_nothing _ Cell p7.0;
      room = found_nothing _ Room p7.1;
    }

-- 1 to 7, then 8
pub plane_parts : (s : Plane) (steps : List ℕ) (g : Grid) (l : List ℕ) → plane_check s steps g l ≡ or_else (settings_check s steps g (length l)) (found (over_plane s l) Sample)
unfolding plane_check settings_check
plane_parts s steps g l = simp else_joined

pub checked : (s : Plane) (steps : List ℕ) (g : Grid) (l : List ℕ) → plane_check s steps g l ≡ Ok tt → Checked s steps g (length l)
checked s steps g l e = settled s steps g (length l) (else_parts _ _ (sym (plane_parts s steps g l) ∙ e)).0

-- what the check of the samples asks
pub checked_samples : {s : Plane} {steps : List ℕ} {g : Grid} {n : ℕ} → Checked s steps g n → Sizes s × (depth_ok s.depth ≡ true) × (4 * s.rows * s.stride ≤ n)
checked_samples {s} {steps} {g} {n} k = (k.sizes_ok, k.depth, (lengths s g n k.lengths).samples)

-- ---- the run

-- a table of accepted steps has small thresholds
levels : (d : ℕ) (steps t : List ℕ) {deltaq deltaside : ℤ} → depth_ok d ≡ true → steps_check steps ≡ Ok tt → ByQindex d steps deltaq deltaside t → Levels t
unfolding packed_of
levels d steps t {deltaq} {deltaside} deep good by = record { q_most = λ k h. (one k h).0; side_most = λ k h. (one k h).1 }
  where
    one : (k : ℕ) → k ≤ 1415 → (get_or t k 0 / 65536 ≤ 2048) × (get_or t k 0 % 65536 ≤ 839)
    one k h =
        let m : min k 1415 ≡ k = omega arith in
        let e : get_or t k 0 ≡ quant_of (step_of d steps (index_of k deltaq)) * 65536 + side_of d (index_of k deltaside) = ap (λ (j : ℕ). get_or t j 0) (sym m) ∙ by.at k in
        let q = q_most d steps (index_of k deltaq) deep good in
        let side = side_most d (index_of k deltaside) deep in
        (omega arith, omega arith)

is_one_by : (b : Bool) → eqb (pick b 1 0) 1 ≡ b
unfolding pick
is_one_by true = refl
is_one_by false = refl

-- the thresholds and the tile starts of a table that was made of them
module _ {levels ts t : List ℕ} (is : IsTable levels ts t) where
  pub by_table : {d : ℕ} {steps : List ℕ} {deltaq deltaside : ℤ} → ByQindex d steps deltaq deltaside levels → ByQindex d steps deltaq deltaside t
  unfolding table_at
  by_table by = record {
    at = λ k.
        let h : min k 1415 < 1416 = omega arith in
        is.at (min k 1415) (omega arith) ∙ sym (pick_yes (ltb (min k 1415) 1416) _ _ _ (is_lt (min k 1415) 1416 h) refl) ∙ by.at k;
  }

  pub starts_table : (c : ℕ) → c < 1024 → start_by t c ≡ starts_tile ts (length ts) c
  unfolding table_at
  starts_table c h =
      let e : 1416 + c - 1416 ≡ c = omega arith in
      let made = is.at (1416 + c) (omega arith) ∙ sym (pick_no (ltb (1416 + c) 1416) _ _ _ (not_lt (1416 + c) 1416 (omega arith)) refl) in
      ap (λ (n : ℕ). eqb n 1) (rw e at made) ∙ is_one_by (starts_tile ts (length ts) c)

-- a marked edge has room, where none lacks it
module _ (s : Plane) (m z ts : List ℕ) (dir r c : ℕ) (clear : lacks_dir s (one_way m z [] ts) dir ≡ None) (at : Inside s r c) where
  edge_clear : is_edge s (marked m) dir r c ≡ true → edge_room s (one_way m z [] ts) dir r c ≡ true
  unfolding lacks_dir lacks_row lacks_room is_edge marks_of
  edge_clear edge =
      let row = nothing_all (λ y. lacks_row s (one_way m z [] ts) dir y) s.rows clear r at.in_rows in
      let one = nothing_all (λ x. lacks_room s (one_way m z [] ts) dir r x) s.cols row c at.in_cols in
      pick_yes (is_edge s (one_way m z [] ts) dir r c) (edge_room s (one_way m z [] ts) dir r c) true _ (sym edge) refl ∙ unless_nothing _ _ one

  clear_room : {steps t : List ℕ} → Table s steps ts t → is_edge s (marked m) dir r c ≡ true → room_of s z (short_by s (start_by t c) dir r) dir r c ≡ true
  clear_room of edge =
      ap (λ (b : Bool). room_of s z b dir r c) (short_is of [] [] [] dir r c at.in_cols)
      ∙ edge_room_is s m z [] ts dir r c
      ∙ edge_clear edge

module _ {s : Plane} {steps : List ℕ} (v h w t q ts ks : List ℕ) {n : ℕ} {table low : List ℕ} (k : Checked s steps (keeping v h w t q ts ks) n) (by : ByQindex s.depth steps s.deltaq s.deltaside low) (made : IsTable low ts table) where
  no_lack : (lacks_dir s (one_way v w [] ts) 0 ≡ None) × (lacks_dir s (one_way h t [] ts) 1 ≡ None)
  unfolding no_room lacks_dir lacks_row lacks_room is_edge marks_of edge_room index_at indices_of shortened_at pick
  no_lack = sooner_nothing _ _ k.room

  pub of_table : Table s steps ts table
  of_table = record { entries = by_table made by; accepted = k.steps_ok; starts = λ c l. starts_table made c (omega (arith, l, k.sizes_ok.cols_most)) }

  pub field_vert : Field s v w q table n 0
  field_vert =
      let l = lengths s (keeping v h w t q ts ks) n k.lengths in
      record {
        ready = ready_vert v h w t ks k.sizes_ok l.lists (bad_none s v h w t q ts ks k.cells);
        depth = k.depth;
        qindex_long = l.qindex;
        plane_long = l.samples;
        levels = levels s.depth steps table k.depth k.steps_ok (by_table made by);
        room = λ r c at edge. clear_room s v w ts 0 r c no_lack.0 at of_table edge;
      }

  pub field_horz : Field s h t q table n 1
  field_horz =
      let l = lengths s (keeping v h w t q ts ks) n k.lengths in
      record {
        ready = ready_horz v h w t ks k.sizes_ok l.lists (bad_none s v h w t q ts ks k.cells);
        depth = k.depth;
        qindex_long = l.qindex;
        plane_long = l.samples;
        levels = levels s.depth steps table k.depth k.steps_ok (by_table made by);
        room = λ r c at edge. clear_room s h t ts 1 r c no_lack.1 at of_table edge;
      }

  -- a run that was handed some of the keep marks, told as a run with these
  pub ran_plane : (a b front : List ℕ) {x : Visited} {m c : List ℕ} → Ran s table front (λ st us. edges_of s st (tiled v h w t q us)) (state a b none) (state m c x) → Noted s steps (keeping v h w t q ts front) a b x m c
  unfolding run_plane run_stored run_changed edges_of turn_of column_of sweep_of visit_of is_edge edge_at index_at shortened_at marks_of indices_of
  ran_plane a b front r = record {
    plane = r.is steps ts of_table;
    buffer = r.notes steps ts of_table;
    visited = r.visited steps ts;
    stored = omega (arith, r.stored steps ts of_table);
    changed = omega (arith, r.changed steps ts of_table);
  }

-- ---- the entry

module _ (s : Plane) (steps : List ℕ) (g : Grid) (l : List ℕ) {a : Answer} (is : a ≡ plane_check s steps g l) where
  pub stated_refused : {r : Refusal} → a ≡ Err r → Stated s steps g l (Err r) l
  unfolding plane_after plane_stored plane_changed
  stated_refused e = record {
    answer = sym e ∙ is;
    plane = settle_refused _ _ _ (sym e ∙ is);
    stored = settle_refused _ _ _ (sym e ∙ is);
    changed = settle_refused _ _ _ (sym e ∙ is);
  }

  pub stated_run : {x : Visited} {m : List ℕ} → a ≡ Ok tt → Filtered s steps g l x m → Stated s steps g l (Ok (record { stored = x.stored; changed = x.changed })) m
  unfolding plane_after plane_stored plane_changed
  stated_run e run = record {
    answer = sym e ∙ is;
    plane = settle_accepted _ _ _ _ (sym e ∙ is) run.plane;
    stored = settle_accepted _ _ _ _ (sym e ∙ is) run.stored;
    changed = settle_accepted _ _ _ _ (sym e ∙ is) run.changed;
  }

  pub checked_by : a ≡ Ok tt → Checked s steps g (length l)
  checked_by e = checked s steps g l (sym is ∙ e)

pub ruleset entry = (rules, stated_refused, stated_run, checked_by)
