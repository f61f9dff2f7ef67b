-- A lone segment's checks: what each that passed says, and the answer and plane at each way out.
-- Assumes nothing.
use mathlib.Core.Path.{◌≡◌, sym, ap, ◌∙◌}
use mathlib.Core.Bool.{Bool, true, false, not}
use mathlib.Core.List.{List}
use Prim.Native.Nat.{ℕ, ◌+◌, ◌-◌, ◌*◌, ◌≤◌, ◌<◌}
use native.Mathlib.Nat.{mul-le-mul, mul-le-mul_right, add-mul}
use native.Mathlib.Omega.{arith}
use borrow.Author.Tests.{eq-eqb, ne_eqb, leb-true}
use lib.ListN.{length}
use Rattle.laws.specs.Choose.{all_parts, is_le, told_yes_not}
use Rattle.rules.specs.declared.edge.Edge.{Edge}
use Rattle.rules.specs.declared.settings.Lone.{Lone}
use Rattle.rules.specs.declared.refusals.Refusal.{Refusal}
use Rattle.rules.specs.Refusals.{Answer}
use Rattle.std.specs.declared.result.Result.TheVariants.{Ok, Err}
use Rattle.std.specs.declared.option.Option.{Option}
use Rattle.std.specs.declared.option.Option.TheVariants.{None}
use Rattle.rules.specs.declared.refusals.Refusal.TheVariants.{Setting, Room, Sample}
use Rattle.rules.specs.Numbers.{depth_ok, top_of}
use Rattle.rules.specs.Refusals.{or_else, unless, found, over_box}
use Rattle.rules.specs.Lengths.{reach_before, reach_after}
use Rattle.rules.specs.Segment.{ranges_ok, has_room, width_at, none_kept, segment_of}
use Rattle.rules.specs.Counts.{stored_at, changed_at}
use Rattle.rules.specs.Lone.{edge_of, sizes_ok, settings_ok, over_edge, lone_check, lone_plane, answer_width, lone_width, lone_stored, lone_changed}
use Rattle.lengths.proofs.Lengths.{pair_facts}
use Rattle.lengths.proofs.Inside.{ranges_are}
use Rattle.checks.specs.Rows.{Box}
use Rattle.checks.proofs.Rows.{box_inner}
use Rattle.checks.proofs.Ranges.{in_range_holds}
use Rattle.checks.proofs.Checks.{stop, go_on, unless_bad, unless_good, else_parts, unless_true, found_nothing, settle_refused_by, settle_accepted_by}
use Rattle.segment.specs.declared.outcome.Outcome.{Outcome}
use Rattle.segment.specs.Fit.{InPlane, EdgeFiltered}
use Rattle.segment.proofs.Cells.{along_of}
use Rattle.lone.specs.Stated.{Stated}

-- ---- what a check that passed says
pub record Sizes (s : Lone) : Type 0 where
  pub columns_some : 1 ≤ s.columns
  pub columns_most : s.columns ≤ 4096
  pub rows_some : 1 ≤ s.rows
  pub rows_most : s.rows ≤ 4096
  pub row : s.columns ≤ s.stride
  pub stride_most : s.stride ≤ 8192

pub sizes_are : (s : Lone) → true ≡ sizes_ok s → Sizes s
unfolding sizes_ok
sizes_are s h =
    let p = all_parts _ _ (sym h) in
    let q = all_parts _ _ p.1 in
    let r = all_parts _ _ q.1 in
    let x = in_range_holds 1 4096 s.columns p.0 in
    let y = in_range_holds 1 4096 s.rows q.0 in
    let z = in_range_holds s.columns 8192 s.stride r.0 in
    record { columns_some = x.0; columns_most = x.1; rows_some = y.0; rows_most = y.1; row = z.0; stride_most = z.1 }

pub pair_below : (e : Edge) → true ≡ ranges_ok e → e.pair < 8
pair_below e h = let y = ranges_are e (sym h) in omega arith

pub product_most : (s : Lone) → true ≡ sizes_ok s → s.rows * s.stride ≤ 33554432
product_most s h = let z = sizes_are s h in mul-le-mul z.rows_most z.stride_most

pub in_plane : (s : Lone) {e : Edge} {size : ℕ} → true ≡ sizes_ok s → s.rows * s.stride ≤ size → true ≡ ranges_ok e → true ≡ has_room s.columns s.rows e
    → InPlane s.stride s.columns s.rows e size
in_plane s {e} h k l r =
    let x = sizes_are s h in
    let y = ranges_are e (sym l) in
    record { pair_is = pair_below e l; q_most = y.q_most; side_most = y.side_most; row = x.row; plane = k; room = sym r }

-- ---- the samples within the reach
module _ {stride columns rows size : ℕ} {e : Edge} (h : InPlane stride columns rows e size) (b a : ℕ) (hb : b ≡ reach_before e.pair) (ha : a ≡ reach_after e.pair) where
  pub upright : e.dir ≡ 0 → (b ≤ e.x) × (b + a ≤ 16) × (e.y * stride + e.x ≤ size) × (Box (e.y * stride + (e.x - b)) stride (b + a) 4 size)
  unfolding has_room
  upright d =
      let f = pair_facts e.pair h.pair_is in
      let bf = f.before in
      let af = f.after in
      let g = rw (eq-eqb _ _ d) at h.room in
      let r = along_of true columns rows e.x e.y (reach_before e.pair) (reach_after e.pair) g in
      let i = h.row in
      let j = h.plane in
      let k = mul-le-mul_right stride r.2 in
      (omega arith, omega arith, omega (arith, add-mul e.y 4 stride), box_inner (e.x - b) e.y (omega arith) (omega arith))

  pub level : (e.dir ≡ 0 → ⊥) → (b ≤ e.y) × (b + a ≤ 16) × ((e.y - b) * stride + e.x ≤ size) × (Box ((e.y - b) * stride + e.x) stride 4 (b + a) size)
  unfolding has_room
  level d =
      let f = pair_facts e.pair h.pair_is in
      let bf = f.before in
      let af = f.after in
      let g = rw (ne_eqb _ _ d) at h.room in
      let r = along_of false columns rows e.x e.y (reach_before e.pair) (reach_after e.pair) g in
      let i = h.row in
      let j = h.plane in
      let m : e.y - b + (b + a) ≤ rows = omega arith in
      let k = mul-le-mul_right stride m in
      let n : e.y - b + 1 ≤ rows = omega arith in
      let o = mul-le-mul_right stride n in
      (omega arith, omega arith, omega (arith, add-mul (e.y - b) 1 stride), box_inner e.x (e.y - b) (omega arith) (omega arith))

  pub over_upright : (top : ℕ) (l : List ℕ) {r : Option ℕ} → e.dir ≡ 0 → r ≡ over_box top l (e.y * stride + (e.x - b)) stride (b + a) 4 → r ≡ over_edge top stride e l
  unfolding over_edge
  over_upright top l d q = rw (eq-eqb _ _ d, ← hb, ← ha) q

  pub over_level : (top : ℕ) (l : List ℕ) {r : Option ℕ} → (e.dir ≡ 0 → ⊥) → r ≡ over_box top l ((e.y - b) * stride + e.x) stride 4 (b + a) → r ≡ over_edge top stride e l
  unfolding over_edge
  over_level top l d q = rw (ne_eqb _ _ d, ← hb, ← ha) q

-- ---- an accepted segment
pub record Passed (s : Lone) (l : List ℕ) : Type 0 where
  pub depth_ok : depth_ok s.depth ≡ true
  pub dir_most : s.dir ≤ 1
  pub inside : InPlane s.stride s.columns s.rows (edge_of s) (length l)
  pub clean : over_edge (top_of s.depth) s.stride (edge_of s) l ≡ None

ranges_of : (s : Lone) → settings_ok s ≡ true → ranges_ok (edge_of s) ≡ true
unfolding settings_ok
ranges_of s h = h

dir_of : (s : Lone) → settings_ok s ≡ true → s.dir ≤ 1
unfolding edge_of
dir_of s h = (ranges_are (edge_of s) (ranges_of s h)).dir_most

pub passed : (s : Lone) (l : List ℕ) → lone_check s l ≡ Ok tt → Passed s l
unfolding lone_check
passed s l h =
    let a = else_parts _ _ h in
    let b = else_parts _ _ a.1 in
    let c = else_parts _ _ b.1 in
    let d = else_parts _ _ c.1 in
    let e = else_parts _ _ d.1 in
    let sizes = unless_true _ _ b.0 in
    let long = leb-true _ _ (unless_true _ _ c.0) in
    let settings = unless_true _ _ d.0 in
    let room = unless_true _ _ e.0 in
    record {
      depth_ok = unless_true _ _ a.0;
      dir_most = dir_of s settings;
      inside = in_plane s (sym sizes) long (sym (ranges_of s settings)) (sym room);
      clean = found_nothing _ _ e.1;
    }

module _ (s : Lone) (l : List ℕ) (a : Answer) (h : a ≡ lone_check s l) where
  pub depth_passed : a ≡ Ok tt → depth_ok s.depth ≡ true
  depth_passed e = (passed s l (sym h ∙ e)).depth_ok

  pub plane_passed : {e : Edge} → a ≡ Ok tt → e ≡ edge_of s → InPlane s.stride s.columns s.rows e (length l)
  plane_passed e q = rw q (passed s l (sym h ∙ e)).inside

  -- "A refusal reports zero for both."
  pub lone_refused : {r : Refusal} → a ≡ Err r → Stated s l (Err r) l
  unfolding lone_width answer_width lone_plane lone_stored lone_changed
  lone_refused e = record {
    width = rw (← h, e);
    stored = settle_refused_by (lone_check s l) a 0 _ h e;
    changed = settle_refused_by (lone_check s l) a 0 _ h e;
    plane = settle_refused_by (lone_check s l) a l _ h e;
  }

  pub lone_accepted : {e : Edge} {top : ℕ} {o : Outcome} {m : List ℕ} → a ≡ Ok tt → e ≡ edge_of s → top ≡ top_of s.depth → EdgeFiltered top s.stride none_kept e l o m
      → Stated s l (Ok (record { width = o.width; stored = o.stored; changed = o.changed })) m
  unfolding lone_width answer_width lone_plane lone_stored lone_changed
  lone_accepted {e} {top} {o} {m} q he ht f =
      let w : o.width ≡ width_at s.stride (edge_of s) l = cc f.width in
      let t : o.stored ≡ stored_at (top_of s.depth) s.stride none_kept (edge_of s) l = cc f.stored in
      let d : o.changed ≡ changed_at (top_of s.depth) s.stride none_kept (edge_of s) l = cc f.changed in
      let k : m ≡ segment_of (top_of s.depth) s.stride none_kept (edge_of s) l = cc f.plane in
      record {
        width = rw (← h, q) (ap Ok w);
        stored = settle_accepted_by (lone_check s l) a 0 _ _ h q t;
        changed = settle_accepted_by (lone_check s l) a 0 _ _ h q d;
        plane = settle_accepted_by (lone_check s l) a l _ m h q k;
      }

pub sure : (t u : Bool) → u ≡ t → not u ≡ false → t ≡ true
sure t u e f = sym (told_yes_not t u e f)

-- the last three checks, after those that passed
module _ (s : Lone) (l : List ℕ) {e : Edge} (d : true ≡ depth_ok s.depth) (z : true ≡ sizes_ok s) (p : s.rows * s.stride ≤ length l) (q : e ≡ edge_of s) where
  later : {b : Answer}
      → b ≡ or_else (unless (ranges_ok e) Setting) (or_else (unless (has_room s.columns s.rows e) (Room 0)) (found (over_edge (top_of s.depth) s.stride e l) Sample))
      → b ≡ lone_check s l
  unfolding lone_check settings_ok
  later h = go_on _ _ _ (unless_good _ _ d) (go_on _ _ _ (unless_good _ _ z) (go_on _ _ _ (unless_good _ _ (is_le _ _ p)) (rw q at h)))

  pub ranges_refused : false ≡ ranges_ok e → Err Setting ≡ lone_check s l
  ranges_refused h = later (stop _ _ (unless_bad _ _ h))

  pub room_refused : true ≡ ranges_ok e → false ≡ has_room s.columns s.rows e → Err (Room 0) ≡ lone_check s l
  room_refused t h = later (go_on _ _ _ (unless_good _ _ t) (stop _ _ (unless_bad _ _ h)))

  pub room_passed : {top : ℕ} {a : Answer} → true ≡ ranges_ok e → true ≡ has_room s.columns s.rows e → top ≡ top_of s.depth → a ≡ found (over_edge top s.stride e l) Sample → a ≡ lone_check s l
  room_passed {top} {a} t h k r =
      let x : a ≡ found (over_edge (top_of s.depth) s.stride e l) Sample = cc in
      later (go_on _ _ _ (unless_good _ _ t) (go_on _ _ _ (unless_good _ _ h) x))
