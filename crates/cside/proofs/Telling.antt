-- What C is told of an entry by its settings as a list: where the list is refused, and of what the entry then gives.
-- Assumes nothing.
use mathlib.Core.Path.{◌≡◌, refl, ◌∙◌}
use mathlib.Core.List.{List}
use Prim.Native.Nat.{ℕ, ◌*◌, ◌≤◌, ◌<◌}
use borrow.Author.Rules.{rules}
use lib.ListN.{length}
use lib.IntN.{ℤ}
use mir.Syntax.{w32}
use mir.Val.{to_z, of_z}
use Rattle.rules.specs.declared.settings.Plane.{Plane}
use Rattle.rules.specs.declared.settings.Replay.{Replay}
use Rattle.rules.specs.declared.settings.TuGrid.{TuGrid}
use Rattle.rules.specs.declared.settings.QindexGrid.{QindexGrid}
use Rattle.rules.specs.declared.settings.Keep.{Keep}
use Rattle.rules.specs.declared.settings.Ccso.{Ccso}
use Rattle.rules.specs.declared.refusals.Refusal.{Refusal}
use Rattle.rules.specs.declared.refusals.Refusal.TheVariants.{Length}
use Rattle.rules.specs.Refusals.{Answer}
use Rattle.std.specs.declared.result.Result.TheVariants.{Ok, Err}
use Rattle.std.specs.declared.result.Result.{Result}
use Rattle.rules.specs.declared.counts.Counts.{Counts}
use Rattle.rules.specs.Refusals.{answered, changed_in, stored_in}
use Rattle.rules.specs.Refusals.{settle}
use Rattle.rules.specs.Plane.{Grid, plane_after, plane_stored, plane_changed}
use Rattle.rules.specs.Replay.{replay_after, replay_stored, replay_changed}
use Rattle.rules.specs.TuGrid.{Marks, clear_of, tx_grid_check, tx_grid_of, tx_grid_after, cleared_after}
use Rattle.rules.specs.QindexGrid.{q_grid_check, q_grid_of, q_grid_after}
use Rattle.rules.specs.Keep.{keep_after}
use Rattle.rules.specs.Ccso.{ccso_check, ccso_of, ccso_after}
use Rattle.checks.proofs.Checks.{stop_by, go_on_by}
use Rattle.plane.specs.Checked.{Stated as «PlaneStated»}
use Rattle.replay.specs.Fit.{in_word, Replayed}
use Rattle.grid.specs.Stated.{Stated as «GridStated»}
use Rattle.rectangle.specs.Stated.{Stated as «RectangleStated»}
use Rattle.ccso.specs.Stated.{Stated as «OffsetsStated»}
use Rattle.answers.specs.Told.{listed, tallied, Told, Reported}
use Rattle.answers.proofs.Numbers.{reported_refused, reported_on, settled, short_is, long_is, short, long, filter_refused, filter_on}
use Rattle.numbers.specs.Settings.{plane_of, replay_settings, tu_grid_of, qindex_grid_of, rectangle_of, offsets_of}
use Rattle.by_list.specs.Planes.{list_check, c_plane_check, PlaneTold, ReplayTold}
use Rattle.by_list.specs.Grids.{GridTold}
use Rattle.by_list.specs.Rectangles.{rectangle_check, c_rectangle_check, RectangleTold}
use Rattle.by_list.proofs.Lists.{plane_long, rectangle_long}

-- ---- a plane

module _ (settings : List ℤ) (steps : List ℕ) (g : Grid) (l : List ℕ) {a : Answer} (is : a ≡ list_check settings) {p q k t : List ℕ} {z : ℤ} where
  pub plane_refused : {r : Refusal} → a ≡ Err r → Told (Err r) p z q × (t ≡ tallied 0 0 k) → PlaneTold settings steps g l p k (to_z w32 (of_z w32 z)) l q t
  unfolding c_plane_check
  plane_refused e u = filter_refused l _ _ _ (stop_by _ _ _ is e) u

  pub plane_told : {s : Plane} {x : Result Counts Refusal} {m : List ℕ} → a ≡ Ok tt → s ≡ plane_of settings → «PlaneStated» s steps g l x m → Told (answered x) p z q × (t ≡ tallied (stored_in x) (changed_in x) k)
      → PlaneTold settings steps g l p k (to_z w32 (of_z w32 z)) m q t
  unfolding c_plane_check plane_after plane_stored plane_changed
  plane_told {s} {x} {m} e read d u =
      let w : «PlaneStated» (plane_of settings) steps g l x m = rw read at d in
      filter_on l _ _ _ _ (go_on_by _ _ _ _ is e refl) w.answer w.plane w.stored w.changed u

pub ruleset planes = (rules, plane_long, plane_refused, plane_told)

-- ---- a record that is run again

word_kept : (a : Answer) (n : ℕ) → in_word (settle a 0 n) ≡ settle a 0 (in_word n)
unfolding settle
word_kept (Ok tt) n = refl
word_kept (Err r) n = refl

module _ (settings : List ℤ) (bytes keep l : List ℕ) {p q k t : List ℕ} {z : ℤ} where
  pub replay_short : length settings < 4 → Told (Err Length) p z q × (t ≡ tallied 0 0 k) → ReplayTold settings bytes keep l p k (to_z w32 (of_z w32 z)) l q t
  replay_short h u = filter_refused l _ _ _ (short_is 4 settings _ h) u

  pub replay_told : {s : Replay} {x : Result Counts Refusal} {m : List ℕ} → 4 ≤ length settings → s ≡ replay_settings settings → Replayed s bytes keep l x m → Told (answered x) p z q × (t ≡ tallied (stored_in x) (changed_in x) k)
      → ReplayTold settings bytes keep l p k (to_z w32 (of_z w32 z)) m q t
  unfolding replay_after replay_stored replay_changed
  replay_told {s} {x} {m} enough read d u =
      let w : Replayed (replay_settings settings) bytes keep l x m = rw read at d in
      filter_on l _ _ _ _ (long_is 4 settings _ enough) w.answer w.plane (w.stored ∙ word_kept _ _) (w.changed ∙ word_kept _ _) u

pub ruleset replays = (rules, replay_short, replay_told)

-- ---- the grids

module _ (leaves skips : List ℕ) (g : Marks) (k : List ℕ) where
  -- a grid's lists and its keep marks are left by one check
  pub grid_left : {s : TuGrid} {a : Answer} {m : Marks} {n : List ℕ} → «GridStated» s leaves skips g k a m n → ◌≡◌ {A = Marks × List ℕ} (m, n) (settle (tx_grid_check s leaves skips g k) (g, k) (tx_grid_of s leaves skips g, clear_of (s.rows * s.cols) k))
  unfolding tx_grid_after cleared_after
  grid_left t = settled _ g _ k _ t.lists t.cleared

module _ (settings : List ℤ) {p q : List ℕ} {z : ℤ} where
  pub tx_told : (leaves skips : List ℕ) (g : Marks) (k : List ℕ) {s : TuGrid} {a : Answer} {m : Marks} {n : List ℕ} → 6 ≤ length settings → s ≡ tu_grid_of settings → «GridStated» s leaves skips g k a m n → Told a p z q
      → GridTold settings leaves skips g k p (to_z w32 (of_z w32 z)) m n q
  tx_told leaves skips g k {s} {a} {m} {n} enough read d t =
      let w : «GridStated» (tu_grid_of settings) leaves skips g k a m n = rw read at d in
      long 6 settings _ (g, k) _ enough w.answer (grid_left leaves skips g k w) t

  pub q_told : (sbq l : List ℕ) {s : QindexGrid} {a : Answer} {m : List ℕ} → 5 ≤ length settings → s ≡ qindex_grid_of settings → (a ≡ q_grid_check s sbq l) × (m ≡ q_grid_after s sbq l) → Told a p z q
      → Reported (listed 5 settings (q_grid_check (qindex_grid_of settings) sbq l)) l (q_grid_of (qindex_grid_of settings) sbq l) p (to_z w32 (of_z w32 z)) m q
  unfolding q_grid_after
  q_told sbq l {s} {a} {m} enough read d t =
      let w : (a ≡ q_grid_check (qindex_grid_of settings) sbq l) × (m ≡ q_grid_after (qindex_grid_of settings) sbq l) = rw read at d in
      long 5 settings _ l _ enough w.0 w.1 t

  -- ---- the gated offsets

  pub offsets_told : (luma flags : List ℕ) (offsets : List ℤ) (l : List ℕ) {s : Ccso} {a : Answer} {m : List ℕ} → 16 ≤ length settings → s ≡ offsets_of settings → «OffsetsStated» s luma flags offsets l a m → Told a p z q
      → Reported (listed 16 settings (ccso_check (offsets_of settings) luma flags offsets l)) l (ccso_of (offsets_of settings) luma flags offsets l) p (to_z w32 (of_z w32 z)) m q
  unfolding ccso_after
  offsets_told luma flags offsets l {s} {a} {m} enough read d t =
      let w : «OffsetsStated» (offsets_of settings) luma flags offsets l a m = rw read at d in
      long 16 settings _ l _ enough w.answer w.target t

pub ruleset grids = (rules, short, tx_told, q_told)

pub ruleset gates = (rules, short, offsets_told)

-- ---- keep marks over a rectangle

module _ (settings : List ℤ) (k : List ℕ) {a : Answer} (is : a ≡ rectangle_check settings) {p q : List ℕ} {z : ℤ} where
  pub rectangle_refused : {r : Refusal} → a ≡ Err r → Told (Err r) p z q → RectangleTold settings k p (to_z w32 (of_z w32 z)) k q
  unfolding c_rectangle_check
  rectangle_refused e t = reported_refused k _ (stop_by _ _ _ is e) t

  pub rectangle_told : {s : Keep} {x : Answer} {n : List ℕ} → a ≡ Ok tt → s ≡ rectangle_of settings → «RectangleStated» s k x n → Told x p z q → RectangleTold settings k p (to_z w32 (of_z w32 z)) n q
  unfolding c_rectangle_check keep_after
  rectangle_told {s} {x} {n} e read d t =
      let w : «RectangleStated» (rectangle_of settings) k x n = rw read at d in
      reported_on k _ (go_on_by _ _ _ _ is e refl) w.answer w.marks t

pub ruleset rectangles = (rules, rectangle_long, rectangle_refused, rectangle_told)
