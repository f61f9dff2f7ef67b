-- Two results that a statement of include/bihargesh.h allows are equal: answer, place, counts, and every other lent list that the function may write.
-- Assumes nothing.
use mathlib.Core.Path.{◌≡◌, sym, ap, ◌∙◌}
use mathlib.Core.List.{List}
use Prim.Native.Nat.{ℕ}
use lib.IntN.{ℤ}
use Rattle.rules.specs.Plane.{Grid}
use Rattle.rules.specs.TuGrid.{Marks}
use Rattle.rules.specs.QindexGrid.{q_grid_check, q_grid_of}
use Rattle.rules.specs.Ccso.{ccso_check, ccso_of}
use Rattle.rules.specs.Frame.{Given, Lent}
use Rattle.rules.specs.CSide.{c_thresholds}
use Rattle.answers.specs.Told.{listed, Reported}
use Rattle.answers.proofs.Unique.{counted_unique, reported_unique, filter_told_unique}
use Rattle.numbers.specs.Settings.{qindex_grid_of, offsets_of}
use Rattle.by_list.specs.Planes.{PlaneTold, ReplayTold, RecordTold}
use Rattle.by_list.specs.Grids.{GridTold}
use Rattle.by_list.specs.Rectangles.{RectangleTold}
use Rattle.leaves.specs.declared.records.Leaf.{Leaf}
use Rattle.leaves.specs.Records.{flat}
use Rattle.by_list.specs.Frames.{FrameTold}
use Rattle.by_list.specs.Rows.{RowsTold}
use Rattle.cside.proofs.Filled.{told_once}
use Rattle.cside.proofs.WholeFrame.{frame_unique}
use Rattle.cside.specs.Segment.{SegmentTold}
use Rattle.cside.specs.Steps.{StepsTold}

module _ {r s : ℤ} where
  pub steps_unique : {l m n : List ℕ} → StepsTold l r m → StepsTold l s n → (r ≡ s) × (m ≡ n)
  steps_unique t u = (t.answer ∙ sym u.answer, t.left_is ∙ sym u.left_is)

  pub thresholds_unique : (curr prev depth : ℕ) (deltaq deltaside : ℤ) (bytes : List ℕ) → r ≡ c_thresholds curr prev deltaq deltaside depth bytes → s ≡ c_thresholds curr prev deltaq deltaside depth bytes → r ≡ s
  thresholds_unique curr prev depth deltaq deltaside bytes e f = e ∙ sym f

  pub segment_unique : {depth pair q side : ℕ} {bytes counts m n x y : List ℕ} → SegmentTold depth pair q side bytes counts r m x → SegmentTold depth pair q side bytes counts s n y
      → (r ≡ s) × (m ≡ n) × (x ≡ y)
  segment_unique t u = (t.answer ∙ sym u.answer, t.window_is ∙ sym u.window_is, t.counts_are ∙ sym u.counts_are)

  module _ (settings : List ℤ) {place p q : List ℕ} where
    pub tx_grid_unique : (leaves skips : List ℕ) (g : Marks) (k : List ℕ) {m n : Marks} {x y : List ℕ} → GridTold settings leaves skips g k place r m x p → GridTold settings leaves skips g k place s n y q
        → (r ≡ s) × (m ≡ n) × (x ≡ y) × (p ≡ q)
    tx_grid_unique leaves skips g k t u =
        let e = reported_unique t u in
        (e.0, ap (λ (l : Marks × List ℕ). l.0) e.1, ap (λ (l : Marks × List ℕ). l.1) e.1, e.2)

    pub tx_grid_leaves_unique : (leaves skips : List Leaf) (g : Marks) (k : List ℕ) {m n : Marks} {x y : List ℕ}
        → GridTold settings (flat leaves) (flat skips) g k place r m x p
        → GridTold settings (flat leaves) (flat skips) g k place s n y q
        → (r ≡ s) × (m ≡ n) × (x ≡ y) × (p ≡ q)
    tx_grid_leaves_unique leaves skips = tx_grid_unique (flat leaves) (flat skips)

    pub keep_rectangle_unique : (k : List ℕ) {m n : List ℕ} → RectangleTold settings k place r m p → RectangleTold settings k place s n q → (r ≡ s) × (m ≡ n) × (p ≡ q)
    keep_rectangle_unique k = reported_unique

    pub qindex_grid_unique : (sbq l : List ℕ) {m n : List ℕ}
        → Reported (listed 5 settings (q_grid_check (qindex_grid_of settings) sbq l)) l (q_grid_of (qindex_grid_of settings) sbq l) place r m p
        → Reported (listed 5 settings (q_grid_check (qindex_grid_of settings) sbq l)) l (q_grid_of (qindex_grid_of settings) sbq l) place s n q
        → (r ≡ s) × (m ≡ n) × (p ≡ q)
    qindex_grid_unique sbq l = reported_unique

    pub ccso_unique : (luma flags t : List ℕ) (offsets : List ℤ) {m n : List ℕ}
        → Reported (listed 16 settings (ccso_check (offsets_of settings) luma flags offsets t)) t (ccso_of (offsets_of settings) luma flags offsets t) place r m p
        → Reported (listed 16 settings (ccso_check (offsets_of settings) luma flags offsets t)) t (ccso_of (offsets_of settings) luma flags offsets t) place s n q
        → (r ≡ s) × (m ≡ n) × (p ≡ q)
    ccso_unique luma flags t offsets = reported_unique

  -- those that filter, with their counts
  module _ (settings : List ℤ) {place counts p q x y : List ℕ} where
    pub plane_unique : (steps l : List ℕ) (g : Grid) {m n : List ℕ} → PlaneTold settings steps g l place counts r m p x → PlaneTold settings steps g l place counts s n q y
        → (r ≡ s) × (m ≡ n) × (p ≡ q) × (x ≡ y)
    plane_unique steps l g = filter_told_unique

    pub replay_unique : (bytes keep l : List ℕ) {m n : List ℕ} → ReplayTold settings bytes keep l place counts r m p x → ReplayTold settings bytes keep l place counts s n q y
        → (r ≡ s) × (m ≡ n) × (p ≡ q) × (x ≡ y)
    replay_unique bytes keep l = filter_told_unique

    pub record_plane_unique : (steps l b : List ℕ) (g : Grid) {m n c d : List ℕ}
        → RecordTold settings steps g l b place counts r m c p x
        → RecordTold settings steps g l b place counts s n d q y
        → (r ≡ s) × (m ≡ n) × (c ≡ d) × (p ≡ q) × (x ≡ y)
    record_plane_unique steps l b g t u =
        let e = counted_unique t.told u.told in
        (e.0, t.plane ∙ sym u.plane, t.buffer ∙ sym u.buffer, e.1, t.counts_are ∙ sym u.counts_are)

    pub rows_unique : (steps l st : List ℕ) (g : Grid) (filled : ℕ) {m n t u : List ℕ}
        → RowsTold settings steps g st filled l place counts r m t p x
        → RowsTold settings steps g st filled l place counts s n u q y
        → (r ≡ s) × (m ≡ n) × (t ≡ u) × (p ≡ q) × (x ≡ y)
    rows_unique steps l st g filled = told_once

    pub whole_frame_unique : (given : Given) (l : Lent) {m n : Lent} → FrameTold settings given l place counts r m p x → FrameTold settings given l place counts s n q y
        → (r ≡ s) × (m ≡ n) × (p ≡ q) × (x ≡ y)
    whole_frame_unique given l = frame_unique
