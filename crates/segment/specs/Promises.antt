-- What an edge promises of each sample: demand 3 within the widths, and nothing new outside of them.
-- m is the plane after the edge, l the plane before it. Assumes nothing.
use Rattle.std.specs.Prelude.{◌≡◌, ℕ, ◌+◌, ◌*◌, ◌<◌, min, Bool, false, List, ℤ, ◌≢◌, slice_index, slice_index_or}
use Rattle.rules.specs.declared.edge.Edge.{Edge}
use Rattle.rules.specs.declared.edge.Place.{Place}
use Rattle.rules.specs.Lengths.{most_before}
use Rattle.rules.specs.Width.{blank}
use Rattle.rules.specs.Ramp.{Near, ramp_before, ramp_after}
use Rattle.rules.specs.Segment.{edge_place, p_at, q_at, window_of, difference_of, width_at}

-- where p_k and q_k of line j stand
abbrev pub p_place : Place → ℕ → ℕ → ℕ
p_place g j k = p_at (g.at + j * g.line) g.step k

abbrev pub q_place : Place → ℕ → ℕ → ℕ
q_place g j k = q_at (g.at + j * g.line) g.step k

-- "before-width n = min(w,N)", and D of line j
abbrev pub narrow_at : ℕ → Edge → List ℕ → ℕ
narrow_at stride e l = min (width_at stride e l) (most_before e.pair)

abbrev pub difference_at : ℕ → Edge → List ℕ → ℕ → ℤ
difference_at stride e l j = difference_of (slice_index_or (window_of (edge_place stride e) l) j blank) e.q (width_at stride e l)

-- demand 3: every sample within the widths lies near the ramp; ticket 7: "demand 3 holds for stored samples outside kept cells"
pub record Demand3 (top stride : ℕ) (kept : ℕ → Bool) (e : Edge) (l m : List ℕ) : Type 0 where
  pub before : (j k : ℕ) → j < 4 → k < narrow_at stride e l → kept (p_place (edge_place stride e) j k) ≡ false
      → Near (slice_index m (p_place (edge_place stride e) j k)) (ramp_before top (slice_index l (p_place (edge_place stride e) j k)) (difference_at stride e l j) (narrow_at stride e l) k) (difference_at stride e l j) (narrow_at stride e l) k
  pub after : (j k : ℕ) → j < 4 → k < width_at stride e l → kept (q_place (edge_place stride e) j k) ≡ false
      → Near (slice_index m (q_place (edge_place stride e) j k)) (ramp_after top (slice_index l (q_place (edge_place stride e) j k)) (difference_at stride e l j) (width_at stride e l) k) (difference_at stride e l j) (width_at stride e l) k

-- a place that is no sample within the widths
pub record Outside (stride : ℕ) (e : Edge) (l : List ℕ) (i : ℕ) : Type 0 where
  pub before : (j k : ℕ) → j < 4 → k < narrow_at stride e l → p_place (edge_place stride e) j k ≢ i
  pub after : (j k : ℕ) → j < 4 → k < width_at stride e l → q_place (edge_place stride e) j k ≢ i
