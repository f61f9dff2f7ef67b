-- What an edge needs of a plane, and what it makes of one.
-- Assumes nothing.
use Rattle.std.specs.Prelude.{◌≡◌, ℕ, ◌+◌, ◌-◌, ◌*◌, ◌<◌, ◌≤◌, Bool, true, List, length, ◌≢◌, slice_index}
use Rattle.laws.specs.Stores.{puts}
use Rattle.laws.specs.Outside.{outside}
use Rattle.laws.specs.Changes.{changes}
use Rattle.rules.specs.declared.edge.Edge.{Edge}
use Rattle.rules.specs.declared.edge.Place.{Place}
use Rattle.rules.specs.Lengths.{reach_before, reach_after}
use Rattle.rules.specs.Segment.{p_at, q_at, has_room, window_of, chosen_of, stores_of, width_at, segment_of}
use Rattle.rules.specs.Counts.{stored_at, changed_at}
use Rattle.segment.specs.declared.outcome.Outcome.{Outcome}

-- b samples before the edge and a after it lie in the plane, on four lines
pub record Room (at step line b a size : ℕ) : Type 0 where
  pub low : b * step ≤ at
  pub high : at + 3 * line + (a - 1) * step < size
  pub some : 1 ≤ a
  pub most_before : b ≤ 8
  pub most_after : a ≤ 8

-- no two of the samples within b before the edge and a after it, on four lines, stand at one place
pub record Spread (at step line b a : ℕ) : Type 0 where
  pub befores : (j k i m : ℕ) → j < 4 → k < b → i < 4 → m < b → p_at (at + j * line) step k ≡ p_at (at + i * line) step m → (j ≡ i) × (k ≡ m)
  pub afters : (j k i m : ℕ) → j < 4 → k < a → i < 4 → m < a → q_at (at + j * line) step k ≡ q_at (at + i * line) step m → (j ≡ i) × (k ≡ m)
  pub across : (j k i m : ℕ) → j < 4 → k < b → i < 4 → m < a → p_at (at + j * line) step k ≢ q_at (at + i * line) step m

-- an edge by offsets, of accepted numbers, that has room in a plane of so many samples
pub record EdgeFits (e : Place) (size : ℕ) : Type 0 where
  pub pair_is : e.pair < 8
  pub q_most : e.q ≤ 2048
  pub side_most : e.side ≤ 839
  pub room : Room e.at e.step e.line (reach_before e.pair) (reach_after e.pair) size
  pub spread : Spread e.at e.step e.line (reach_before e.pair) (reach_after e.pair)

-- what it answers, and what it leaves of a plane l, of which some samples may be kept
pub record Filtered (top : ℕ) (kept : ℕ → Bool) (e : Place) (l : List ℕ) (r : Outcome) (m : List ℕ) : Type 0 where
  pub width : r.width ≡ chosen_of e (window_of e l)
  pub plane : m ≡ puts (outside kept (stores_of top e (window_of e l))) l
  pub stored : r.stored ≡ length (outside kept (stores_of top e (window_of e l)))
  pub changed : r.changed ≡ changes (outside kept (stores_of top e (window_of e l))) l

-- its width alone, and the plane as it was
pub record Chosen (e : Place) (l : List ℕ) (r : Outcome) (m : List ℕ) : Type 0 where
  pub width : r.width ≡ chosen_of e (window_of e l)
  pub plane : m ≡ l

-- an edge of a plane of columns by rows samples, of accepted numbers, that has room there
pub record InPlane (stride columns rows : ℕ) (e : Edge) (size : ℕ) : Type 0 where
  pub pair_is : e.pair < 8
  pub q_most : e.q ≤ 2048
  pub side_most : e.side ≤ 839
  pub row : columns ≤ stride
  pub plane : rows * stride ≤ size
  pub room : has_room columns rows e ≡ true

-- what it answers, and what it leaves of a plane l
pub record EdgeFiltered (top stride : ℕ) (kept : ℕ → Bool) (e : Edge) (l : List ℕ) (r : Outcome) (m : List ℕ) : Type 0 where
  pub width : r.width ≡ width_at stride e l
  pub plane : m ≡ segment_of top stride kept e l
  pub stored : r.stored ≡ stored_at top stride kept e l
  pub changed : r.changed ≡ changed_at top stride kept e l

-- two planes are equal within an edge's reach on its four lines
pub record AlikeInReach (e : Place) (l m : List ℕ) : Type 0 where
  pub before : (j k : ℕ) → j < 4 → k < reach_before e.pair → slice_index l (p_at (e.at + j * e.line) e.step k) ≡ slice_index m (p_at (e.at + j * e.line) e.step k)
  pub after : (j k : ℕ) → j < 4 → k < reach_after e.pair → slice_index l (q_at (e.at + j * e.line) e.step k) ≡ slice_index m (q_at (e.at + j * e.line) e.step k)
