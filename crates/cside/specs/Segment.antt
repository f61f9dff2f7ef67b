-- One segment as C asks for it: document 01's answer and window, and ticket 4's counts.
-- Assumes nothing.
use Rattle.std.specs.Prelude.{◌≡◌, List, ℕ, ℤ}
use Rattle.rules.specs.Refusals.{settle}
use Rattle.rules.specs.Lone.{lone_stored, lone_changed}
use Rattle.rules.specs.CSide.{samples_in, window_edge, c_segment_check, c_segment, c_window}
use Rattle.answers.specs.Told.{tallied}

-- stored and changed samples; "A refusal reports zero for both."
unfoldable pub c_stored : ℕ → ℕ → ℕ → ℕ → List ℕ → ℕ
c_stored depth pair q side bytes = settle (c_segment_check depth pair q side bytes) 0 (lone_stored (window_edge depth pair q side) (samples_in bytes))

unfoldable pub c_changed : ℕ → ℕ → ℕ → ℕ → List ℕ → ℕ
c_changed depth pair q side bytes = settle (c_segment_check depth pair q side bytes) 0 (lone_changed (window_edge depth pair q side) (samples_in bytes))

-- the answer n, the window's bytes and the list of the counts afterwards
pub record SegmentTold (depth pair q side : ℕ) (bytes counts : List ℕ) (n : ℤ) (window tally : List ℕ) : Type 0 where
  pub answer : n ≡ c_segment depth pair q side bytes
  pub window_is : window ≡ c_window depth pair q side bytes
  pub counts_are : tally ≡ tallied (c_stored depth pair q side bytes) (c_changed depth pair q side bytes) counts
