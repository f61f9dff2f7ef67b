-- Document 01, "C side": the byte lists that C lends, and the numbers that it is answered.
-- Assumes nothing.
use Rattle.std.specs.Prelude.{Bool, true, false, List, [], ◌∷◌, ℕ, ◌+◌, ◌*◌, eqb, get_or, length, ℤ, pos, neg_ℤ}
use Rattle.laws.specs.Loops.{each}
use Rattle.low_first.specs.Bytes.{number_in, low_first}
use Rattle.rules.specs.declared.settings.Lone.{Lone}
use Rattle.rules.specs.declared.refusals.Refusal.{Refusal}
use Rattle.rules.specs.declared.refusals.Refusal.TheVariants.{Depth, Length, Steps}
use Rattle.rules.specs.Refusals.{Answer}
use Rattle.std.specs.declared.result.Result.TheVariants.{Ok, Err}
use Rattle.rules.specs.Numbers.{depth_ok}
use Rattle.rules.specs.Refusals.{number_of, or_else, unless, settle}
use Rattle.rules.specs.Thresholds.{q_threshold, side_threshold, thresholds_check}
use Rattle.rules.specs.Segment.{width_at}
use Rattle.rules.specs.Lone.{edge_of, lone_check, lone_plane}

-- "Both answer minus the refusal number."
unfoldable pub c_answer : Answer → ℕ → ℤ
c_answer (Ok tt) n = pos n
c_answer (Err r) n = neg_ℤ (pos (number_of r))

-- ---- thresholds: "four bytes a step, low first; 4 if not 1,408 bytes"

-- the table of n whole steps
unfoldable pub steps_in : ℕ → List ℕ → List ℕ
steps_in n bytes = each n (λ k. number_in 4 bytes (4 * k) ∷ [])

-- a byte list of another length is a table of the wrong length, refused at place 0 after the depth
unfoldable pub c_thresholds_check : ℕ → List ℕ → ℤ → ℤ → Answer
c_thresholds_check depth bytes deltaq deltaside =
    or_else (unless (depth_ok depth) Depth)
    (or_else (unless (eqb (length bytes) 1408) (Steps 0)) (thresholds_check depth (steps_in 352 bytes) deltaq deltaside))

-- "answered as q·65536 + side"
unfoldable pub c_thresholds : ℕ → ℕ → ℤ → ℤ → ℕ → List ℕ → ℤ
c_thresholds curr prev deltaq deltaside depth bytes =
    c_answer (c_thresholds_check depth bytes deltaq deltaside)
    (q_threshold depth (steps_in 352 bytes) curr prev deltaq * 65536 + side_threshold depth curr prev deltaside)

-- ---- one segment: "a 144-byte window (four lines, each p8..p0 then q0..q8, two bytes a sample, low first; 3 if not 144)"

-- the window as a plane of four rows of eighteen samples, the edge between columns 8 and 9
unfoldable pub samples_in : List ℕ → List ℕ
samples_in bytes = each 72 (λ k. number_in 2 bytes (2 * k) ∷ [])

-- the bytes of its samples
unfoldable pub bytes_of : List ℕ → List ℕ
bytes_of l = each 72 (λ k. low_first 2 (get_or l k 0))

abbrev pub window_edge : ℕ → ℕ → ℕ → ℕ → Lone
window_edge depth pair q side = record { columns = 18; rows = 4; stride = 18; depth = depth; q = q; side = side; pair = pair; dir = 0; x = 9; y = 0 }

-- 1 comes before 3, and both before what the segment itself is refused for
unfoldable pub c_segment_check : ℕ → ℕ → ℕ → ℕ → List ℕ → Answer
c_segment_check depth pair q side bytes =
    or_else (unless (depth_ok depth) Depth)
    (or_else (unless (eqb (length bytes) 144) Length) (lone_check (window_edge depth pair q side) (samples_in bytes)))

unfoldable pub c_segment : ℕ → ℕ → ℕ → ℕ → List ℕ → ℤ
c_segment depth pair q side bytes =
    c_answer (c_segment_check depth pair q side bytes) (width_at 18 (edge_of (window_edge depth pair q side)) (samples_in bytes))

-- the window's bytes afterwards
unfoldable pub c_window : ℕ → ℕ → ℕ → ℕ → List ℕ → List ℕ
c_window depth pair q side bytes =
    settle (c_segment_check depth pair q side bytes) bytes (bytes_of (lone_plane (window_edge depth pair q side) (samples_in bytes)))
