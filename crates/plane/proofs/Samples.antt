-- A run keeps every sample within 0..top, and the plane's length.
-- Assumes nothing.
use mathlib.Core.Path.{◌≡◌, refl, ◌∙◌}
use mathlib.Core.Bool.{Bool}
use mathlib.Core.List.{List, [], ◌∷◌}
use Prim.Native.Nat.{ℕ, ◌+◌, ◌*◌, ◌≤◌, ◌<◌}
use native.Mathlib.Omega.{arith}
use lib.ListN.{length, get_or}
use Rattle.rules.specs.declared.edge.Edge.{Edge}
use Rattle.rules.specs.declared.settings.Plane.{Plane}
use Rattle.rules.specs.declared.refusals.Refusal.TheVariants.{Sample}
use Rattle.std.specs.declared.result.Result.TheVariants.{Ok}
use Rattle.rules.specs.Numbers.{top_of}
use Rattle.rules.specs.Refusals.{over_top, over_row, over_box}
use Rattle.rules.specs.Plane.{Grid, kept_by, edges_of, run_plane, over_plane, plane_check}
use Rattle.checks.proofs.First.{nothing_all, over_nothing}
use Rattle.checks.proofs.Checks.{else_parts, found_nothing}
use Rattle.rules.specs.Segment.{segment_of, run_edges}
use Rattle.segment.proofs.Demand.{edge_most, edge_length}

run_low : (top stride : ℕ) (kept : ℕ → Bool) (es : List Edge) (l : List ℕ) (k : ℕ) → get_or l k 0 ≤ top → get_or (run_edges top stride kept es l) k 0 ≤ top
unfolding run_edges
run_low top stride kept [] l k h = h
run_low top stride kept (e ∷ es) l k h = run_low top stride kept es (segment_of top stride kept e l) k (edge_most top stride kept e l k h)

pub run_length : (top stride : ℕ) (kept : ℕ → Bool) (es : List Edge) (l : List ℕ) → length (run_edges top stride kept es l) ≡ length l
unfolding run_edges
run_length top stride kept [] l = refl
run_length top stride kept (e ∷ es) l = run_length top stride kept es (segment_of top stride kept e l) ∙ edge_length top stride kept e l

-- every sample of an accepted plane is within 0..top afterwards
pub samples_stay : (s : Plane) (steps : List ℕ) (g : Grid) (l : List ℕ) → plane_check s steps g l ≡ Ok tt → (x y : ℕ) → x < 4 * s.cols → y < 4 * s.rows → get_or (run_plane s steps g l) (y * s.stride + x) 0 ≤ top_of s.depth
unfolding run_plane plane_check over_plane over_box over_row
samples_stay s steps g l e x y hx hy =
    let last = (else_parts _ _ (else_parts _ _ (else_parts _ _ (else_parts _ _ (else_parts _ _ (else_parts _ _ (else_parts _ _ (else_parts _ _ e).1).1).1).1).1).1).1).1 in
    let none = found_nothing _ Sample last in
    let row = nothing_all (λ j. over_row (top_of s.depth) l (0 + j * s.stride) (4 * s.cols)) (4 * s.rows) none y hy in
    let same : 0 + y * s.stride + x ≡ y * s.stride + x = omega arith in
    let one = over_nothing (top_of s.depth) l (0 + y * s.stride + x) (nothing_all (λ i. over_top (top_of s.depth) l (0 + y * s.stride + i)) (4 * s.cols) row x hx) in
    run_low (top_of s.depth) s.stride (kept_by s g) (edges_of s steps g) l (y * s.stride + x) (rw same at one)
