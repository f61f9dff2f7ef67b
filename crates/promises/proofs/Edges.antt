-- Demand 3 at every edge of an accepted plane's run, and that a sample outside of the widths or in a kept cell stays: at each edge, and over the whole run.
-- Assumes nothing.
use mathlib.Core.Path.{◌≡◌, refl, sym, ap, ◌∙◌}
use mathlib.Core.Bool.{Bool, true}
use mathlib.Core.List.{List, [], ◌∷◌, ◌++◌}
use Prim.Native.Nat.{ℕ, ◌*◌}
use lib.ListN.{length, get_or}
use Rattle.laws.specs.Lists.{Each, each_right, each_both}
use Rattle.laws.specs.Trace.{run_append}
use Rattle.rules.specs.declared.edge.Edge.{Edge}
use Rattle.rules.specs.declared.settings.Plane.{Plane}
use Rattle.rules.specs.Refusals.{Answer}
use Rattle.std.specs.declared.result.Result.TheVariants.{Ok, Err}
use Rattle.std.specs.declared.result.Result.{Result}
use Rattle.rules.specs.declared.counts.Counts.{Counts}
use Rattle.rules.specs.declared.refusals.Refusal.{Refusal}
use Rattle.rules.specs.Refusals.{answered}
use Rattle.rules.specs.Numbers.{top_of}
use Rattle.rules.specs.Refusals.{settle}
use Rattle.rules.specs.Segment.{segment_of, run_edges}
use Rattle.rules.specs.Plane.{Grid, kept_by, edges_of, run_plane, plane_check, plane_after}
use Rattle.segment.specs.Fit.{InPlane}
use Rattle.segment.proofs.Demand.{demand_3, edge_kept, edge_holds}
use Rattle.segment.proofs.Local.{Untouched, run_frame_holds}
use Rattle.plane.specs.Checked.{Stated}
use Rattle.plane.proofs.Samples.{run_length}
use Rattle.plane.proofs.Everywhere.{every_edge}
use Rattle.plane.proofs.Marked.{plane_holds}
use Rattle.promises.specs.Edges.{Promised, EachEdge, SparedBy, left_by, EachPromised, Spared}

-- ---- any list of edges

module _ (top stride : ℕ) (kept : ℕ → Bool) where
  -- one more edge
  left_more : (before : List Edge) (e : Edge) (l : List ℕ) → run_edges top stride kept (before ++ (e ∷ [])) l ≡ segment_of top stride kept e (run_edges top stride kept before l)
  unfolding run_edges
  left_more before e l = run_append (segment_of top stride kept) before (e ∷ []) l

  -- an edge that has room, on whatever plane it finds
  edge_promised : (columns rows : ℕ) (e : Edge) (found : List ℕ) → InPlane stride columns rows e (length found) → Promised top stride kept e found (segment_of top stride kept e found)
  edge_promised columns rows e found h = record {
    near = demand_3 top stride kept e found h;
    beside = edge_kept top stride kept e found;
    held = edge_holds top stride kept e found;
  }

  pub edges_promised : (columns rows : ℕ) (es : List Edge) (l : List ℕ) → Each (λ e. InPlane stride columns rows e (length l)) es → EachEdge top stride kept es l
  edges_promised columns rows es l h = record {
    each_edge = λ before after e q.
        let here : InPlane stride columns rows e (length l) = (each_right (λ e. InPlane stride columns rows e (length l)) before (e ∷ after) (rw q at h)).0 in
        rw (left_more before e l) (edge_promised columns rows e (run_edges top stride kept before l) (rw (run_length top stride kept before l) here));
  }

  -- an edge less at the front
  spared_rest : (e : Edge) (es : List Edge) (l : List ℕ) (i : ℕ) → SparedBy top stride kept (e ∷ es) l i → SparedBy top stride kept es (segment_of top stride kept e l) i
  unfolding run_edges
  spared_rest e es l i h = record { outside = λ before after f q. h.outside (e ∷ before) after f (ap (λ (xs : List Edge). e ∷ xs) q) }

  pub spared_kept : (es : List Edge) (l : List ℕ) (i : ℕ) → SparedBy top stride kept es l i → get_or (run_edges top stride kept es l) i 0 ≡ get_or l i 0
  unfolding run_edges
  spared_kept [] l i h = refl
  spared_kept (e ∷ es) l i h =
      spared_kept es (segment_of top stride kept e l) i (spared_rest e es l i h)
      ∙ edge_kept top stride kept e l i (h.outside [] es e refl)

-- ---- a plane

module _ (s : Plane) (steps : List ℕ) (g : Grid) (l : List ℕ) where
  -- every edge of an accepted plane
  pub plane_demand_3 : plane_check s steps g l ≡ Ok tt → EachPromised s g (edges_of s steps g) l
  plane_demand_3 ok = edges_promised (top_of s.depth) s.stride (kept_by s g) (4 * s.cols) (4 * s.rows) (edges_of s steps g) l (every_edge s steps g l ok)

  -- the plane afterwards, accepted or refused
  pub plane_kept : (i : ℕ) → Spared s g (edges_of s steps g) l i → get_or (plane_after s steps g l) i 0 ≡ get_or l i 0
  unfolding plane_after run_plane settle
  plane_kept i h = go (plane_check s steps g l)
    where
      go : (a : Answer) → get_or (settle a l (run_plane s steps g l)) i 0 ≡ get_or l i 0
      go (Ok tt) = spared_kept (top_of s.depth) s.stride (kept_by s g) (edges_of s steps g) l i h
      go (Err r) = refl

  -- ticket 7: "samples in a kept cell are .. never stored"
  pub plane_held : (i : ℕ) → kept_by s g i ≡ true → get_or (plane_after s steps g l) i 0 ≡ get_or l i 0
  unfolding plane_after settle
  plane_held i h = go (plane_check s steps g l)
    where
      go : (a : Answer) → get_or (settle a l (run_plane s steps g l)) i 0 ≡ get_or l i 0
      go (Ok tt) = plane_holds s steps g l i h
      go (Err r) = refl

  -- by the boxes alone: N samples before and P after each marked edge, whatever its samples
  pub plane_frame : plane_check s steps g l ≡ Ok tt → (i : ℕ) → Each (Untouched s.stride i) (edges_of s steps g) → get_or (run_plane s steps g l) i 0 ≡ get_or l i 0
  unfolding run_plane
  plane_frame ok i h =
      run_frame_holds (top_of s.depth) s.stride (kept_by s g) (4 * s.cols) (4 * s.rows) (length l) i (edges_of s steps g)
      (each_both (λ e. InPlane s.stride (4 * s.cols) (4 * s.rows) e (length l)) (Untouched s.stride i) (λ e. InPlane s.stride (4 * s.cols) (4 * s.rows) e (length l) × Untouched s.stride i e)
      (λ e a b. (a, b)) (edges_of s steps g) (every_edge s steps g l ok) h) l

  -- ---- the same of whatever `deblock_plane`, or the plain engine by the same statement, may answer and leave

  module _ {a : Result Counts Refusal} {m : List ℕ} (done : Stated s steps g l a m) where
    pub stated_demand_3 : answered a ≡ Ok tt → EachPromised s g (edges_of s steps g) l × (m ≡ left_by s g (edges_of s steps g) l)
    unfolding plane_after run_plane settle
    stated_demand_3 e =
        let ok : plane_check s steps g l ≡ (Ok tt) = sym done.answer ∙ e in
        (plane_demand_3 ok, done.plane ∙ ap (λ (x : Answer). settle x l (run_plane s steps g l)) ok)

    pub stated_kept : (i : ℕ) → Spared s g (edges_of s steps g) l i → get_or m i 0 ≡ get_or l i 0
    stated_kept i h = ap (λ (x : List ℕ). get_or x i 0) done.plane ∙ plane_kept i h

    pub stated_held : (i : ℕ) → kept_by s g i ≡ true → get_or m i 0 ≡ get_or l i 0
    stated_held i h = ap (λ (x : List ℕ). get_or x i 0) done.plane ∙ plane_held i h
