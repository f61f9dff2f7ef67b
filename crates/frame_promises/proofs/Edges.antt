-- An accepted frame, plane by plane: at every edge the stored samples, all outside kept cells, lie near the ramp and all others stay, and a sample within no edge's widths is as lent.
-- Assumes nothing.
use mathlib.Core.Path.{◌≡◌}
use mathlib.Core.Bool.{true}
use Prim.Native.Nat.{ℕ}
use lib.ListN.{get_or}
use Rattle.rules.specs.declared.settings.Frame.{Frame}
use Rattle.std.specs.declared.result.Result.TheVariants.{Ok}
use Rattle.rules.specs.Plane.{edges_of}
use Rattle.rules.specs.Frame.{Grids, Given, Lent, luma_plane, chroma_plane, chroma_on, built_grids, frame_of}
use Rattle.promises.specs.Edges.{EachPromised, Spared}
use Rattle.promises.proofs.Edges.{plane_demand_3, plane_kept}
use Rattle.frame_promises.proofs.Planes.{luma_accepted, u_accepted, v_accepted, luma_after, u_after, v_after}

module _ (f : Frame) (n : Given) (l : Lent) (ok : (frame_of f n l).answer ≡ Ok tt) where
  abbrev built : Grids
  built = built_grids f n l.grids

  pub luma_demand_3 : EachPromised (luma_plane f) built.luma (edges_of (luma_plane f) n.steps built.luma) l.planes.y
  luma_demand_3 = plane_demand_3 _ _ _ _ (luma_accepted f n l ok)

  pub luma_kept : (i : ℕ) → Spared (luma_plane f) built.luma (edges_of (luma_plane f) n.steps built.luma) l.planes.y i → get_or (frame_of f n l).lists.planes.y i 0 ≡ get_or l.planes.y i 0
  luma_kept i h = rw (luma_after f n l ok) (plane_kept _ _ _ _ i h)

  -- U and V, where chroma is filtered
  module _ (on : chroma_on f ≡ true) where
    pub u_demand_3 : EachPromised (chroma_plane f) built.chroma (edges_of (chroma_plane f) n.steps built.chroma) l.planes.u
    u_demand_3 = plane_demand_3 _ _ _ _ (u_accepted f n l ok on)

    pub u_kept : (i : ℕ) → Spared (chroma_plane f) built.chroma (edges_of (chroma_plane f) n.steps built.chroma) l.planes.u i → get_or (frame_of f n l).lists.planes.u i 0 ≡ get_or l.planes.u i 0
    u_kept i h = rw (u_after f n l ok on) (plane_kept _ _ _ _ i h)

    pub v_demand_3 : EachPromised (chroma_plane f) built.chroma (edges_of (chroma_plane f) n.steps built.chroma) l.planes.v
    v_demand_3 = plane_demand_3 _ _ _ _ (v_accepted f n l ok on)

    pub v_kept : (i : ℕ) → Spared (chroma_plane f) built.chroma (edges_of (chroma_plane f) n.steps built.chroma) l.planes.v i → get_or (frame_of f n l).lists.planes.v i 0 ≡ get_or l.planes.v i 0
    v_kept i h = rw (v_after f n l ok on) (plane_kept _ _ _ _ i h)
