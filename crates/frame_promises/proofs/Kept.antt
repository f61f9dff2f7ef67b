-- Ticket 7 of whatever `deblock_frame` may answer and leave: the keep marks are as lent, and so is every sample in a kept cell.
-- Assumes nothing.
use mathlib.Core.Path.{◌≡◌, refl, sym, ap, ◌∙◌}
use mathlib.Core.Bool.{Bool, true, false}
use mathlib.Core.List.{List}
use Prim.Native.Nat.{ℕ}
use lib.ListN.{get_or}
use Rattle.laws.specs.Choose.{pick}
use Rattle.rules.specs.declared.settings.Frame.{Frame}
use Rattle.rules.specs.Refusals.{Answer}
use Rattle.std.specs.declared.result.Result.TheVariants.{Ok, Err}
use Rattle.std.specs.declared.result.Result.{Result}
use Rattle.rules.specs.declared.counts.Counts.{Counts}
use Rattle.rules.specs.declared.refusals.Refusal.{Refusal}
use Rattle.rules.specs.Plane.{kept_by}
use Rattle.rules.specs.Frame.{Planes, Grids, Given, Lent, luma_plane, chroma_plane, chroma_tu, chroma_q, chroma_on, built_grid, built_grids, frame_built, or_done, frame_of}
use Rattle.promises.proofs.Edges.{plane_held}
use Rattle.frame.specs.Stated.{Stated}
use Rattle.frame_promises.specs.NoneKept.{MarksAsLent}
use Rattle.frame_promises.proofs.Answers.{early_of}
use Rattle.frame_promises.proofs.Theorems.{chroma_kept, refused_kept}
use Rattle.frame_promises.proofs.Planes.{luma_after, u_after, v_after}

-- ---- the marks

-- building leaves them alone
pub luma_marks : (f : Frame) (n : Given) (g : Grids) → (built_grids f n g).luma.keep ≡ g.luma.keep
unfolding built_grids built_grid
luma_marks f n g = refl

pub chroma_marks : (f : Frame) (n : Given) (g : Grids) → (built_grids f n g).chroma.keep ≡ g.chroma.keep
unfolding built_grids built_grid pick
chroma_marks f n g = go (chroma_on f)
  where
    go : (t : Bool) → (pick t (built_grid (chroma_tu f) (chroma_q f) n.chroma_leaves n.skips n.sbq g.chroma) g.chroma).keep ≡ g.chroma.keep
    go true = refl
    go false = refl

module _ (f : Frame) (n : Given) (l : Lent) where
  abbrev after : Lent
  after = (frame_of f n l).lists

  marks_by : (a : Answer) → MarksAsLent l (or_done a l (frame_built f n.steps (built_grids f n l.grids) l.planes)).lists
  unfolding or_done frame_built
  marks_by (Err r) = (refl, refl)
  marks_by (Ok tt) = (luma_marks f n l.grids, chroma_marks f n l.grids)

  marks_after : MarksAsLent l after
  unfolding frame_of
  marks_after = marks_by (early_of f n l)

  -- ---- kept samples

  luma_by : (a : Answer) → (frame_of f n l).answer ≡ a → (i : ℕ) → kept_by (luma_plane f) l.grids.luma i ≡ true → get_or after.planes.y i 0 ≡ get_or l.planes.y i 0
  luma_by (Err r) e i h = ap (λ (p : Planes). get_or p.y i 0) (refused_kept f n l e)
  luma_by (Ok tt) e i h = rw (luma_after f n l e) (plane_held _ _ _ _ i (rw (luma_marks f n l.grids) h))

  module _ (i : ℕ) (h : kept_by (chroma_plane f) l.grids.chroma i ≡ true) where
    held : kept_by (chroma_plane f) (built_grids f n l.grids).chroma i ≡ true
    held = rw (chroma_marks f n l.grids) h

    chroma_by : (a : Answer) (t : Bool) → (frame_of f n l).answer ≡ a → chroma_on f ≡ t → (get_or after.planes.u i 0 ≡ get_or l.planes.u i 0) × (get_or after.planes.v i 0 ≡ get_or l.planes.v i 0)
    chroma_by (Err r) t e on = let k = refused_kept f n l e in (ap (λ (p : Planes). get_or p.u i 0) k, ap (λ (p : Planes). get_or p.v i 0) k)
    chroma_by (Ok tt) true e on = (rw (u_after f n l e on) (plane_held _ _ _ _ i held), rw (v_after f n l e on) (plane_held _ _ _ _ i held))
    chroma_by (Ok tt) false e off = let k = chroma_kept f n l off in (ap (λ (x : List ℕ). get_or x i 0) k.0, ap (λ (x : List ℕ). get_or x i 0) k.1)

  -- ---- whatever the entry may answer and leave

  module _ {a : Result Counts Refusal} {m : Lent} (done : Stated f n l a m) where
    -- "never writes them"
    pub marks_as_lent : MarksAsLent l m
    marks_as_lent = rw done.lists marks_after

    -- "samples in a kept cell are .. never stored"
    pub luma_held : (i : ℕ) → kept_by (luma_plane f) l.grids.luma i ≡ true → get_or m.planes.y i 0 ≡ get_or l.planes.y i 0
    luma_held i h = rw done.lists (luma_by (frame_of f n l).answer refl i h)

    pub chroma_held : (i : ℕ) → kept_by (chroma_plane f) l.grids.chroma i ≡ true → (get_or m.planes.u i 0 ≡ get_or l.planes.u i 0) × (get_or m.planes.v i 0 ≡ get_or l.planes.v i 0)
    chroma_held i h = rw done.lists (chroma_by i h (frame_of f n l).answer (chroma_on f) refl refl)
