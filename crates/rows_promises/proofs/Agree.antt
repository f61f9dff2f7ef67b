-- Edges that reach no further than a box of the plane: run on two planes that agree there, they leave planes that agree there and tell the same counts,
-- and a place outside of the box stays. Assumes nothing.
use mathlib.Core.Path.{◌≡◌, refl, sym, ap, ap₂, ◌∙◌}
use mathlib.Core.Bool.{Bool, not}
use mathlib.Core.List.{List, [], ◌∷◌}
use Prim.Native.Nat.{ℕ, ◌+◌}
use lib.Dec.{T, not_T, T_not}
use lib.ListN.{length, get_or}
use Rattle.laws.specs.Lists.{Each, each_map}
use Rattle.laws.specs.Stores.{Store}
use Rattle.laws.specs.Changes.{changes, changes_same}
use Rattle.laws.specs.Outside.{outside}
use Rattle.laws.specs.Trace.{total}
use Rattle.laws.specs.Footprints.{Agree, reads_all, widen}
use Rattle.laws.specs.Boxes.{Box, in_box, Inside, in_inside}
use Rattle.rules.specs.declared.edge.Edge.{Edge}
use Rattle.rules.specs.declared.edge.Line.{Line}
use Rattle.rules.specs.Segment.{edge_place, window_of, stores_of, open_stores, segment_of, run_edges}
use Rattle.rules.specs.Counts.{stored_at, changed_at, stored_by, changed_by}
use Rattle.segment.specs.Fit.{InPlane}
use Rattle.segment.specs.Boxes.{read_box, write_box}
use Rattle.segment.proofs.Local.{write_read, same_window, open_in, segment_local, Untouched, run_frame_holds}

-- an edge has room, and reaches no further than the box
abbrev pub Within : ℕ → ℕ → ℕ → ℕ → Box → Edge → Type 0
Within stride columns rows size b e = InPlane stride columns rows e size × Inside (read_box e) b

module _ (top stride : ℕ) (kept : ℕ → Bool) (columns rows size : ℕ) (b : Box) where
  abbrev Reaches : Edge → Type 0
  Reaches e = Within stride columns rows size b e

  abbrev SameIn : List ℕ → List ℕ → Type 0
  SameIn l m = Agree (in_box stride b) l m

  module _ (e : Edge) (h : Reaches e) where
    writes_in : (i : ℕ) → T (in_box stride (write_box e) i) → T (in_box stride b i)
    writes_in i w = in_inside stride (read_box e) b h.1 i (in_inside stride (write_box e) (read_box e) (write_read e h.0.pair_is) i w)

    seen : (l m : List ℕ) → SameIn l m → Agree (in_box stride (read_box e)) l m
    seen l m g i t = g i (in_inside stride (read_box e) b h.1 i t)

    keeps : (l : List ℕ) → length (segment_of top stride kept e l) ≡ length l
    keeps l = (segment_local stride e h.0 top kept).keeps l

    step_agree : (l m : List ℕ) → length l ≡ length m → SameIn l m → SameIn (segment_of top stride kept e l) (segment_of top stride kept e m)
    step_agree l m n g =
        reads_all (in_box stride b) (in_box stride (write_box e)) (segment_of top stride kept e)
        (widen (in_box stride (read_box e)) (in_box stride (write_box e)) (in_box stride b) (in_box stride (write_box e)) (segment_of top stride kept e) (segment_local stride e h.0 top kept)
        (in_inside stride (read_box e) b h.1) (λ i w. w) writes_in) l m n g

    -- a number that is told by the stores and the samples where they go
    told_agree : (tell : List Store → List ℕ → ℕ)
        → ((ss : List Store) (p q : List ℕ) → Each (λ st. get_or p st.0 0 ≡ get_or q st.0 0) ss → tell ss p ≡ tell ss q)
        → (l m : List ℕ) → SameIn l m
        → tell (open_stores top stride kept e l) l ≡ tell (open_stores top stride kept e m) m
    told_agree tell same l m g =
        ap (λ (ls : List Line). tell (outside kept (stores_of top (edge_place stride e) ls)) l) (same_window stride e h.0 l m (seen l m g))
        ∙ same (open_stores top stride kept e m) l m
        (each_map (λ st. T (in_box stride (write_box e) st.0)) (λ st. get_or l st.0 0 ≡ get_or m st.0 0) (λ st w. g st.0 (writes_in st.0 w))
        (open_stores top stride kept e m) (open_in stride e h.0 top kept m))

    beyond : (i : ℕ) → T (not (in_box stride b i)) → Untouched stride i e
    beyond i n = not_T (in_box stride (write_box e) i) (λ w. T_not (in_box stride b i) n (writes_in i w))

  -- ---- a run

  pub run_agree : (es : List Edge) → Each Reaches es → (l m : List ℕ) → length l ≡ length m → SameIn l m → SameIn (run_edges top stride kept es l) (run_edges top stride kept es m)
  unfolding run_edges
  run_agree [] h l m n g = g
  run_agree (e ∷ es) h l m n g =
      run_agree es h.1 (segment_of top stride kept e l) (segment_of top stride kept e m) (keeps e h.0 l ∙ n ∙ sym (keeps e h.0 m)) (step_agree e h.0 l m n g)

  total_agree : (tell : List Store → List ℕ → ℕ)
      → ((ss : List Store) (p q : List ℕ) → Each (λ st. get_or p st.0 0 ≡ get_or q st.0 0) ss → tell ss p ≡ tell ss q)
      → (es : List Edge) → Each Reaches es → (l m : List ℕ) → length l ≡ length m → SameIn l m
      → total (segment_of top stride kept) (λ e p. tell (open_stores top stride kept e p) p) es l
      ≡ total (segment_of top stride kept) (λ e p. tell (open_stores top stride kept e p) p) es m
  total_agree tell same [] h l m n g = refl
  total_agree tell same (e ∷ es) h l m n g =
      ap₂ (λ (x y : ℕ). x + y) (told_agree e h.0 tell same l m g)
      (total_agree tell same es h.1 (segment_of top stride kept e l) (segment_of top stride kept e m) (keeps e h.0 l ∙ n ∙ sym (keeps e h.0 m)) (step_agree e h.0 l m n g))

  pub stored_agree : (es : List Edge) → Each Reaches es → (l m : List ℕ) → length l ≡ length m → SameIn l m → stored_by top stride kept es l ≡ stored_by top stride kept es m
  unfolding stored_by stored_at
  stored_agree es h l m n g = total_agree (λ ss p. length ss) (λ ss p q e. refl) es h l m n g

  pub changed_agree : (es : List Edge) → Each Reaches es → (l m : List ℕ) → length l ≡ length m → SameIn l m → changed_by top stride kept es l ≡ changed_by top stride kept es m
  unfolding changed_by changed_at
  changed_agree es h l m n g = total_agree changes changes_same es h l m n g

  pub run_outside : (es : List Edge) → Each Reaches es → (l : List ℕ) (i : ℕ) → T (not (in_box stride b i)) → get_or (run_edges top stride kept es l) i 0 ≡ get_or l i 0
  run_outside es h l i n =
      run_frame_holds top stride kept columns rows size i es
      (each_map Reaches (λ e. InPlane stride columns rows e size × Untouched stride i e) (λ e w. (w.0, beyond e w i n)) es h) l
