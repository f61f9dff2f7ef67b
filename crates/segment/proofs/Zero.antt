-- A threshold of 0 chooses no sample, whatever the window holds, so that nothing is stored.
-- Assumes nothing.
use Rattle.std.proofs.Common.{◌≡◌, ℕ, Bool, true, false, eqb, List, sym, refl, ◌∙◌}
use Rattle.rules.specs.declared.edge.Edge.{Edge}
use Rattle.rules.specs.declared.edge.Line.{Line}
use Rattle.rules.specs.declared.edge.Place.{Place}
use Rattle.rules.specs.Segment.{placed, edge_place, chosen_of}
use Rattle.width.specs.Tests.{off_of}
use Rattle.width.proofs.Order.{off_none}
use Rattle.segment.specs.Fit.{EdgeFiltered}
use Rattle.segment.proofs.Edges.{filtered_none, edge_filtered}

-- an edge's thresholds are its own, also where it is given by offsets
off_placed : (stride : ℕ) (e : Edge) → off_of (edge_place stride e).q (edge_place stride e).side ≡ off_of e.q e.side
unfolding edge_place
off_placed stride e = by_direction (eqb e.dir 0)
  where
    by_direction : (b : Bool) → off_of (placed b stride e).q (placed b stride e).side ≡ off_of e.q e.side
    by_direction true = refl
    by_direction false = refl

zero_none : (e : Place) (ls : List Line) → off_of e.q e.side ≡ true → 0 ≡ chosen_of e ls
unfolding chosen_of
zero_none e ls on = off_none ls _ _ e.q e.side refl on

module _ (stride : ℕ) (e : Edge) {r : Bool} (says : r ≡ off_of e.q e.side) where
  pub edge_none : (top : ℕ) (kept : ℕ → Bool) (l : List ℕ) → r ≡ true → EdgeFiltered top stride kept e l record { width = 0; stored = 0; changed = 0 } l
  edge_none top kept l on =
      edge_filtered top stride kept e refl (filtered_none top kept (edge_place stride e) l (zero_none (edge_place stride e) _ (off_placed stride e ∙ sym says ∙ on)) refl)

  pub edge_lit : {p : Place} → p ≡ edge_place stride e → r ≡ false → off_of p.q p.side ≡ false
  edge_lit is lit = rw is (off_placed stride e ∙ sym says ∙ lit)
