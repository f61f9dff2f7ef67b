-- `luma_room` asks luma's grid, built over zeros, for room. Assumes nothing.
use mathlib.Core.Path.{refl, ap, ◌∙◌}
use mathlib.Core.List.{List, []}
use Prim.Native.Nat.{ℕ}
use lib.ListN.{length}
use Rattle.frame.proofs.Grids.{gridded, marked}
use Rattle.frame_by_settings.proofs.Zeroed.{one_tile, zeros_kept, luma_room_is}
use Rattle.frame_by_settings.specs.Deblocked.{zeros}
use borrow.Author.Rules.{rules}
use Rattle.frame_by_settings.proofs.places.luma_room.Goals as goal

pub room-requires : goal.room-requires
room-requires c =
    let k = c.build.auto in
    λ _. marked
    (gridded _ _ [] zeros c.requires.sampled c.requires.built
    (k.vedge ∙ ap (λ (x : List ℕ). length x) c.marks-v.ensures)
    (k.hedge ∙ ap (λ (x : List ℕ). length x) c.marks-h.ensures)
    (k.sqw ∙ ap (λ (x : List ℕ). length x) c.marks-w.ensures)
    (k.sqh ∙ ap (λ (x : List ℕ). length x) c.marks-t.ensures)
    (k.qindex ∙ ap (λ (x : List ℕ). length x) c.indices-q.ensures)
    refl (one_tile _) (zeros_kept _ c.requires.built) (c.build.ensures [] zeros))

pub returns : goal.returns
returns c =
    luma_room_is _ _ _ _ _ (λ p. c.room.ensures p []) (c.build.ensures _ [])
    c.marks-v.ensures c.marks-h.ensures c.marks-w.ensures c.marks-t.ensures c.indices-q.ensures
