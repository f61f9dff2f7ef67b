-- A frame deblocked over lists that are all zero, and luma asked for room over them. Assumes nothing.
use mathlib.Core.Path.{◌≡◌, refl, sym, ap, ◌∙◌}
use mathlib.Core.Bool.{true, false}
use mathlib.Core.List.{List, []}
use Prim.Native.Nat.{ℕ, zero, suc, ◌*◌, ◌/◌, ◌≤◌}
use native.Mathlib.Omega.{arith}
use lib.ListN.{length, get_or, replicate}
use Rattle.laws.specs.Choose.{pick}
use borrow.Author.Rules.{rules}
use Rattle.rules.specs.declared.settings.Frame.{Frame}
use Rattle.rules.specs.declared.refusals.Refusal.{Refusal}
use Rattle.rules.specs.Refusals.{Answer}
use Rattle.std.specs.declared.result.Result.TheVariants.{Ok, Err}
use Rattle.std.specs.declared.result.Result.{Result}
use Rattle.rules.specs.declared.counts.Counts.{Counts}
use Rattle.rules.specs.declared.refusals.Refusal.TheVariants.{Room}
use Rattle.std.specs.declared.option.Option.{Option}
use Rattle.std.specs.declared.option.Option.TheVariants.{Some, None}
use Rattle.rules.specs.Refusals.{found, only_if, first}
use Rattle.rules.specs.Plane.{keeping, tiled, bad_start, tiles_check, bad_keep, no_room}
use Rattle.rules.specs.Frame.{Planes, Grids, Given, Lent, grids, lent, luma_plane, luma_tu, luma_q, built_grid}
use Rattle.checks.proofs.Checks.{refused_not, found_nothing}
use Rattle.checks.proofs.First.{all_nothing, over_good}
use Rattle.frame_planes.specs.Fit.{Buildable}
use Rattle.frame.specs.Stated.{Stated}
use Rattle.by_settings.specs.declared.places.Place.{Place}
use Rattle.by_settings.specs.Places.{place_in, if_found}
use Rattle.frame_by_settings.specs.Deblocked.{zeros, starts, keeps, deblocked, Deblocked, luma_grid, room_place}

module _ (f : Frame) (n : Given) (p : Planes) {a : Result Counts Refusal} {left : Planes} {g : Grids} {lv lh lw lt lq ls lk cv ch cw ct cq cs ck : List ℕ} where
  pub by_zeros : Stated f n (lent p (grids (keeping lv lh lw lt lq ls lk) (keeping cv ch cw ct cq cs ck))) a (lent left g)
      → lv ≡ zeros → lh ≡ zeros → lw ≡ zeros → lt ≡ zeros → lq ≡ zeros
      → cv ≡ zeros → ch ≡ zeros → cw ≡ zeros → ct ≡ zeros → cq ≡ zeros
      → Deblocked f n (starts ls cs) (keeps lk ck) p a left
  unfolding deblocked
  by_zeros d e0 e1 e2 e3 e4 e5 e6 e7 e8 e9 =
      let w = rw (e0, e1, e2, e3, e4, e5, e6, e7, e8, e9) at d in
      record { answer = w.answer; samples = ap (λ (x : Lent). x.planes) w.lists; stored = w.stored; changed = w.changed }

-- ---- zeros as keep marks: no cell is kept, and no mark is bad

zero_at : (m i : ℕ) → ◌≡◌ {A = ℕ} (get_or (replicate m 0) i 0) 0
zero_at zero i = refl
zero_at (suc m) zero = refl
zero_at (suc m) (suc i) = zero_at m i

pub zeros_good : (n : ℕ) → bad_keep n zeros ≡ None
unfolding bad_keep zeros
zeros_good n = all_nothing _ n (λ i h. sym (over_good 1 (replicate 1048576 0) i (rw (zero_at 1048576 i) (omega arith))))

-- there is one for each of luma's cells
pub zeros_kept : (f : Frame) {leaves skips : List ℕ} {count : ℕ}
    → Buildable f false leaves skips count (length zeros) (length zeros) (length zeros) (length zeros) (length zeros)
    → ((luma_plane f).rows * (luma_plane f).cols ≤ length zeros) × (bad_keep ((luma_plane f).rows * (luma_plane f).cols) zeros ≡ None)
unfolding luma_q
zeros_kept f b = (b.q_fit.long, zeros_good _)

-- ---- where an edge lacks room

-- a list without a tile start is good
pub one_tile : (cols : ℕ) → tiles_check cols [] ≡ Ok tt
unfolding tiles_check bad_start first found
one_tile cols = refl

found_first : (m : Option ℕ) (a b : Place) {x : Refusal} → found m Room ≡ Err x → a ≡ if_found m a b
unfolding found if_found
found_first (Some j) a b e = refl
found_first None a b e = refused_not (sym e)

module _ (f : Frame) (leaves skips sbq ts : List ℕ) where
  -- luma's grid by lists that were all zero when it was built
  pub luma_room_is : {v h w t q v' h' w' t' q' : List ℕ} {r : Answer}
      → ((p : List ℕ) → r ≡ only_if true (found (no_room (luma_plane f) (tiled v' h' w' t' p ts)) Room))
      → tiled v' h' w' t' q' ts ≡ pick true (built_grid (luma_tu f) (luma_q f) leaves skips sbq (tiled v h w t q ts)) (tiled v h w t q ts)
      → v ≡ zeros
      → h ≡ zeros
      → w ≡ zeros
      → t ≡ zeros
      → q ≡ zeros
      → r ≡ found (no_room (luma_plane f) (luma_grid f leaves skips sbq ts)) Room
  unfolding only_if pick luma_grid
  luma_room_is {q' = q'} e is e0 e1 e2 e3 e4 = rw (rw (e0, e1, e2, e3, e4) at is) at (e q')

  module _ (k : ℕ) {a : Answer} {r : Place} (is : a ≡ found (no_room (luma_plane f) (luma_grid f leaves skips sbq ts)) Room) where
    pub in_luma_holds : {x : Refusal} → a ≡ Err x → r ≡ place_in 0 k (f.lumastride / 4) → r ≡ room_place f leaves skips sbq ts k
    unfolding room_place
    in_luma_holds e g = g ∙ found_first (no_room (luma_plane f) (luma_grid f leaves skips sbq ts)) _ _ (sym is ∙ e)

    pub in_chroma_holds : a ≡ Ok tt → r ≡ place_in 3 k (f.chromastride / 4) → r ≡ room_place f leaves skips sbq ts k
    unfolding room_place if_found
    in_chroma_holds e g = rw (found_nothing _ Room (sym is ∙ e)) g

pub ruleset rooms = (rules, in_luma_holds, in_chroma_holds)
