-- What a picture's size decides, by what was found at the leaves' place. Assumes nothing.
use mathlib.Core.Path.{◌≡◌, refl, ap, ap₂, ◌∙◌}
use mathlib.Core.List.{List}
use Prim.Native.Nat.{ℕ}
use borrow.Author.Rules.{rules}
use lib.ListN.{get_or, set}
use Rattle.laws.specs.Choose.{pick_yes, pick_no, is_eq, not_eq}
use Rattle.rules.specs.Frame.{superblocks}
use Rattle.pictures.specs.Defaults.{last_repeated, tiled, tiled_end, complete_shorts, complete_places}

module _ (width height : ℕ) (places : List ℕ) where
  pub shorts_tiled : (l : List ℕ) (across down : ℕ) {q r : List ℕ} → get_or places 4 0 ≡ 4096 → across ≡ superblocks width → down ≡ superblocks height
      → q ≡ last_repeated (get_or places 2 0) l → r ≡ tiled across down q → r ≡ complete_shorts width height places l
  unfolding complete_shorts
  shorts_tiled l across down {q} h a d e g =
      pick_yes _ _ _ _ (is_eq (get_or places 4 0) 4096 h)
      (g ∙ ap₂ (λ (x y : ℕ). tiled x y q) a d ∙ ap (tiled (superblocks width) (superblocks height)) e)

  pub shorts_kept : (l : List ℕ) {q : List ℕ} → (get_or places 4 0 ≡ 4096 → ⊥) → q ≡ last_repeated (get_or places 2 0) l → q ≡ complete_shorts width height places l
  unfolding complete_shorts
  shorts_kept l h e = pick_no _ _ _ _ (not_eq (get_or places 4 0) 4096 h) e

  pub places_tiled : (across down n : ℕ) → get_or places 4 0 ≡ 4096 → across ≡ superblocks width → down ≡ superblocks height → n ≡ tiled_end across down
      → set places 4 n ≡ complete_places width height places
  unfolding complete_places
  places_tiled across down n h a d e =
      pick_yes _ _ _ _ (is_eq (get_or places 4 0) 4096 h) (ap (λ (x : ℕ). set places 4 x) (e ∙ ap₂ tiled_end a d))

  pub places_kept : (get_or places 4 0 ≡ 4096 → ⊥) → places ≡ complete_places width height places
  unfolding complete_places
  places_kept h = pick_no _ _ _ _ (not_eq (get_or places 4 0) 4096 h) refl

pub ruleset completing = (rules, shorts_tiled, shorts_kept, places_tiled, places_kept)
