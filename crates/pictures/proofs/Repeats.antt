-- A last entry repeated over the places after it. Assumes nothing.
use mathlib.Core.Path.{◌≡◌, refl, ap, ◌∙◌}
use mathlib.Core.List.{List}
use mathlib.Core.Logic.{◌⊎◌, inl, inr}
use Prim.Native.Nat.{ℕ, ◌-◌, ◌≤◌, ◌<◌}
use native.Mathlib.Omega.{arith}
use borrow.Rule.Slice.PartMut.{mid_of, put_mid}
use lib.ListN.{length, get_or, replicate, length-take, length-drop, length-replicate, drop}
use Rattle.laws.specs.Choose.{pick_yes, pick_no, is_eq, not_eq}
use Rattle.pictures.specs.Storing.{stored}
use Rattle.pictures.specs.Defaults.{last_repeated}
use Rattle.pictures.proofs.Storing.{stored_none}
use Rattle.pictures.proofs.Parts.{part_stored}

-- without an entry, or with one for every superblock, nothing is left to repeat
pub none_repeated : (n : ℕ) (l : List ℕ) → (n ≡ 0) ⊎ ((n ≡ 0 → ⊥) × (4096 ≤ n)) → l ≡ last_repeated n l
unfolding last_repeated
none_repeated n l (inl e) = pick_yes _ _ _ _ (is_eq n 0 e) refl
none_repeated n l (inr h) =
    pick_no _ _ _ _ (not_eq n 0 h.0)
    (stored_none l n ∙ ap (λ (m : ℕ). stored l n (replicate m (get_or l (n - 1) 0))) none)
  where
    none : 0 ≡ 4096 - n
    none = omega (arith, h.1)

pub all_repeated : (n : ℕ) (l : List ℕ) {ys : List ℕ} → 4096 ≤ length l → (n ≡ 0 → ⊥) → n < 4096
    → ys ≡ replicate (length (mid_of n (4096 - n) l)) (get_or l (n - 1) 0) → put_mid n (4096 - n) l ys ≡ last_repeated n l
unfolding last_repeated
all_repeated n l h z b e =
    pick_no _ _ _ _ (not_eq n 0 z)
    (ap (λ (x : List ℕ). put_mid n (4096 - n) l x) (e ∙ ap (λ (m : ℕ). replicate m (get_or l (n - 1) 0)) long)
    ∙ part_stored n (4096 - n) l _ (omega arith) (length-replicate (4096 - n) (get_or l (n - 1) 0)))
  where
    long : length (mid_of n (4096 - n) l) ≡ 4096 - n
    long = omega (arith, h, b, length-take (4096 - n) (drop n l), length-drop n l)
