-- Nested loops in another order: one loop of two parts as two loops, loops that change places, a part that waits a round, and the
-- groups of columns of a table. Assumes nothing.
use Rattle.std.specs.Prelude.{◌≡◌}
use Rattle.std.proofs.Math.Path.{ap}
use Rattle.std.proofs.Common.{sym, ◌∙◌, le_refl, mul-le-mul_right, add-mul}
use mathlib.Core.List.{List, ◌++◌, append_assoc}
use Prim.Native.Nat.{ℕ, zero, suc, ◌+◌, ◌-◌, ◌*◌, ◌≤◌, ◌<◌, min}
use Rattle.std.proofs.Math.Nat.{le_step}
use native.Mathlib.Omega.{arith}
use Rattle.laws.specs.Loops.{each, each_empty, each_same, each_cut}
use Rattle.laws.specs.Lists.{Pairs, pairs_loop_right}
use Rattle.laws.specs.Trace.{Same, same, and_then, same_eq, suffix, back, middle}
use Rattle.laws.specs.Schedules.{prev, each_prev, by_rows, by_columns, width_of, group_f, group_g}
use Rattle.laws.proofs.Lists.{pairs_loop_left}

-- ---- two parts

-- one loop of two parts is two loops, where no earlier second part meets a later first part
pub apart : {E : Type 0} {Ind : E → E → Type 0} (f g : ℕ → List E) (n : ℕ) → ((i j : ℕ) → i < j → j < n → Pairs Ind (g i) (f j))
    → Same Ind (each n (λ k. f k ++ g k)) (each n f ++ each n g)
unfolding each
apart f g zero h = same
apart {Ind = Ind} f g (suc n) h =
    and_then (suffix (f n ++ g n) (apart f g n (λ i j l m. h i j l (le_step m))))
    (middle (each n f) (each n g) (f n) (g n) (pairs_loop_left Ind n g (f n) (λ k l. h k n l (le_refl (suc n)))))

module _ {E : Type 0} {Ind : E → E → Type 0} (turn : (a b : E) → Ind a b → Ind b a) where
  -- two nested loops change places, where what crosses is independent
  pub transpose : (B : ℕ → ℕ → List E) (n m : ℕ)
      → ((a b i j : ℕ) → a < b → b < n → i < j → j < m → Pairs Ind (B b i) (B a j))
      → Same Ind (each n (λ k. each m (λ r. B k r))) (each m (λ r. each n (λ k. B k r)))
  unfolding each
  transpose B zero m h = same_eq (sym (each_empty m))
  transpose B (suc n) m h =
      and_then (suffix (each m (λ r. B n r)) (transpose B n m (λ a b i j l k. h a b i j l (le_step k))))
      (back turn (apart (λ r. each n (λ k. B k r)) (λ r. B n r) m
      (λ i j l k. pairs_loop_right Ind (B n i) n (λ c. B c j) (λ c q. h c n i j q (le_refl (suc n)) l k))))

  -- each second part waits one round: f 0, f 1, g 0, f 2, g 1, .., g (n - 1)
  pub lagged : (f g : ℕ → List E) (n : ℕ) → ((i j : ℕ) → i + 2 ≤ j → j < n → Pairs Ind (g i) (f j))
      → Same Ind (each n (λ k. f k ++ prev g k) ++ prev g n) (each n f ++ each n g)
  lagged f g n h =
      and_then (suffix (prev g n) (apart f (prev g) n waits))
      (same_eq (append_assoc (each n f) (each n (prev g)) (prev g n) ∙ ap (λ (l : List E). each n f ++ l) (each_prev g n)))
    where
      waits : (i j : ℕ) → i < j → j < n → Pairs Ind (prev g i) (f j)
      waits zero j l k = tt
      waits (suc i) j l k = h i j (omega arith) k

-- in groups of w columns, the last of which may be narrower
module _ {E : Type 0} (f g : ℕ → ℕ → List E) (rows cols w : ℕ) where
  module _ {Ind : E → E → Type 0} (turn : (a b : E) → Ind a b → Ind b a)
      (rowsApart : (r c s d : ℕ) → r < s → Pairs Ind (f r c) (f s d))
      (far : (r c s d : ℕ) → d + 3 ≤ c → Pairs Ind (g s d) (f r c)) where
    covers : (n : ℕ) → cols ≤ n * w → min cols (n * w) ≡ cols
    covers n h = omega arith

    -- rows outer in each group is rows outer in the table
    pub groups_rows : (n : ℕ) → cols ≤ n * w → Same Ind (each n (group_f f g rows cols w)) (by_rows f g rows cols)
    groups_rows n h =
        and_then (transpose turn (λ k r. each (width_of f g rows cols w k) (λ i. f r (k * w + i))) n rows
        (λ a b i j l k p q. pairs_loop_left Ind (width_of f g rows cols w b) (λ x. f i (b * w + x)) (each (width_of f g rows cols w a) (λ y. f j (a * w + y)))
        (λ x lx. pairs_loop_right Ind (f i (b * w + x)) (width_of f g rows cols w a) (λ y. f j (a * w + y)) (λ y ly. rowsApart i (b * w + x) j (a * w + y) p))))
        (same_eq (each_same (λ r. each n (λ k. each (width_of f g rows cols w k) (λ i. f r (k * w + i)))) (λ r. each cols (λ c. f r c)) rows
        (λ r q. each_cut (λ c. f r c) w cols n ∙ ap (λ (j : ℕ). each j (λ c. f r c)) (covers n h))))

    pub groups_columns : (n : ℕ) → cols ≤ n * w → each n (group_g f g rows cols w) ≡ by_columns f g rows cols
    groups_columns n h = each_cut (λ c. each rows (λ r. g r c)) w cols n ∙ ap (λ (j : ℕ). each j (λ c. each rows (λ r. g r c))) (covers n h)

    -- what a group leaves is apart from the f of the group two on: here the width must be 2 or more
    pub groups_apart : 2 ≤ w → (i j : ℕ) → i + 2 ≤ j → Pairs Ind (group_g f g rows cols w i) (group_f f g rows cols w j)
    groups_apart wide i j l =
        pairs_loop_left Ind (width_of f g rows cols w i) (λ x. each rows (λ r. g r (i * w + x))) (group_f f g rows cols w j)
        (λ x lx. pairs_loop_left Ind rows (λ s. g s (i * w + x)) (group_f f g rows cols w j)
        (λ s ls. pairs_loop_right Ind (g s (i * w + x)) rows (λ r. each (width_of f g rows cols w j) (λ y. f r (j * w + y)))
        (λ r lr. pairs_loop_right Ind (g s (i * w + x)) (width_of f g rows cols w j) (λ y. f r (j * w + y))
        (λ y ly. far r (j * w + y) s (i * w + x) (room x y lx)))))
      where
        room : (x y : ℕ) → x < min w (cols - i * w) → i * w + x + 3 ≤ j * w + y
        room x y lx = omega (arith, mul-le-mul_right w l, add-mul i 2 w)
