-- A table of rows and columns walked in groups of columns, or in bands of rows, is the plain walk. Assumes nothing.
use Rattle.std.specs.Prelude.{◌≡◌}
use Rattle.std.proofs.Math.Path.{ap}
use Rattle.std.proofs.Common.{◌∙◌}
use mathlib.Core.List.{List, ◌++◌}
use Prim.Native.Nat.{ℕ, suc, ◌+◌, ◌-◌, ◌*◌, ◌≤◌, ◌<◌}
use native.Mathlib.Omega.{arith}
use Rattle.laws.specs.Loops.{each, each_same}
use Rattle.laws.specs.Lists.{Pairs, pairs_loop_right, pairs_turn}
use Rattle.laws.specs.Trace.{Same, and_then, same_eq, prefix, suffix}
use Rattle.laws.specs.Schedules.{by_rows, by_columns, plain, group_f, group_g, grouped, band_f, band_g, banded}
use Rattle.laws.proofs.Loops.{each_pieces}
use Rattle.laws.proofs.Lists.{pairs_loop_left}
use Rattle.laws.proofs.Schedules.{apart, transpose, lagged, groups_rows, groups_columns, groups_apart}

-- in groups of w columns
module _ {E : Type 0} (f g : ℕ → ℕ → List E) (rows cols w : ℕ) where
  module _ {Ind : E → E → Type 0} (turn : (a b : E) → Ind a b → Ind b a)
      (rowsApart : (r c s d : ℕ) → r < s → Pairs Ind (f r c) (f s d))
      (far : (r c s d : ℕ) → d + 3 ≤ c → Pairs Ind (g s d) (f r c)) where
    -- the groups are the plain walk
    pub grouped_plain : 2 ≤ w → (n : ℕ) → cols ≤ n * w → Same Ind (grouped f g rows cols w n) (plain f g rows cols)
    grouped_plain wide n h =
        and_then (lagged turn (group_f f g rows cols w) (group_g f g rows cols w) n (λ i j l k. groups_apart f g rows cols w turn rowsApart far wide i j l))
        (and_then (suffix (each n (group_g f g rows cols w)) (groups_rows f g rows cols w turn rowsApart far n h)) (same_eq (ap (λ (l : List E). by_rows f g rows cols ++ l) (groups_columns f g rows cols w turn rowsApart far n h))))

-- in bands of rows
module _ {E : Type 0} (f g : ℕ → ℕ → List E) (cols : ℕ) (a b : ℕ → ℕ) where
  module _ {Ind : E → E → Type 0} (turn : (a b : E) → Ind a b → Ind b a) (rows n : ℕ)
      (a-zero : a 0 ≡ 0) (b-zero : b 0 ≡ 0) (a-all : a n ≡ rows) (b_all : b n ≡ rows)
      (a-up : (k : ℕ) → k < n → a k ≤ a (suc k)) (b-up : (k : ℕ) → k < n → b k ≤ b (suc k))
      (waits : (i j r s : ℕ) → i < j → j < n → a j ≤ r → r < a (suc j) → s < b (suc i) → s + 2 ≤ r)
      (colsApart : (r c s d : ℕ) → d < c → Pairs Ind (g s c) (g r d))
      (above : (r c s d : ℕ) → s + 2 ≤ r → Pairs Ind (g s d) (f r c)) where
    bands_apart : (i j : ℕ) → i < j → j < n → Pairs Ind (band_g f g cols a b i) (band_f f g cols a b j)
    bands_apart i j l k =
        pairs_loop_left Ind cols (λ d. each (b (suc i) - b i) (λ y. g (b i + y) d)) (band_f f g cols a b j)
        (λ d ld. pairs_loop_left Ind (b (suc i) - b i) (λ y. g (b i + y) d) (band_f f g cols a b j)
        (λ y ly. pairs_loop_right Ind (g (b i + y) d) (a (suc j) - a j) (λ x. each cols (λ c. f (a j + x) c))
        (λ x lx. pairs_loop_right Ind (g (b i + y) d) cols (λ c. f (a j + x) c)
        (λ c lc. above (a j + x) c (b i + y) d (waits i j (a j + x) (b i + y) l k (omega arith) (omega arith) (omega arith))))))

    bands_rows : each n (band_f f g cols a b) ≡ by_rows f g rows cols
    bands_rows = each_pieces (λ r. each cols (λ c. f r c)) a n a-zero a-up ∙ ap (λ (k : ℕ). each k (λ r. each cols (λ c. f r c))) a-all

    bands_columns : Same Ind (each n (band_g f g cols a b)) (by_columns f g rows cols)
    bands_columns =
        and_then (transpose turn (λ k c. each (b (suc k) - b k) (λ i. g (b k + i) c)) n cols
        (λ p q i j l k u v. pairs_loop_left Ind (b (suc q) - b q) (λ y. g (b q + y) i) (each (b (suc p) - b p) (λ y. g (b p + y) j))
        (λ y ly. pairs_loop_right Ind (g (b q + y) i) (b (suc p) - b p) (λ x. g (b p + x) j)
        (λ x lx. pairs_turn Ind Ind turn (g (b p + x) j) (g (b q + y) i) (colsApart (b q + y) j (b p + x) i u)))))
        (same_eq (each_same (λ c. each n (λ k. each (b (suc k) - b k) (λ i. g (b k + i) c))) (λ c. each rows (λ r. g r c)) cols
        (λ c lc. each_pieces (λ r. g r c) b n b-zero b-up ∙ ap (λ (k : ℕ). each k (λ r. g r c)) b_all)))

    -- the bands are the plain walk
    pub banded_plain : Same Ind (banded f g cols a b n) (plain f g rows cols)
    banded_plain =
        and_then (apart (band_f f g cols a b) (band_g f g cols a b) n bands_apart)
        (and_then (suffix (each n (band_g f g cols a b)) (same_eq bands_rows)) (prefix (by_rows f g rows cols) bands_columns))
