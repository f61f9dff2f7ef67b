-- What a counting loop makes: the list of its values place by place, a loop cut at rising places, and what closes the needs of a loop.
-- Assumes nothing.
use Rattle.std.specs.Prelude.{◌≡◌}
use Rattle.std.proofs.Math.Path.{sym, ap}
use Rattle.std.proofs.Common.{◌∙◌, le_refl, not-suc-le-zero, rules}
use mathlib.Core.List.{List, [], ◌∷◌, ◌++◌}
use Prim.Native.Nat.{ℕ, zero, suc, ◌+◌, ◌-◌, ◌≤◌, ◌<◌}
use Rattle.std.proofs.Math.Nat.{le_step}
use Rattle.std.proofs.Math.Decide.{ℕ_discrete}
use native.Mathlib.Omega.{arith}
use Rattle.std.proofs.Math.ListN.{get_or, get_or-append}
use Rattle.std.proofs.Math.Seq.{get_or-append-add}
use Rattle.laws.specs.Loops.{each, each_none, each_more, each_end, each_add, singles_length, turns_none, turns_more, turns_end, filled_none, filled_more, filled_end}

-- one element a turn: the list of f's values
module _ {A : Type 0} (f : ℕ → A) where
  pub singles_at : (d : A) (n k : ℕ) → k < n → get_or (each n (λ i. f i ∷ [])) k d ≡ f k
  unfolding each
  singles_at d zero k h = absurd (not-suc-le-zero h)
  singles_at d (suc n) k h =
      elim (ℕ_discrete k n) [
        | yes q ↦ last q
        | no q ↦ get_or-append (each n (λ i. f i ∷ [])) (f n ∷ []) d k (let e = singles_length f n in omega arith) ∙ singles_at d n k (omega arith)
      ]
    where
      last : k ≡ n → get_or (each n (λ i. f i ∷ []) ++ (f n ∷ [])) k d ≡ f k
      last q =
          ap (λ (j : ℕ). get_or (each n (λ i. f i ∷ []) ++ (f n ∷ [])) j d) (let l = singles_length f n in omega arith)
          ∙ get_or-append-add (each n (λ i. f i ∷ [])) (f n ∷ []) 0 d
          ∙ ap f (sym q)

-- a loop in pieces
module _ {A : Type 0} (f : ℕ → List A) where
  -- cut at rising places
  pub each_pieces : (a : ℕ → ℕ) (n : ℕ) → a 0 ≡ 0 → ((k : ℕ) → k < n → a k ≤ a (suc k))
      → each n (λ k. each (a (suc k) - a k) (λ i. f (a k + i))) ≡ each (a n) f
  unfolding each
  each_pieces a zero z up = ap (λ (k : ℕ). each k f) (sym z)
  each_pieces a (suc n) z up =
      ap (λ (l : List A). l ++ each (a (suc n) - a n) (λ i. f (a n + i))) (each_pieces a n z (λ k l. up k (le_step l)))
      ∙ sym (each_add f (a n) (a (suc n) - a n))
      ∙ ap (λ (k : ℕ). each k f) (joins (up n (le_refl (suc n))))
    where
      joins : a n ≤ a (suc n) → a n + (a (suc n) - a n) ≡ a (suc n)
      joins h = omega arith

-- what closes the needs of a loop
pub ruleset loops = (rules, each_none, each_more, each_end, turns_none, turns_more, turns_end, filled_none, filled_more, filled_end)
