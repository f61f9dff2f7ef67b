-- A loop of turns: what closes its needs, what one of its turns sets, and what a store keeps.
-- Assumes nothing.
use mathlib.Core.Path.{subst}
use mathlib.Core.Logic.{⊎_elim}
use mathlib.Core.List.{List, [], ◌∷◌}
use Prim.Native.Nat.{ℕ, zero, suc, ◌<◌}
use native.Mathlib.Nat.{eq-or-lt_of_le, le_of_suc-le-suc, not-suc-le-zero}
use native.Mathlib.Omega.{arith}
use lib.ListN.{get_or, set}
use borrow.Author.Rules.{rules}
use Rattle.laws.specs.Loops.{turns, turns_none, turns_more, turns_end, turns_keep}

pub ruleset loops = (rules, turns_none, turns_more, turns_end)

-- turn k sets P, whatever came before it, and every later turn keeps it
pub turns_hit : {A : Type 0} (P Q : A → Type 0) (f : ℕ → A → A) (n k : ℕ) (x : A) → k < n → ((j : ℕ) (y : A) → Q y → Q (f j y)) → Q x → ((y : A) → Q y → P (f k y)) → ((j : ℕ) (y : A) → (k < j) → j < n → P y → P (f j y)) → P (turns n f x)
unfolding turns
turns_hit P Q f zero k x lt keep q hit other = absurd (not-suc-le-zero lt)
turns_hit P Q f (suc n) k x lt keep q hit other =
    ⊎_elim
    (λ e. subst (λ (m : ℕ). P (f m (turns n f x))) e (hit (turns n f x) (turns_keep f x Q n q (λ j y h. keep j y))))
    (λ less. other n (turns n f x) less (omega arith) (turns_hit P Q f n k x less keep q hit (λ j y a b. other j y a (omega arith))))
    (eq-or-lt_of_le (le_of_suc-le-suc lt))

-- a property of what is stored and of what was there is one of what is there then
pub set_keeps : (P : ℕ → Type 0) (l : List ℕ) (at x i : ℕ) → P x → P (get_or l i 0) → P (get_or (set l at x) i 0)
set_keeps P [] at x i p q = q
set_keeps P (y ∷ l) zero x zero p q = p
set_keeps P (y ∷ l) zero x (suc i) p q = q
set_keeps P (y ∷ l) (suc at) x zero p q = q
set_keeps P (y ∷ l) (suc at) x (suc i) p q = set_keeps P l at x i p q
