-- The eight pairs of lengths: a constant table is its rule, and what holds of every pair.
-- Assumes nothing.
use mathlib.Core.Path.{◌≡◌}
use mathlib.Core.List.{List}
use Prim.Native.Nat.{ℕ, zero, suc, ◌≤◌, ◌<◌, min}
use native.Mathlib.Omega.{arith}
use borrow.Author.Rules.{rules}
use lib.Dec.{T, eqb, eqb→eq}
use lib.ListN.{length, get_or}
use Rattle.laws.specs.Choose.{pick}
use Rattle.laws.specs.Table.{at, every}
use Rattle.rules.specs.Lengths.{length_before, length_after, most_before, most_after, reach_of, reach_before, reach_after}

-- a table whose every entry is f's value at its place holds f's values
pub table_is : (f : ℕ → ℕ) (xs : List ℕ) → T (every (λ k x. eqb x (f k)) 0 xs) → (k : ℕ) → k < length xs → get_or xs k 0 ≡ f k
table_is f xs t k h = eqb→eq (get_or xs k 0) (f k) (at (λ k x. eqb x (f k)) xs t k h)

-- the most samples after the edge that a pair has: 1, 3, 4, 6, 8
pub data After : ℕ → Type 0 where
  one : After 1
  three : After 3
  four : After 4
  six : After 6
  eight : After 8

-- one side of a pair, before or after: the most samples that it filters, and its reach
pub record SideFacts (most reach : ℕ) : Type 0 where
  pub some : 1 ≤ most
  pub most_8 : most ≤ 8
  pub most_in : most ≤ reach
  pub reach_3 : 3 ≤ reach
  pub reach_8 : reach ≤ 8
  -- a ramp is tested with k up to 7, and with no k over the most
  pub ramp_in : min most 7 < reach

pub record PairFacts (pair : ℕ) : Type 0 where
  pub before : SideFacts (most_before pair) (reach_before pair)
  pub after : SideFacts (most_after pair) (reach_after pair)
  pub before_after : most_before pair ≤ most_after pair
  pub after_is : After (most_after pair)

ruleset facts = (rules, one, three, four, six, eight)

pub pair_facts : (pair : ℕ) → pair < 8 → PairFacts pair
unfolding pick length_before length_after most_before most_after reach_of reach_before reach_after
pair_facts zero h = search facts
pair_facts (suc zero) h = search facts
pair_facts (suc (suc zero)) h = search facts
pair_facts (suc (suc (suc zero))) h = search facts
pair_facts (suc (suc (suc (suc zero)))) h = search facts
pair_facts (suc (suc (suc (suc (suc zero))))) h = search facts
pair_facts (suc (suc (suc (suc (suc (suc zero)))))) h = search facts
pair_facts (suc (suc (suc (suc (suc (suc (suc zero))))))) h = search facts
pair_facts (suc (suc (suc (suc (suc (suc (suc (suc pair)))))))) h = absurd (omega arith)
