-- Sizes from 1 to 4096, halved or in superblocks, stay in range, and so do their products. Assumes nothing.
use mathlib.Core.Path.{◌≡◌}
use Prim.Native.Nat.{ℕ, ◌+◌, ◌*◌, ◌/◌, ◌^◌, ◌≤◌}
use native.Mathlib.Decide.{ℕ_discrete}
use native.Mathlib.Omega.{arith}
use native.Mathlib.Nat.{mul-le-mul}
use mir.Val.{Fits}
use mir.Syntax.{w64}
use Rattle.rules.specs.Numbers.{down}
use Rattle.rules.specs.Frame.{halved, superblocks}

-- what holds of a subsampling of 0 and of 1 holds of every one
pub by_one : (P : ℕ → Type 0) → P 0 → P 1 → (ss : ℕ) → ss ≤ 1 → P ss
by_one P x y ss h = elim (ℕ_discrete ss 0) [
  | yes e ↦ rw e x
  | no n ↦ let e : ss ≡ 1 = omega arith in rw e y
]

pub half_some : (ss n : ℕ) → ss ≤ 1 → 1 ≤ n → 1 ≤ halved ss n
unfolding halved down
half_some ss n h l = by_one (λ k. 1 ≤ (n + k) / 2 ^ k) (omega arith) (omega arith) ss h

pub half_most : (ss n m : ℕ) → ss ≤ 1 → 1 ≤ m → n ≤ m → halved ss n ≤ m
unfolding halved down
half_most ss n m h l u = by_one (λ k. (n + k) / 2 ^ k ≤ m) (omega arith) (omega arith) ss h

pub superblocks_some : (n : ℕ) → 1 ≤ n → 1 ≤ superblocks n
unfolding superblocks
superblocks_some n h = omega arith

pub superblocks_most : (n : ℕ) → n ≤ 4096 → superblocks n ≤ 64
unfolding superblocks
superblocks_most n h = omega arith

-- samples and superblocks of a picture
pub samples_fit : {a b : ℕ} → a ≤ 4096 → b ≤ 4096 → Fits w64 (a * b)
samples_fit h k = record { fits = omega (arith, mul-le-mul h k) }

pub superblocks_fit : {a b : ℕ} → a ≤ 64 → b ≤ 64 → Fits w64 (a * b)
superblocks_fit h k = samples_fit (omega arith) (omega arith)
