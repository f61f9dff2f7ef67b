-- Bends and slopes as distances between two counts, as the code takes them.
-- Assumes nothing.
use mathlib.Core.Path.{◌≡◌}
use Prim.Native.Nat.{ℕ, ◌+◌, ◌-◌, ◌*◌, ◌≤◌}
use native.Mathlib.Nat.{mul-le-mul}
use native.Mathlib.Omega.{arith}
use Rattle.laws.specs.Whole.{count, size_is}
use Rattle.laws.proofs.Operations.{plus, minus, scale}
use Rattle.rules.specs.Width.{bend_of, slope_of}

-- |a - b| of two counts
abbrev pub apart_of : ℕ → ℕ → ℕ
apart_of a b = (a - b) + (b - a)

pub bend_is : (a b c : ℕ) → apart_of (a + c) (2 * b) ≡ bend_of a b c
unfolding bend_of
bend_is a b c = omega (arith, size_is _ (plus _ _ (minus _ _ (count a) (count (2 * b))) (count c)))

pub slope_is : (k a0 a1 ak : ℕ) → apart_of (a0 + k * a1) (ak + k * a0) ≡ slope_of k a0 a1 ak
unfolding slope_of
slope_is k a0 a1 ak = omega (arith, size_is _ (minus _ _ (minus _ _ (count a0) (count ak)) (scale k _ (minus _ _ (count a0) (count a1)))))

-- a product of two numbers that have a most
pub below : (k x m b : ℕ) → k ≤ m → x ≤ b → k * x ≤ m * b
below k x m b h l = mul-le-mul h l
