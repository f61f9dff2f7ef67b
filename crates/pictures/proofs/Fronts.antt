-- The front of a list that is long enough is as long as was asked.
-- Assumes nothing.
use mathlib.Core.Path.{◌≡◌}
use mathlib.Core.List.{List}
use Prim.Native.Nat.{ℕ, ◌≤◌}
use native.Mathlib.Omega.{arith}
use lib.ListN.{length, take, length-take}

pub front : {A : Type 0} (n : ℕ) (xs : List A) → n ≤ length xs → n ≡ length (take n xs)
front n xs h = omega (arith, length-take n xs)

-- a front as long as asked
pub front_long : {A : Type 0} (k n : ℕ) (xs : List A) → n ≤ length xs → k ≤ n → k ≤ length (take n xs)
front_long k n xs h m = omega (arith, length-take n xs)
