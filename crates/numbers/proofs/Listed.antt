-- Numbers of a settings list, as the machine read them.
-- Assumes nothing.
use mathlib.Core.Path.{◌≡◌, refl, ap, subst, ◌∙◌}
use mathlib.Core.List.{List}
use Prim.Native.Nat.{ℕ}
use native.Mathlib.Omega.{arith}
use borrow.Author.Rules.{rules}
use lib.ListN.{get_or}
use lib.IntN.{ℤ, pos, negsuc}
use Rattle.std.proofs.Common.{le-leb}
use mir.Syntax.{w32}
use Rattle.std.specs.Prelude.{Result, Ok, Err, OkIff, unsigned_abs}
use Rattle.std.specs.Int.{FitsUnsignedBits}
use Rattle.std.specs.Result.{result_unwrap_or}
use mir.Val.{SFits, to_z, of_z}
use mir.Facts.{to_z-of_z}
use lib.Signed.{le_z}
use Rattle.numbers.specs.Settings.{number_at, count_of, is_count, count_at}

-- a number that was read
pub number_read : (l : List ℤ) (k : ℕ) → SFits w32 (get_or l k (pos 0)) → to_z w32 (of_z w32 (get_or l k (pos 0))) ≡ number_at l k
unfolding number_at
number_read l k f = to_z-of_z f

-- a number that fits 32 bits without a sign, or the largest of these
counted : {E : Type 0} (z : ℤ) (r : Result ℕ E) {n : ℕ} → SFits w32 z → OkIff r (FitsUnsignedBits 32 z) (unsigned_abs z) → n ≡ result_unwrap_or r 4294967295 → n ≡ count_of z
unfolding count_of
counted (pos m) (Ok x) f h e = e ∙ h.1
counted (pos m) (Err x) f h e = absurd (h (omega (arith, f.sfits)))
counted (negsuc m) (Ok x) f h e = absurd h.0
counted (negsuc m) (Err x) f h e = e

pub count_or : {E : Type 0} (z : ℤ) (r : Result ℕ E) {n : ℕ} → SFits w32 z → OkIff r (FitsUnsignedBits 32 (to_z w32 (of_z w32 z))) (unsigned_abs (to_z w32 (of_z w32 z))) → n ≡ result_unwrap_or r 4294967295 → n ≡ count_of z
count_or z r f h e = counted z r f (subst (λ (y : ℤ). OkIff r (FitsUnsignedBits 32 y) (unsigned_abs y)) (to_z-of_z f) h) e

-- whether it is from zero on
from_zero : (z : ℤ) → le_z (pos 0) z ≡ is_count z
unfolding is_count
from_zero (pos n) = le-leb 0 n (omega arith)
from_zero (negsuc n) = refl

pub sign_read : (l : List ℤ) (k : ℕ) {z : ℤ} → SFits w32 z → z ≡ number_at l k → le_z (pos 0) (to_z w32 (of_z w32 z)) ≡ is_count (number_at l k)
sign_read l k f e = ap (λ (z : ℤ). le_z (pos 0) z) (to_z-of_z f ∙ e) ∙ from_zero (number_at l k)

-- a number that was handed on
pub count_read : (l : List ℤ) (k : ℕ) {z : ℤ} {n : ℕ} → SFits w32 z → z ≡ number_at l k → n ≡ count_of (to_z w32 (of_z w32 z)) → n ≡ count_at l k
unfolding count_at
count_read l k f e g = g ∙ ap (λ (z : ℤ). count_of z) (to_z-of_z f ∙ e)

pub number_kept : (l : List ℤ) (k : ℕ) {z : ℤ} → SFits w32 z → z ≡ number_at l k → to_z w32 (of_z w32 z) ≡ number_at l k
number_kept l k f e = to_z-of_z f ∙ e

pub ruleset listed = (rules, number_read)
