-- A sign and a size as an i32. Assumes nothing.
use mathlib.Core.Path.{◌≡◌, refl}
use mathlib.Core.Bool.{Bool, true, false}
use Prim.Native.Nat.{ℕ, zero, suc, ◌≤◌}
use native.Mathlib.Omega.{arith}
use borrow.Author.Tests.{le-ltb, ltb-false}
use lib.IntN.{ℤ, pos, neg_ℤ}
use lib.Dec.{ltb}
use mir.Syntax.{w32}
use mir.Val.{SFits, to_z, of_z}
use mir.Facts.{to_z-of_z}
use Rattle.text.specs.declared.number.Cursor.{Cursor}
use Rattle.text.specs.declared.number.Number.{Number}
use Rattle.text.specs.declared.typed.Signed.{Signed}
use Rattle.text.specs.Numbers.{pick}
use Rattle.text.specs.Typed.{failed, signed, below_zero, from_zero, signed_of}

plus_low : (n : ℕ) → SFits w32 (pos n) → n ≤ 2147483647
plus_low n f = let g = f.sfits in omega arith

minus_low : (n : ℕ) → SFits w32 (neg_ℤ (pos n)) → n ≤ 2147483648
minus_low zero f = omega arith
minus_low (suc n) f = let g = f.sfits in omega arith

plus_fits : (n : ℕ) → n ≤ 2147483647 → SFits w32 (pos n)
plus_fits n h = record { sfits = omega arith }

minus_fits : (n : ℕ) → n ≤ 2147483648 → SFits w32 (neg_ℤ (pos n))
minus_fits zero h = record { sfits = omega arith }
minus_fits (suc n) h = record { sfits = omega arith }

-- what is above a limit is refused
refuse : {A : Type 0} (t : Bool) (a b : A) → (t ≡ false → ⊥) → a ≡ pick t a b
refuse true a b f = refl
refuse false a b f = absurd (f refl)

module _ (size : ℕ) (rest : Cursor) where
  refuses : (most : ℕ) (s : Signed) → (size ≤ most → ⊥) → record { value = pos 0; rest = failed rest } ≡ pick (ltb most size) (record { value = pos 0; rest = failed rest }) s
  refuses most s f = refuse (ltb most size) _ s (λ e. f (ltb-false _ _ e))

  some_is : (b : Bool) → SFits w32 (signed b size) → record { value = signed b size; rest = rest } ≡ pick b (below_zero size rest) (from_zero size rest)
  unfolding below_zero from_zero
  some_is true f = rw (le-ltb _ _ (minus_low size f))
  some_is false f = rw (le-ltb _ _ (plus_low size f))

  none_is : (b : Bool) → (SFits w32 (signed b size) → ⊥) → record { value = pos 0; rest = failed rest } ≡ pick b (below_zero size rest) (from_zero size rest)
  unfolding below_zero from_zero
  none_is true f = refuses 2147483648 _ (λ h. f (minus_fits size h))
  none_is false f = refuses 2147483647 _ (λ h. f (plus_fits size h))

pub signed_some : (n : Number) (v : ℤ) → SFits w32 (signed n.negative n.size) × (v ≡ signed n.negative n.size) → record { value = to_z w32 (of_z w32 v); rest = n.rest } ≡ signed_of n
unfolding signed_of
signed_some n v h = rw (h.1, to_z-of_z h.0) (some_is n.size n.rest n.negative h.0)

pub signed_none : (n : Number) → (SFits w32 (signed n.negative n.size) → ⊥) → record { value = pos 0; rest = failed n.rest } ≡ signed_of n
unfolding signed_of
signed_none n f = none_is n.size n.rest n.negative f
