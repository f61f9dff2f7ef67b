-- Tests of whole numbers that are read as differences of two counts: how a test comes out, and what one that came out says.
-- Assumes nothing.
use Rattle.std.specs.Prelude.{◌≡◌, refl, true, false, ℕ, ◌+◌, ◌≤◌, ◌<◌, ℤ, pos, negsuc}
use Rattle.std.proofs.Common.{sym, arith, lt-ltb, le-ltb, le-leb, ltb-true, ltb-false, leb-true}
use Rattle.std.proofs.lemmas.Bool.{lt-leb}
use Rattle.std.specs.Int.Signed.{lt_z, le_z}
use Rattle.laws.specs.Choose.{true_not_false}
use Rattle.laws.specs.Whole.{Is}

-- ---- how a test comes out

module _ (z w : ℤ) {a b c d : ℕ} where
  pub is_lt_z : Is z a b → Is w c d → a + d < c + b → true ≡ lt_z z w
  is_lt_z h k l = go z w h k
    where
      go : (z w : ℤ) → Is z a b → Is w c d → true ≡ lt_z z w
      go (pos m) (pos n) h k = sym (lt-ltb m n (omega arith))
      go (pos m) (negsuc n) h k = absurd (omega arith)
      go (negsuc m) (pos n) h k = refl
      go (negsuc m) (negsuc n) h k = sym (lt-ltb n m (omega arith))

  pub not_lt_z : Is z a b → Is w c d → c + b ≤ a + d → false ≡ lt_z z w
  not_lt_z h k l = go z w h k
    where
      go : (z w : ℤ) → Is z a b → Is w c d → false ≡ lt_z z w
      go (pos m) (pos n) h k = sym (le-ltb m n (omega arith))
      go (pos m) (negsuc n) h k = refl
      go (negsuc m) (pos n) h k = absurd (omega arith)
      go (negsuc m) (negsuc n) h k = sym (le-ltb n m (omega arith))

  pub is_le_z : Is z a b → Is w c d → a + d ≤ c + b → true ≡ le_z z w
  is_le_z h k l = go z w h k
    where
      go : (z w : ℤ) → Is z a b → Is w c d → true ≡ le_z z w
      go (pos m) (pos n) h k = sym (le-leb m n (omega arith))
      go (pos m) (negsuc n) h k = absurd (omega arith)
      go (negsuc m) (pos n) h k = refl
      go (negsuc m) (negsuc n) h k = sym (le-leb n m (omega arith))

  pub not_le_z : Is z a b → Is w c d → c + b < a + d → false ≡ le_z z w
  not_le_z h k l = go z w h k
    where
      go : (z w : ℤ) → Is z a b → Is w c d → false ≡ le_z z w
      go (pos m) (pos n) h k = sym (lt-leb m n (omega arith))
      go (pos m) (negsuc n) h k = refl
      go (negsuc m) (pos n) h k = absurd (omega arith)
      go (negsuc m) (negsuc n) h k = sym (lt-leb n m (omega arith))

-- ---- what one that passed, or failed, says

pub lt_yes : (z w : ℤ) {a b c d : ℕ} → Is z a b → Is w c d → lt_z z w ≡ true → a + d < c + b
lt_yes (pos m) (pos n) h k t = omega (arith, ltb-true m n t)
lt_yes (pos m) (negsuc n) h k t = true_not_false t
lt_yes (negsuc m) (pos n) h k t = omega arith
lt_yes (negsuc m) (negsuc n) h k t = omega (arith, ltb-true n m t)

pub lt_no : (z w : ℤ) {a b c d : ℕ} → Is z a b → Is w c d → lt_z z w ≡ false → c + b ≤ a + d
lt_no (pos m) (pos n) h k t = omega (arith, ltb-false m n t)
lt_no (pos m) (negsuc n) h k t = omega arith
lt_no (negsuc m) (pos n) h k t = true_not_false (sym t)
lt_no (negsuc m) (negsuc n) h k t = omega (arith, ltb-false n m t)

pub le_yes : (z w : ℤ) {a b c d : ℕ} → Is z a b → Is w c d → le_z z w ≡ true → a + d ≤ c + b
le_yes (pos m) (pos n) h k t = omega (arith, leb-true m n t)
le_yes (pos m) (negsuc n) h k t = true_not_false t
le_yes (negsuc m) (pos n) h k t = omega arith
le_yes (negsuc m) (negsuc n) h k t = omega (arith, leb-true n m t)
