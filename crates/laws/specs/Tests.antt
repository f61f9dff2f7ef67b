-- Tests that compute, as facts: `T b` says that b is true. Cases on a test, and what `&&`, `||` and `not` of tests say.
-- Assumes nothing.
use Rattle.std.specs.Prelude.{◌≡◌, refl, Bool, true, false, not, ◌&&◌, ◌||◌, ℕ, T, eqb}
use Rattle.std.proofs.Common.{sym, subst}
use Rattle.std.proofs.Math.Dec.{not_T}

-- a test holds or it fails
pub choose {ℓ} : {X : Type ℓ} (b : Bool) → (T b → X) → (T (not b) → X) → X
choose true f g = f tt
choose false f g = g tt

pub holds : (b : Bool) → b ≡ true → T b
holds b e = rw e tt

pub held : (b : Bool) → T b → b ≡ true
held true t = refl
held false t = absurd t

-- ---- and

pub and_l : (a b : Bool) → T (a && b) → T a
and_l true b t = tt
and_l false b t = t

pub and_r : (a b : Bool) → T (a && b) → T b
and_r true b t = t
and_r false b t = absurd t

pub and_i : (a b : Bool) → T a → T b → T (a && b)
and_i true b s t = t
and_i false b s t = s

-- ---- or

pub or_turn : (a b : Bool) → T (a || b) → T (b || a)
or_turn true true t = tt
or_turn true false t = tt
or_turn false true t = tt
or_turn false false t = t

-- neither of two
pub nor_l : (a b : Bool) → T (not (a || b)) → T (not a)
nor_l true b t = t
nor_l false b t = tt

pub nor_r : (a b : Bool) → T (not (a || b)) → T (not b)
nor_r true b t = absurd t
nor_r false b t = t

pub nor_i : (a b : Bool) → (T a → ⊥) → (T b → ⊥) → T (not (a || b))
nor_i true b f g = f tt
nor_i false b f g = not_T b g

-- ---- a test as a number

abbrev pub bit : Bool → ℕ
bit true = 1
bit false = 0

pub bit_yes : (b : Bool) → T b → bit b ≡ 1
bit_yes true t = refl
bit_yes false t = absurd t

pub bit_no : (b : Bool) → T (not b) → bit b ≡ 0
bit_no true t = absurd t
bit_no false t = refl

pub eqb_of : (m n : ℕ) → m ≡ n → T (eqb n n) → T (eqb m n)
eqb_of m n e t = subst (λ (k : ℕ). T (eqb k n)) (sym e) t
