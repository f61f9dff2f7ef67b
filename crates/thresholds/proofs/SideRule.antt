-- The rule of SIDE_THRESHOLDS: its entries never fall, neighbours differ by at most 10, and they run from -16, at places
-- 0 to 56 alone, to 1678.
-- Assumes nothing.
use mathlib.Core.Path.{◌≡◌, refl, ap}
use mathlib.Core.Bool.{Bool, true, false, ◌&&◌}
use mathlib.Core.Logic.{⊎_elim}
use Prim.Native.Nat.{ℕ, zero, suc, ◌+◌, ◌≤◌, ◌<◌}
use native.Mathlib.Nat.{eq-or-lt_of_le, le_of_suc-le-suc}
use native.Mathlib.Omega.{arith}
use borrow.Author.Tests.{le-leb, lt-leb}
use lib.Dec.{T, eqb, leb, eqb→eq, leb→le, le→leb}
use lib.ListN.{get_or}
use lib.IntN.{ℤ, pos, negsuc, ◌+ℤ◌}
use lib.Signed.{le_z, ◌≤ℤ◌, le_z_yes, ≤ℤ_refl}
use Rattle.laws.specs.Tests.{and_l, and_r}
use Rattle.laws.specs.Whole.{over, under}
use Rattle.rules.specs.SideTable.{side_table}
use Rattle.laws.specs.Table.{near}

abbrev pub entry : ℕ → ℤ
entry k = get_or side_table k (pos 0)

-- an entry that is -16
abbrev is_low : ℤ → Bool
is_low (pos n) = false
is_low (negsuc n) = eqb n 15

abbrev alike : Bool → Bool → Bool
alike true b = b
alike false true = false
alike false false = true

-- the test: entry x at place k and the entry y after it
abbrev ruled : ℕ → ℤ → ℤ → Bool
ruled k x y = le_z x y && (le_z y (x +ℤ pos 10) && alike (is_low x) (leb k 56))

-- what the test says of a place
pub record SideRule (k : ℕ) : Type 0 where
  pub rises : entry k ≤ℤ entry (suc k)
  pub near_by : entry (suc k) ≤ℤ (entry k +ℤ pos 10)
  pub low : k ≤ 56 → entry k ≡ negsuc 15
  pub above : 56 < k → entry k ≡ negsuc 15 → ⊥

low_is : (z : ℤ) → T (is_low z) → z ≡ negsuc 15
low_is (pos n) t = absurd t
low_is (negsuc n) t = ap negsuc (eqb→eq n 15 t)

alike_true : (a b : Bool) → T (alike a b) → b ≡ true → T a
alike_true true b t e = tt
alike_true false true t e = t
alike_true false false t e = absurd (let z : ◌≡◌ {A = ℕ} 0 1 = cc in omega arith)

alike_false : (a b : Bool) → T (alike a b) → b ≡ false → T a → ⊥
alike_false true true t e u = let z : ◌≡◌ {A = ℕ} 0 1 = cc in omega arith
alike_false true false t e u = absurd t
alike_false false b t e u = absurd u

-- the one computed test, at each index
pub side_rule : (k : ℕ) → k < 295 → SideRule k
side_rule k h =
    let t = near ruled (pos 0) side_table tt k (omega arith) in
    let s = and_r (le_z (entry k) (entry (suc k))) _ t in
    let l = and_r (le_z (entry (suc k)) (entry k +ℤ pos 10)) _ s in
    record {
      rises = le_z_yes (and_l (le_z (entry k) (entry (suc k))) _ t);
      near_by = le_z_yes (and_l (le_z (entry (suc k)) (entry k +ℤ pos 10)) _ s);
      low = λ g. low_is (entry k) (alike_true (is_low (entry k)) (leb k 56) l (le-leb k 56 g));
      above = λ g e. alike_false (is_low (entry k)) (leb k 56) l (lt-leb k 56 g) (is_low_holds e);
    }
  where
    is_low_holds : {z : ℤ} → z ≡ negsuc 15 → T (is_low z)
    is_low_holds e = rw e tt

pub side_last : entry 295 ≡ pos 1678
side_last = refl

le_trans : (a b c : ℤ) → a ≤ℤ b → b ≤ℤ c → a ≤ℤ c
le_trans (pos a) (pos b) (pos c) h k = le_z_yes (le→leb a c (le_le (leb→le a b h.le) (leb→le b c k.le)))
  where
    le_le : {a b c : ℕ} → a ≤ b → b ≤ c → a ≤ c
    le_le h k = omega arith
le_trans (pos a) (pos b) (negsuc c) h k = absurd k.le
le_trans (pos a) (negsuc b) c h k = absurd h.le
le_trans (negsuc a) b (pos c) h k = le_z_yes tt
le_trans (negsuc a) (pos b) (negsuc c) h k = absurd k.le
le_trans (negsuc a) (negsuc b) (negsuc c) h k = le_z_yes (le→leb c a (le_le (leb→le b a h.le) (leb→le c b k.le)))
  where
    le_le : {a b c : ℕ} → b ≤ a → c ≤ b → c ≤ a
    le_le h k = omega arith

-- over any distance
pub never_falls : (j k : ℕ) → j ≤ k → k < 296 → entry j ≤ℤ entry k
never_falls j zero h g = rw (none h) (≤ℤ_refl (entry 0))
  where
    none : j ≤ 0 → j ≡ 0
    none h = omega arith
never_falls j (suc k) h g =
    ⊎_elim
    (λ e. rw e (≤ℤ_refl (entry (suc k))))
    (λ lt. le_trans _ _ _ (never_falls j k (le_of_suc-le-suc lt) (omega arith)) (side_rule k (omega arith)).rises)
    (eq-or-lt_of_le h)

-- in counts: at most 1678 above 0, and at most 16 below it
pub record InRange (z : ℤ) : Type 0 where
  pub most : over z ≤ 1678
  pub least : under z ≤ 16

in_range_holds : (z : ℤ) → negsuc 15 ≤ℤ z → z ≤ℤ pos 1678 → InRange z
in_range_holds (pos n) l m = let h = leb→le n 1678 m.le in record { most = h; least = omega arith }
in_range_holds (negsuc n) l m = let h = leb→le n 15 l.le in record { most = omega arith; least = omega arith }

pub side_range : (k : ℕ) → k < 296 → InRange (entry k)
side_range k h = in_range_holds (entry k) (never_falls 0 k (omega arith) h) (never_falls k 295 (omega arith) (omega arith))
