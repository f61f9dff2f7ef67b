-- The published AC steps entry by entry: how each follows from those before it, and that all are small.
-- Assumes nothing.
use mathlib.Core.Path.{◌≡◌, refl, sym, ap, ◌∙◌}
use mathlib.Core.Bool.{Bool, true, ◌&&◌}
use mathlib.Core.List.{List, [], ◌∷◌}
use Prim.Native.Nat.{ℕ, zero, suc, ◌+◌, ◌-◌, ◌*◌, ◌/◌, ◌%◌, ◌^◌, ◌≤◌, ◌<◌, min, zero-le}
use native.Mathlib.Nat.{mul-le-mul, pow-le-pow_right, pow-succ', mul-one, mul_left_comm}
use native.Mathlib.Omega.{arith}
use lib.Dec.{T, leb, eqb, leb→le, lit≤}
use lib.ListN.{length, get_or, set}
use lib.Seq.{ext_get_or}
use Rattle.laws.specs.Choose.{pick, pick_no, not_eq}
use Rattle.laws.specs.Tests.{and_l, and_r}
use Rattle.laws.specs.Loops.{each, filled, filled_at, filled_length, filled_more, singles_length}
use Rattle.laws.proofs.Loops.{loops, singles_at}
use Rattle.ac_steps.specs.Steps.{octave, doubling, step_at, step_table, StepsTo, tabled}

first : step_at 0 ≡ 64
unfolding step_at pick
first = refl

-- an entry after the first
pub later : (k : ℕ) → 0 < k → step_at k ≡ doubling (min k 255 - 1)
unfolding step_at
later k h = sym (pick_no (eqb k 0) 64 (doubling (min k 255 - 1)) (doubling (min k 255 - 1)) (not_eq k 0 (λ e. absurd (omega arith))) refl)

-- those that are written out
pub written : (k : ℕ) → k < 25 → get_or (64 ∷ octave) k 0 ≡ step_at k
unfolding doubling
written zero h = sym first
written (suc j) h =
    ap (λ (m : ℕ). get_or octave m 0) (same h)
    ∙ sym (mul-one (get_or octave (j % 24) 0))
    ∙ ap (λ (m : ℕ). get_or octave (j % 24) 0 * 2 ^ m) (none h)
    ∙ ap doubling (place h)
    ∙ sym (later (suc j) (omega arith))
  where
    same : suc j < 25 → j ≡ j % 24
    same h = omega arith

    none : suc j < 25 → 0 ≡ j / 24
    none h = omega arith

    place : suc j < 25 → j ≡ min (suc j) 255 - 1
    place h = omega arith

-- from 255 on the one before it
pub stays : (k : ℕ) → 255 < k → step_at (k - 1) ≡ step_at k
stays k h = later (k - 1) (omega arith) ∙ ap doubling (place h) ∙ sym (later k (omega arith))
  where
    place : 255 < k → min (k - 1) 255 - 1 ≡ min k 255 - 1
    place h = omega arith

-- between them twice the one 24 before it
pub twice : (k : ℕ) → 25 ≤ k → k ≤ 255 → 2 * step_at (k - 24) ≡ step_at k
unfolding doubling
twice k a b =
    ap (λ (x : ℕ). 2 * x) (later (k - 24) (omega arith) ∙ ap doubling (low a b))
    ∙ up
    ∙ ap doubling (high a b)
    ∙ sym (later k (omega arith))
  where
    low : 25 ≤ k → k ≤ 255 → min (k - 24) 255 - 1 ≡ k - 25
    low a b = omega arith

    high : 25 ≤ k → k ≤ 255 → k - 25 + 24 ≡ min k 255 - 1
    high a b = omega arith

    part : (k - 25) % 24 ≡ (k - 25 + 24) % 24
    part = omega arith

    whole : suc ((k - 25) / 24) ≡ (k - 25 + 24) / 24
    whole = omega arith

    up : 2 * (get_or octave ((k - 25) % 24) 0 * 2 ^ ((k - 25) / 24)) ≡ doubling (k - 25 + 24)
    up =
        mul_left_comm 2 (get_or octave ((k - 25) % 24) 0) (2 ^ ((k - 25) / 24))
        ∙ ap (λ (x : ℕ). get_or octave ((k - 25) % 24) 0 * x) (sym (pow-succ' 2 ((k - 25) / 24)))
        ∙ ap (λ (m : ℕ). get_or octave m 0 * 2 ^ suc ((k - 25) / 24)) part
        ∙ ap (λ (m : ℕ). get_or octave ((k - 25 + 24) % 24) 0 * 2 ^ m) whole

-- every number of a list is at most m
unfoldable most : ℕ → List ℕ → Bool
most m [] = true
most m (x ∷ xs) = leb x m && most m xs

at_most : (m : ℕ) (xs : List ℕ) → T (most m xs) → (k : ℕ) → get_or xs k 0 ≤ m
unfolding most
at_most m [] t k = zero-le
at_most m (x ∷ xs) t zero = leb→le x m (and_l (leb x m) (most m xs) t)
at_most m (x ∷ xs) t (suc k) = at_most m xs (and_r (leb x m) (most m xs) t) k

small_doubling : (j : ℕ) → j ≤ 254 → doubling j ≤ 79872
unfolding doubling octave most
small_doubling j h = mul-le-mul (at_most 78 octave tt (j % 24)) (pow-le-pow_right {n = 2} (lit≤ tt) {i = j / 24} {j = 10} (omega arith))

-- an entry that is doubled is small
pub small : (k : ℕ) → k ≤ 255 → step_at k ≤ 79872
small zero h = rw first (lit≤ tt)
small (suc j) h = rw (later (suc j) (omega arith)) (small_doubling (min (suc j) 255 - 1) (omega arith))

-- ---- the table as a loop fills it

-- what was filled is right
pub filled_right : (start : List ℕ) (i : ℕ) {l : List ℕ} → l ≡ filled start step_at i → i ≤ length start → StepsTo i l
filled_right start i e h k b = ap (λ (x : List ℕ). get_or x k 0) e ∙ filled_at start step_at 0 i k b (omega arith)

pub filled_next : (start : List ℕ) (i : ℕ) {l : List ℕ} {v : ℕ} → l ≡ filled start step_at i → v ≡ step_at i → set l i v ≡ filled start step_at (i + 1)
filled_next start i {l} e g = filled_more start step_at i e (ap (λ (x : ℕ). set l i x) g)

-- a list of 352 entries is then the table
pub whole : (start : List ℕ) {t : List ℕ} → length start ≡ 352 → t ≡ tabled start → t ≡ step_table
unfolding step_table tabled
whole start {t} n e =
    e
    ∙ ext_get_or 0 (filled start step_at 352) (each 352 (λ k. step_at k ∷ [])) (filled_length start step_at 352 ∙ n ∙ sym (singles_length step_at 352))
    (λ k l. let b : k < 352 = omega (arith, filled_length start step_at 352) in filled_at start step_at 0 352 k b (omega arith) ∙ sym (singles_at step_at 0 352 k b))

pub ruleset following = (loops, filled_right, filled_next)
