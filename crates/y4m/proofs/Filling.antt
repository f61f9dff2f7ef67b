-- A row filled one place at a time, and a byte or sample that may lie beyond its list. Assumes nothing.
use mathlib.Core.Path.{◌≡◌, refl, sym, ap, ◌∙◌}
use mathlib.Core.Bool.{Bool, true, false}
use mathlib.Core.List.{List}
use Prim.Native.Nat.{ℕ, ◌+◌, ◌-◌, ◌*◌, ◌/◌, ◌%◌, ◌≤◌, ◌<◌}
use native.Mathlib.Omega.{arith}
use lib.ListN.{length, get_or, get_or-eq_default}
use lib.Dec.{ltb}
use Rattle.laws.specs.Choose.{pick, pick_yes, pick_no, is_lt, not_lt}
use Rattle.laws.proofs.Loops.{loops}
use Rattle.low_first.specs.Bytes.{number_in, low_first, byte_at}
use Rattle.low_first.proofs.RoundTrip.{read_two}
use Rattle.low_first.proofs.Fills.{fill_more}
use Rattle.y4m.specs.Rows.{sample_at, padded_at, byte_of}

pub beyond : (xs : List ℕ) (k : ℕ) → length xs ≤ k → 0 ≡ get_or xs k 0
beyond xs k h = sym (get_or-eq_default xs 0 h)

-- ---- rows, by the callees' answers

pub of_wide : (xs : List ℕ) (k r : ℕ) (wide : Bool) → wide ≡ true → r ≡ number_in 2 xs (2 * k) → r ≡ sample_at wide xs k
unfolding sample_at pick
of_wide xs k r wide e f = rw e f

pub of_narrow : (xs : List ℕ) (k r : ℕ) (wide : Bool) → wide ≡ false → r ≡ get_or xs k 0 → r ≡ sample_at wide xs k
unfolding sample_at pick
of_narrow xs k r wide e f = rw e f

pub within_row : (wide : Bool) (width k r : ℕ) (xs : List ℕ) → k < width → r ≡ sample_at wide xs k → r ≡ padded_at wide width xs k
unfolding padded_at
within_row wide width k r xs h e = e ∙ ap (sample_at wide xs) (pick_yes (ltb k width) k (width - 1) k (is_lt k width h) refl)

pub past_row : (wide : Bool) (width k r : ℕ) (xs : List ℕ) → width ≤ k → r ≡ sample_at wide xs (width - 1) → r ≡ padded_at wide width xs k
unfolding padded_at
past_row wide width k r xs h e = e ∙ ap (sample_at wide xs) (pick_no (ltb k width) k (width - 1) (width - 1) (not_lt k width h) refl)

pub wide_bytes : (row : List ℕ) (i r : ℕ) (wide : Bool) → wide ≡ true → r ≡ byte_at 2 row i → r ≡ byte_of wide row i
unfolding byte_of pick
wide_bytes row i r wide e f = rw e f

pub narrow_bytes : (row : List ℕ) (i v r : ℕ) (wide : Bool) → wide ≡ false → v ≡ get_or row i 0 → r ≡ v % 256 → r ≡ byte_of wide row i
unfolding byte_of pick
narrow_bytes row i v r wide e f g = rw (e, ← f) g

pub two_bytes : (xs : List ℕ) (k a b r : ℕ) → a ≡ get_or xs (2 * k) 0 → b ≡ get_or xs (2 * k + 1) 0 → r ≡ a + 256 * b → r ≡ number_in 2 xs (2 * k)
two_bytes xs k a b r e f g = read_two xs (2 * k) (rw (← e, ← f) g)

pub low_byte : (row : List ℕ) (i v r : ℕ) → v ≡ get_or row (i / 2) 0 → i % 2 ≡ 0 → r ≡ v % 256 → r ≡ byte_at 2 row i
unfolding byte_at low_first
low_byte row i v r e f g = rw (f, ← e) g

pub high_byte : (row : List ℕ) (i v r : ℕ) → v ≡ get_or row (i / 2) 0 → (i % 2 ≡ 0 → ⊥) → r ≡ v / 256 % 256 → r ≡ byte_at 2 row i
unfolding byte_at low_first
high_byte row i v r e f g = let one : i % 2 ≡ 1 = omega arith in rw (one, ← e) g

pub ruleset filling = (two_bytes, low_byte, high_byte, loops, fill_more, beyond, of_wide, of_narrow, within_row, past_row, wide_bytes, narrow_bytes)
