-- A loop that fills a list from its first place to its last makes the list of the values.
-- Assumes nothing.
use mathlib.Core.Path.{◌≡◌, sym, ap, ◌∙◌}
use mathlib.Core.List.{List, [], ◌∷◌}
use Prim.Native.Nat.{ℕ, ◌+◌, ◌≤◌, ◌<◌}
use native.Mathlib.Omega.{arith}
use lib.ListN.{length, set}
use lib.Seq.{ext_get_or}
use Rattle.laws.specs.Loops.{each, filled, filled_length, filled_at, filled_more, filled_end, singles_length}
use Rattle.laws.proofs.Loops.{loops, singles_at}

-- the whole list was filled
pub filled_whole : (start : List ℕ) (f : ℕ → ℕ) (n : ℕ) → length start ≡ n → filled start f n ≡ each n (λ i. f i ∷ [])
filled_whole start f n h =
    ext_get_or 0 (filled start f n) (each n (λ i. f i ∷ [])) (filled_length start f n ∙ h ∙ sym (singles_length f n))
    (λ k b. let l : k < n = omega (arith, filled_length start f n) in
    filled_at start f 0 n k l (omega arith) ∙ sym (singles_at f 0 n k l))

-- at the loop's end: the counter is at the list's length
pub whole_end : (start : List ℕ) (f : ℕ → ℕ) (k n : ℕ) {q : List ℕ} → q ≡ filled start f k → k ≤ n → n ≤ k → length start ≡ n → q ≡ each n (λ i. f i ∷ [])
whole_end start f k n e a b h = filled_end start f k n e a b ∙ filled_whole start f n h

-- one turn: the value was asked of a callee
pub fill_more : (start : List ℕ) (f : ℕ → ℕ) (k : ℕ) {q : List ℕ} {v : ℕ} → q ≡ filled start f k → v ≡ f k → set q k v ≡ filled start f (k + 1)
fill_more start f k {q} e g = filled_more start f k e (ap (λ (x : ℕ). set q k x) g)

pub ruleset fills = (loops, fill_more, whole_end)
