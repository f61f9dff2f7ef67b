-- The stores of a line as the code makes them: each sample read from the plane just before it is moved.
-- Assumes nothing.
use Rattle.std.specs.Prelude.{◌≡◌, ℕ, ◌+◌, ◌-◌, ◌*◌, ◌<◌, ◌≤◌, max, Bool, List, [], ◌∷◌, ◌++◌, length, ℤ, slice_index}
use Rattle.laws.specs.Loops.{each}
use Rattle.laws.specs.Stores.{Store, puts}
use Rattle.laws.specs.Changes.{changes, Put}
use Rattle.laws.specs.Whole.{within}
use Rattle.rules.specs.declared.counts.Counts.{Counts}
use Rattle.rules.specs.Taps.{weight_of, difference, before, after}
use Rattle.rules.specs.Segment.{p_at, q_at}
use Rattle.taps.specs.Signed.{along, against}
use Rattle.segment.specs.Fit.{Spread}

-- k stores of a side of width s, by D·W as a sign and a size
abbrev pub along_stores : ℕ → ℕ → ℕ → ℕ → Bool → ℕ → List ℕ → ℕ → List Store
along_stores top at step s plus by l k = each k (λ i. (p_at at step i, along top (slice_index l (p_at at step i)) plus (by * (s - i))) ∷ [])

abbrev pub against_stores : ℕ → ℕ → ℕ → ℕ → Bool → ℕ → List ℕ → ℕ → List Store
against_stores top at step s plus by l k = each k (λ i. (q_at at step i, against top (slice_index l (q_at at step i)) plus (by * (s - i))) ∷ [])

-- both sides, n before the edge and w after it, each sample as it was in l
abbrev pub both_stores : ℕ → ℕ → ℕ → ℕ → ℕ → Bool → ℕ → ℕ → List ℕ → List Store
both_stores top at step n w plus bn bw l = along_stores top at step n plus bn l n ++ against_stores top at step w plus bw l w

-- the plane q after the first i stores on either side of a line of l, of width s on both; those that changed a sample took the count from m to n
pub record Paired (top at step s : ℕ) (plus : Bool) (by : ℕ) (l : List ℕ) (i : ℕ) (q : List ℕ) (m n : ℕ) : Type 0 where
  pub list : q ≡ puts (against_stores top at step s plus by l i) (puts (along_stores top at step s plus by l i) l)
  pub count : n ≡ m + (changes (along_stores top at step s plus by l i) l + changes (against_stores top at step s plus by l i) l)

-- D of a line of the plane l, limited to ±m
abbrev pub difference_in : List ℕ → ℕ → ℕ → ℕ → ℤ
difference_in l at step m =
    within m (difference (slice_index l (p_at at step 1)) (slice_index l (p_at at step 0)) (slice_index l (q_at at step 0)) (slice_index l (q_at at step 1)))

-- the stores of a line, n before the edge and w after it
abbrev pub before_taps : ℕ → ℕ → ℕ → ℕ → ℤ → List ℕ → List Store
before_taps top at step n d l = each n (λ i. (p_at at step i, before top (slice_index l (p_at at step i)) d n i) ∷ [])

abbrev pub after_taps : ℕ → ℕ → ℕ → ℕ → ℤ → List ℕ → List Store
after_taps top at step w d l = each w (λ i. (q_at at step i, after top (slice_index l (q_at at step i)) d w i) ∷ [])

unfoldable pub line_taps : ℕ → ℕ → ℕ → ℕ → ℕ → ℕ → List ℕ → List Store
line_taps top at step n w m l =
    before_taps top at step n (difference_in l at step m) l ++ after_taps top at step w (difference_in l at step m) l

unfoldable pub four_taps : ℕ → ℕ → ℕ → ℕ → ℕ → ℕ → ℕ → List ℕ → List Store
four_taps top at step line n w m l = each 4 (λ j. line_taps top (at + j * line) step n w m l)

abbrev pub none : Counts
none = record { stored = 0; changed = 0 }

-- the plane m after stores into l, which took the counts from n to r
pub record Tapped (ss : List Store) (l : List ℕ) (n r : Counts) (m : List ℕ) : Type 0 where
  pub put : Put ss l m n.changed r.changed
  pub stored : r.stored ≡ n.stored + length ss

-- the limit and both weights of an edge of these widths
pub record Scales (n w m wn ww : ℕ) : Type 0 where
  pub limit_most : m ≤ 65536
  pub weight_before : wn ≡ weight_of n
  pub weight_after : ww ≡ weight_of w
  pub small_before : wn ≤ 85
  pub small_after : ww ≤ 85

-- n samples before the edge, w after it, and the two next to it on both sides lie in the plane
pub record Lane (at step n w size : ℕ) : Type 0 where
  pub step_some : 1 ≤ step
  pub after_some : 1 ≤ w
  pub before_most : n ≤ 8
  pub after_most : w ≤ 8
  pub low : n * step ≤ at
  pub low_2 : 2 * step ≤ at
  pub high : at + (w - 1) * step < size
  pub high_2 : at + step < size

-- the same of four lines, no two of whose samples stand at one place
pub record Lanes (at step line n w size : ℕ) : Type 0 where
  pub step_some : 1 ≤ step
  pub after_some : 1 ≤ w
  pub before_most : n ≤ 8
  pub after_most : w ≤ 8
  pub low : n * step ≤ at
  pub low_2 : 2 * step ≤ at
  pub high : at + 3 * line + (w - 1) * step < size
  pub high_2 : at + 3 * line + step < size
  pub spread : Spread at step line (max n 2) (max w 2)
