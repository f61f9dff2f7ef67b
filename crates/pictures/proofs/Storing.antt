-- A list stored into another one: in pieces, as a loop does it, and what stands in the list afterwards.
-- Assumes nothing.
use mathlib.Core.Path.{◌≡◌, refl, sym, ap, ◌∙◌}
use mathlib.Core.List.{List, [], ◌∷◌, ◌++◌}
use Prim.Native.Nat.{ℕ, zero, suc, ◌+◌, ◌*◌, ◌≤◌, ◌<◌}
use native.Mathlib.Nat.{add-zero, le_refl, le_step, mul-suc, le_antisymm}
use native.Mathlib.Numerals.{add-one}
use native.Mathlib.Omega.{arith}
use lib.ListN.{length, take, drop, set, length-set, length-take, take-append-drop, length-append}
use lib.Seq.{take_all, set_out, sets, length-sets, sets-eq, drop-set-lt}
use Rattle.laws.specs.Loops.{each, filled, singles_length}
use Rattle.pictures.specs.Storing.{stored}

module _ {A : Type 0} where
  pub stored_length : (l : List A) (i : ℕ) (vs : List A) → length (stored l i vs) ≡ length l
  unfolding stored
  stored_length l i vs = length-sets l i vs

  -- the same of a list that is one
  pub stored_long : (l : List A) (i : ℕ) (vs : List A) {q : List A} → q ≡ stored l i vs → length q ≡ length l
  stored_long l i vs e = ap length e ∙ stored_length l i vs

  pub stored_none : (l : List A) (i : ℕ) → l ≡ stored l i []
  unfolding stored
  stored_none l i = refl

  pub stored_one : (l : List A) (i : ℕ) (v : A) → set l i v ≡ stored l i (v ∷ [])
  unfolding stored
  stored_one l i v = refl

  -- in two pieces
  pub stored_append : (us vs l : List A) (i : ℕ) → stored l i (us ++ vs) ≡ stored (stored l i us) (i + length us) vs
  unfolding stored
  stored_append [] vs l i = ap (λ (k : ℕ). sets l k vs) (sym (add-zero i))
  stored_append (u ∷ us) vs l i = stored_append us vs (set l i u) (suc i) ∙ ap (λ (k : ℕ). sets (sets (set l i u) (suc i) us) k vs) (omega arith)

  pub stored_then : (l : List A) (i : ℕ) (us vs : List A) {q r : List A} → q ≡ stored l i us → r ≡ stored q (i + length us) vs → r ≡ stored l i (us ++ vs)
  stored_then l i us vs e g = g ∙ ap (λ (x : List A). stored x (i + length us) vs) e ∙ sym (stored_append us vs l i)

  -- where all fits, nothing is lost
  pub stored_fits : (l : List A) (i : ℕ) (vs : List A) → i + length vs ≤ length l → stored l i vs ≡ take i l ++ vs ++ drop (i + length vs) l
  unfolding stored
  stored_fits l i vs h = sets-eq vs l i h

  -- ---- what was not stored over

  pub stored_rest : (vs l : List A) (i p : ℕ) → i + length vs ≤ p → drop p (stored l i vs) ≡ drop p l
  unfolding stored
  stored_rest [] l i p h = refl
  stored_rest (v ∷ vs) l i p h = stored_rest vs (set l i v) (suc i) p (omega arith) ∙ drop-set-lt p l i v (omega arith)

  -- nothing, beyond the end
  pub stored_out : (vs l : List A) (i : ℕ) → length l ≤ i → stored l i vs ≡ l
  unfolding stored
  stored_out [] l i h = refl
  stored_out (v ∷ vs) l i h = stored_out vs (set l i v) (suc i) (omega (arith, length-set l i v)) ∙ set_out l i v h

-- ---- the front of another list

-- all of it, where nothing is left to copy, or no place
pub copy_all : {A : Type 0} (l s : List A) (k : ℕ) {q : List A} → length s ≤ k → q ≡ stored l 0 (take k s) → q ≡ stored l 0 s
copy_all l s k h e = e ∙ ap (λ (x : List _). stored l 0 x) (take_all k s h)

pub copy_full : {A : Type 0} (l s : List A) (k : ℕ) {q : List A} → k ≤ length s → length l ≤ k → q ≡ stored l 0 (take k s) → q ≡ stored l 0 s
copy_full {A} l s k a b e =
    e
    ∙ sym (stored_out (drop k s) (stored l 0 (take k s)) (0 + length (take k s)) (omega (arith, length-take k s, stored_length l 0 (take k s))))
    ∙ sym (stored_append (take k s) (drop k s) l 0)
    ∙ ap (λ (x : List A). stored l 0 x) (take-append-drop k s)

-- ---- a list filled from its front

pub filled_stored : {A : Type 0} (l : List A) (f : ℕ → A) (n : ℕ) → filled l f n ≡ stored l 0 (each n (λ i. f i ∷ []))
unfolding filled each
filled_stored l f zero = stored_none l 0
filled_stored {A} l f (suc n) =
    ap (λ (p : ℕ). set (filled l f n) p (f n)) (place (singles_length f n))
    ∙ stored_then l 0 (each n (λ i. f i ∷ [])) (f n ∷ []) (filled_stored l f n) (stored_one (filled l f n) (0 + length (each n (λ i. f i ∷ []))) (f n))
  where
    place : length (each n (λ i. f i ∷ [])) ≡ n → n ≡ 0 + length (each n (λ i. f i ∷ []))
    place h = omega arith

-- ---- pieces of one length, as a loop stores them

module _ {A : Type 0} (f : ℕ → List A) (w : ℕ) (l : List A) (i : ℕ) where
  pub pieces_none : l ≡ stored l i (each 0 f)
  unfolding each
  pieces_none = stored_none l i

  pub pieces_length : (n : ℕ) → ((k : ℕ) → k < n → length (f k) ≡ w) → length (each n f) ≡ w * n
  unfolding each
  pieces_length zero h = omega arith
  pieces_length (suc n) h = omega (arith, length-append (each n f) (f n), pieces_length n (λ k b. h k (le_step b)), h n (le_refl (suc n)), mul-suc w n)

  pub pieces_more : (n : ℕ) {q r : List A} → ((k : ℕ) → k < n → length (f k) ≡ w)
      → q ≡ stored l i (each n f) → r ≡ stored q (i + w * n) (f n) → r ≡ stored l i (each (n + 1) f)
  unfolding each
  pieces_more n {q} {r} h e g =
      stored_then l i (each n f) (f n) e (g ∙ ap (λ (m : ℕ). stored q (i + m) (f n)) (sym (pieces_length n h)))
      ∙ ap (λ (m : ℕ). stored l i (each m f)) (sym (add-one n))

  pub pieces_end : (k n : ℕ) {q : List A} → q ≡ stored l i (each k f) → k ≤ n → n ≤ k → q ≡ stored l i (each n f)
  pieces_end k n e a b = rw (le_antisymm a b) at e
