-- What a counting loop makes: lists joined, a state handed on, a list filled place by place. The last turn stands outermost,
-- so that a loop's invariant is "so far it is the loop of i turns", with a law for none, for one more, and for the end.
-- Assumes nothing.
use Rattle.std.specs.Prelude.{◌≡◌, length}
use Rattle.std.proofs.Math.Path.{refl, sym, ap}
use Rattle.std.proofs.Common.{ap₂, ◌∙◌, le_refl, le_antisymm, add-zero, add-suc, zero-mul, not-suc-le-zero, add-one, get_or-set_same}
use mathlib.Core.List.{List, [], ◌∷◌, ◌++◌, append_assoc, append-nil}
use Prim.Native.Nat.{ℕ, zero, suc, ◌+◌, ◌-◌, ◌*◌, ◌≤◌, ◌<◌, min}
use Rattle.std.proofs.Math.Nat.{le_step, suc-mul, min-zero}
use Rattle.std.proofs.Math.Decide.{dec_le, ℕ_discrete}
use native.Mathlib.Omega.{arith}
use Rattle.std.proofs.Math.ListN.{get_or, set, length-set, length-append}
use Rattle.std.proofs.Math.Seq.{get_or-set_other}

-- f 0, then f 1, up to f (n - 1), one list after the other
unfoldable pub each : {A : Type 0} → ℕ → (ℕ → List A) → List A
each zero f = []
each (suc n) f = each n f ++ f n

-- f 0, then f 1, up to f (n - 1), each on what those before it left
unfoldable pub turns : {A : Type 0} → ℕ → (ℕ → A → A) → A → A
turns zero f x = x
turns (suc n) f x = f n (turns n f x)

-- a list with f's values at its first n places
unfoldable pub filled : {A : Type 0} → List A → (ℕ → A) → ℕ → List A
filled start f zero = start
filled start f (suc n) = set (filled start f n) n (f n)

-- ---- lists joined

module _ {A : Type 0} (f : ℕ → List A) where
  pub each_none : [] ≡ each 0 f
  unfolding each
  each_none = refl

  pub each_more : (n : ℕ) {xs ys : List A} → xs ≡ each n f → ys ≡ xs ++ f n → ys ≡ each (n + 1) f
  unfolding each
  each_more n {xs} {ys} e g = g ∙ ap (λ (l : List A). l ++ f n) e ∙ ap (λ (k : ℕ). each k f) (sym (add-one n))

  pub each_end : (k n : ℕ) {xs : List A} → xs ≡ each k f → k ≤ n → n ≤ k → xs ≡ each n f
  each_end k n e a b = rw (le_antisymm a b) at e

  -- the first a turns, then the others
  pub each_add : (a n : ℕ) → each (a + n) f ≡ each a f ++ each n (λ i. f (a + i))
  unfolding each
  each_add a zero = ap (λ (k : ℕ). each k f) (add-zero a) ∙ sym (append-nil (each a f))
  each_add a (suc n) =
      ap (λ (k : ℕ). each k f) (add-suc a n)
      ∙ ap (λ (l : List A). l ++ f (a + n)) (each_add a n)
      ∙ append_assoc (each a f) (each n (λ i. f (a + i))) (f (a + n))

  -- the length, where every turn's list has at most m elements
  pub each_most : (m n : ℕ) → ((k : ℕ) → k < n → length (f k) ≤ m) → length (each n f) ≤ n * m
  unfolding each
  each_most m zero h = omega arith
  each_most m (suc n) h =
      omega (arith, length-append (each n f) (f n), each_most m n (λ k l. h k (le_step l)), h n (le_refl (suc n)), suc-mul n m)

-- equal turns
pub each_same : {A : Type 0} (f g : ℕ → List A) (n : ℕ) → ((k : ℕ) → k < n → f k ≡ g k) → each n f ≡ each n g
unfolding each
each_same f g zero h = refl
each_same {A} f g (suc n) h = ap₂ (λ (a b : List A). a ++ b) (each_same f g n (λ k l. h k (le_step l))) (h n (le_refl (suc n)))

pub each_empty : {A : Type 0} (n : ℕ) → ◌≡◌ {A = List A} (each n (λ k. [])) []
unfolding each
each_empty zero = refl
each_empty (suc n) = append-nil (each n (λ k. [])) ∙ each_empty n

-- one element a turn: the list of f's values
module _ {A : Type 0} (f : ℕ → A) where
  pub singles_length : (n : ℕ) → length (each n (λ i. f i ∷ [])) ≡ n
  unfolding each
  singles_length zero = refl
  singles_length (suc n) = omega (arith, length-append (each n (λ i. f i ∷ [])) (f n ∷ []), singles_length n)

-- ---- a loop in pieces

module _ {A : Type 0} (f : ℕ → List A) where
  -- of w turns each: the last piece may be short, and those after it are empty
  pub each_cut : (w m n : ℕ) → each n (λ k. each (min w (m - k * w)) (λ i. f (k * w + i))) ≡ each (min m (n * w)) f
  unfolding each
  each_cut w m zero = ap (λ (k : ℕ). each k f) (sym (ap (min m) (zero-mul w) ∙ min-zero m))
  each_cut w m (suc n) =
      ap (λ (l : List A). l ++ each (min w (m - n * w)) (λ i. f (n * w + i))) (each_cut w m n)
      ∙ elim (dec_le (n * w) m) [
        | yes h ↦
            ap (λ (k : ℕ). each k f ++ each (min w (m - n * w)) (λ i. f (n * w + i))) (full h)
            ∙ sym (each_add f (n * w) (min w (m - n * w)))
            ∙ ap (λ (k : ℕ). each k f) (next h)
        | no h ↦
            ap (λ (k : ℕ). each (min m (n * w)) f ++ each k (λ i. f (n * w + i))) (short h)
            ∙ append-nil (each (min m (n * w)) f)
            ∙ ap (λ (k : ℕ). each k f) (long h)
      ]
    where
      full : n * w ≤ m → min m (n * w) ≡ n * w
      full h = omega arith

      next : n * w ≤ m → n * w + min w (m - n * w) ≡ min m (suc n * w)
      next h = omega (arith, suc-mul n w)

      short : ¬ (n * w ≤ m) → min w (m - n * w) ≡ 0
      short h = omega arith

      long : ¬ (n * w ≤ m) → min m (n * w) ≡ min m (suc n * w)
      long h = omega (arith, suc-mul n w)

-- ---- a state handed on

module _ {A : Type 0} (f : ℕ → A → A) (x : A) where
  pub turns_none : x ≡ turns 0 f x
  unfolding turns
  turns_none = refl

  pub turns_more : (n : ℕ) {y z : A} → y ≡ turns n f x → z ≡ f n y → z ≡ turns (n + 1) f x
  unfolding turns
  turns_more n e g = g ∙ ap (f n) e ∙ ap (λ (k : ℕ). turns k f x) (sym (add-one n))

  pub turns_end : (k n : ℕ) {y : A} → y ≡ turns k f x → k ≤ n → n ≤ k → y ≡ turns n f x
  turns_end k n e a b = rw (le_antisymm a b) at e

  -- what every turn keeps
  pub turns_keep : (P : A → Type 0) (n : ℕ) → P x → ((k : ℕ) (a : A) → k < n → P a → P (f k a)) → P (turns n f x)
  unfolding turns
  turns_keep P zero p h = p
  turns_keep P (suc n) p h = h n (turns n f x) (le_refl (suc n)) (turns_keep P n p (λ k a l. h k a (le_step l)))

  -- the first n turns, then the others
  pub turns_add : (n m : ℕ) → turns m (λ j. f (n + j)) (turns n f x) ≡ turns (n + m) f x
  unfolding turns
  turns_add n zero = ap (λ (k : ℕ). turns k f x) (sym (add-zero n))
  turns_add n (suc m) = ap (f (n + m)) (turns_add n m) ∙ ap (λ (k : ℕ). turns k f x) (sym (add-suc n m))

pub turns_same : {A : Type 0} (f g : ℕ → A → A) (x : A) (n : ℕ) → ((k : ℕ) (a : A) → k < n → f k a ≡ g k a) → turns n f x ≡ turns n g x
unfolding turns
turns_same f g x zero h = refl
turns_same f g x (suc n) h = ap (f n) (turns_same f g x n (λ k a l. h k a (le_step l))) ∙ h n (turns n g x) (le_refl (suc n))

-- ---- a list filled

module _ {A : Type 0} (start : List A) (f : ℕ → A) where
  pub filled_none : start ≡ filled start f 0
  unfolding filled
  filled_none = refl

  pub filled_more : (k : ℕ) {q r : List A} → q ≡ filled start f k → r ≡ set q k (f k) → r ≡ filled start f (k + 1)
  unfolding filled
  filled_more k e g = g ∙ ap (λ (x : List A). set x k (f k)) e ∙ ap (λ (n : ℕ). filled start f n) (sym (add-one k))

  pub filled_end : (k n : ℕ) {q : List A} → q ≡ filled start f k → k ≤ n → n ≤ k → q ≡ filled start f n
  filled_end k n e a b = rw (le_antisymm a b) at e

  pub filled_length : (n : ℕ) → length (filled start f n) ≡ length start
  unfolding filled
  filled_length zero = refl
  filled_length (suc n) = length-set (filled start f n) n (f n) ∙ filled_length n

  -- at a place that was filled, and at one that was not
  pub filled_at : (d : A) (n k : ℕ) → k < n → k < length start → get_or (filled start f n) k d ≡ f k
  unfolding filled
  filled_at d zero k h b = absurd (not-suc-le-zero h)
  filled_at d (suc n) k h b =
      elim (ℕ_discrete k n) [
        | yes q ↦ rw (← q) (get_or-set_same (filled start f k) k (f k) d (let e = filled_length k in omega arith))
        | no q ↦ get_or-set_other (filled start f n) n k (f n) d q ∙ filled_at d n k (omega arith) b
      ]

  pub filled_beyond : (d : A) (n k : ℕ) → n ≤ k → get_or (filled start f n) k d ≡ get_or start k d
  unfolding filled
  filled_beyond d zero k h = refl
  filled_beyond d (suc n) k h = get_or-set_other (filled start f n) n k (f n) d (λ q. absurd (omega arith)) ∙ filled_beyond d n k (omega arith)

pub filled_same : {A : Type 0} (start : List A) (f g : ℕ → A) (n : ℕ) → ((k : ℕ) → k < n → f k ≡ g k) → filled start f n ≡ filled start g n
unfolding filled
filled_same start f g zero h = refl
filled_same {A} start f g (suc n) h =
    ap₂ (λ (x : List A) (v : A). set x n v) (filled_same start f g n (λ k l. h k (le_step l))) (h n (le_refl (suc n)))
