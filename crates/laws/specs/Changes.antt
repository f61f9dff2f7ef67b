-- How many of a list's stores change the number that stands at their place, counted on the list as it was before them all; where no two
-- stores go to one place that is what code counts store by store. Assumes nothing.
use Rattle.std.specs.Prelude.{◌≡◌, refl, Bool, List, [], ◌∷◌, ◌++◌, ℕ, ◌+◌, ◌≤◌, eqb, length, get_or, set}
use Rattle.std.proofs.Common.{sym, ap, ap₂, ◌∙◌, le_antisymm, add-one, eq-eqb, ne_eqb, length-append}
use Rattle.std.proofs.Math.Bool.{true, false}
use native.Mathlib.Omega.{arith}
use Rattle.laws.specs.Choose.{pick}
use Rattle.laws.specs.Loops.{each}
use Rattle.laws.specs.Lists.{Each}
use Rattle.laws.specs.Stores.{Store, puts, puts_one, puts_then, puts_none}

-- 1 where two numbers differ
unfoldable pub differ : ℕ → ℕ → ℕ
differ x y = pick (eqb x y) 0 1

module _ (x y : ℕ) where
  pub differ_not : x ≡ y → 0 ≡ differ x y
  unfolding differ pick
  differ_not h = rw (eq-eqb x y h)

  pub differ_some : (x ≡ y → ⊥) → 1 ≡ differ x y
  unfolding differ pick
  differ_some h = rw (ne_eqb x y h)

  pub differ_most : differ x y ≤ 1
  unfolding differ pick
  differ_most = go (eqb x y)
    where
      go : (t : Bool) → pick t 0 1 ≤ 1
      go true = omega arith
      go false = omega arith

-- ---- a list of stores

unfoldable pub changes : List Store → List ℕ → ℕ
changes [] l = 0
changes (s ∷ ss) l = differ (get_or l s.0 0) s.1 + changes ss l

pub changes_append : (a b : List Store) (l : List ℕ) → changes (a ++ b) l ≡ changes a l + changes b l
unfolding changes
changes_append [] b l = omega arith
changes_append (s ∷ a) b l = omega (arith, changes_append a b l)

pub changes_most : (ss : List Store) (l : List ℕ) → changes ss l ≤ length ss
unfolding changes
changes_most [] l = omega arith
changes_most (s ∷ ss) l = omega (arith, differ_most (get_or l s.0 0) s.1, changes_most ss l)

-- lists that are equal where the stores go
pub changes_same : (ss : List Store) (l m : List ℕ) → Each (λ st. get_or l st.0 0 ≡ get_or m st.0 0) ss → changes ss l ≡ changes ss m
unfolding changes
changes_same [] l m h = refl
changes_same (s ∷ ss) l m h = ap₂ (λ (x n : ℕ). differ x s.1 + n) h.0 (changes_same ss l m h.1)

pub changes_one : (p v : ℕ) (l : List ℕ) → changes ((p, v) ∷ []) l ≡ differ (get_or l p 0) v
unfolding changes
changes_one p v l = omega arith

-- one turn more of a loop
pub changes_more : (f : ℕ → List Store) (l : List ℕ) (k : ℕ) → changes (each (k + 1) f) l ≡ changes (each k f) l + changes (f k) l
unfolding each
changes_more f l k = ap (λ (j : ℕ). changes (each j f) l) (add-one k) ∙ changes_append (each k f) (f k) l

-- ---- the list q after stores into l; those that changed a number took the count from n to m

pub record Put (ss : List Store) (l q : List ℕ) (n m : ℕ) : Type 0 where
  pub list : q ≡ puts ss l
  pub count : m ≡ n + changes ss l

pub put_as : {ss tt : List Store} {l q : List ℕ} {n m : ℕ} → ss ≡ tt → Put ss l q n m → Put tt l q n m
put_as e p = rw (← e) p

pub put_one : (l : List ℕ) (p v x n d : ℕ) → v ≡ x → d ≡ differ (get_or l p 0) v → Put ((p, x) ∷ []) l (set l p v) n (n + d)
put_one l p v x n d e h = record {
  list = puts_one l p v x e;
  count = ap (λ (y : ℕ). n + y) (h ∙ ap (λ (y : ℕ). differ (get_or l p 0) y) e ∙ sym (changes_one p x l));
}

-- stores, then others to places that are as they were
pub put_then : (a b : List Store) (l : List ℕ) {q r : List ℕ} {k n m : ℕ} → Put a l q k n → Put b q r n m
    → Each (λ st. get_or q st.0 0 ≡ get_or l st.0 0) b → Put (a ++ b) l r k m
put_then a b l {q} p s h = record {
  list = puts_then a b l p.list s.list;
  count = omega (arith, p.count, s.count, changes_same b q l h, changes_append a b l);
}

-- a loop's turns
module _ (f : ℕ → List Store) (l : List ℕ) where
  pub put_none : (n : ℕ) → Put (each 0 f) l l n n
  unfolding each changes
  put_none n = record { list = puts_none f l; count = omega arith }

  pub put_more : (k : ℕ) {q r : List ℕ} {i n m : ℕ} → Put (each k f) l q i n → Put (f k) q r n m
      → Each (λ st. get_or q st.0 0 ≡ get_or l st.0 0) (f k) → Put (each (k + 1) f) l r i m
  unfolding each
  put_more k p s h = put_as (ap (λ (j : ℕ). each j f) (sym (add-one k))) (put_then (each k f) (f k) l p s h)

  pub put_end : (k n : ℕ) {q : List ℕ} {i m : ℕ} → Put (each k f) l q i m → k ≤ n → n ≤ k → Put (each n f) l q i m
  put_end k n p a b = put_as (ap (λ (j : ℕ). each j f) (le_antisymm a b)) p

-- one turn more of a loop's list
pub length_more : {A : Type 0} (f : ℕ → List A) (k : ℕ) {a b : ℕ} → a ≡ length (each k f) → b ≡ length (f k) → a + b ≡ length (each (k + 1) f)
unfolding each
length_more f k h g = ap₂ (λ (x y : ℕ). x + y) h g ∙ sym (length-append (each k f) (f k)) ∙ ap (λ (j : ℕ). length (each j f)) (sym (add-one k))
