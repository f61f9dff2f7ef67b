-- The stores of a list whose places are not kept: what is left of the list, of its counts, and of what it does to each place.
-- Assumes nothing.
use Rattle.std.specs.Prelude.{◌≡◌, Bool, ℕ, ◌≤◌, set}
use Rattle.std.proofs.Math.Path.{refl, ap}
use Rattle.std.proofs.Common.{sym, ◌∙◌, length-set, get_or-set_other}
use Rattle.std.proofs.Math.Bool.{true, false}
use mathlib.Core.List.{List, [], ◌∷◌, ◌++◌}
use native.Mathlib.Omega.{arith}
use Rattle.std.proofs.Math.ListN.{length, get_or}
use Rattle.laws.specs.Choose.{pick, true_not_false}
use Rattle.laws.specs.Lists.{Each, each_map}
use Rattle.laws.specs.Stores.{Store, puts, puts_other, puts_agree}
use Rattle.laws.specs.Changes.{changes}

unfoldable pub outside : (ℕ → Bool) → List Store → List Store
outside kept [] = []
outside kept (s ∷ ss) = pick (kept s.0) (outside kept ss) (s ∷ outside kept ss)

-- ---- what is left

module _ (kept : ℕ → Bool) where
  pub outside_none : [] ≡ outside kept []
  unfolding outside
  outside_none = refl

  -- the first store is left out, or it is not
  pub outside_first : (P : List Store → Type 0) (s : Store) (ss : List Store) → (kept s.0 ≡ true → P (outside kept ss)) → (kept s.0 ≡ false → P (s ∷ outside kept ss)) → P (outside kept (s ∷ ss))
  unfolding outside pick
  outside_first P s ss f g = go (kept s.0) refl
    where
      go : (t : Bool) → kept s.0 ≡ t → P (pick t (outside kept ss) (s ∷ outside kept ss))
      go true e = f e
      go false e = g e

  pub outside_append : (a b : List Store) → outside kept (a ++ b) ≡ outside kept a ++ outside kept b
  unfolding outside pick
  outside_append [] b = refl
  outside_append (s ∷ a) b = joined (kept s.0) (outside_append a b)
    where
      joined : (t : Bool) → outside kept (a ++ b) ≡ outside kept a ++ outside kept b → pick t (outside kept (a ++ b)) (s ∷ outside kept (a ++ b)) ≡ pick t (outside kept a) (s ∷ outside kept a) ++ outside kept b
      joined true e = e
      joined false e = ap (λ (l : List Store). s ∷ l) e

  -- what holds of every store
  pub outside_each : (P : Store → Type 0) (ss : List Store) → Each P ss → Each P (outside kept ss)
  unfolding outside
  outside_each P [] h = tt
  outside_each P (s ∷ ss) h = outside_first (Each P) s ss (λ e. outside_each P ss h.1) (λ e. (h.0, outside_each P ss h.1))

  -- none of them goes to a place that is kept
  pub outside_open : (ss : List Store) → Each (λ st. kept st.0 ≡ false) (outside kept ss)
  unfolding outside
  outside_open [] = tt
  outside_open (s ∷ ss) = outside_first (Each (λ st. kept st.0 ≡ false)) s ss (λ e. outside_open ss) (λ e. (e, outside_open ss))

  -- no more than all
  pub outside_length : (ss : List Store) → length (outside kept ss) ≤ length ss
  unfolding outside
  outside_length [] = omega arith
  outside_length (s ∷ ss) = outside_first (λ l. length l ≤ length (s ∷ ss)) s ss (λ e. omega (arith, outside_length ss)) (λ e. omega (arith, outside_length ss))

  pub outside_changes : (ss : List Store) (l : List ℕ) → changes (outside kept ss) l ≤ changes ss l
  unfolding outside changes
  outside_changes [] l = omega arith
  outside_changes (s ∷ ss) l = outside_first (λ k. changes k l ≤ changes (s ∷ ss) l) s ss (λ e. omega (arith, outside_changes ss l)) (λ e. omega (arith, outside_changes ss l))

-- ---- tests that agree where the stores go

pub outside_same : (kept keep : ℕ → Bool) (ss : List Store) → Each (λ st. kept st.0 ≡ keep st.0) ss → outside kept ss ≡ outside keep ss
unfolding outside
outside_same kept keep [] h = refl
outside_same kept keep (s ∷ ss) h = rw (h.0, outside_same kept keep ss h.1)

-- none of the stores goes to a kept place: all are left
pub outside_all : (kept : ℕ → Bool) (ss : List Store) → Each (λ st. kept st.0 ≡ false) ss → outside kept ss ≡ ss
unfolding outside pick
outside_all kept [] h = refl
outside_all kept (s ∷ ss) h = rw h.0 (ap (λ (l : List Store). s ∷ l) (outside_all kept ss h.1))

-- nothing is kept
pub outside_nothing : (kept : ℕ → Bool) → ((k : ℕ) → kept k ≡ false) → (ss : List Store) → outside kept ss ≡ ss
unfolding outside pick
outside_nothing kept h [] = refl
outside_nothing kept h (s ∷ ss) = rw (h s.0) (ap (λ (l : List Store). s ∷ l) (outside_nothing kept h ss))

-- ---- what stands at a place afterwards

module _ (kept : ℕ → Bool) where
  -- what it was, at a place that is kept
  pub outside_kept : (ss : List Store) (l : List ℕ) (i : ℕ) → kept i ≡ true → get_or (puts (outside kept ss) l) i 0 ≡ get_or l i 0
  outside_kept ss l i h =
      puts_other (outside kept ss) l i
      (each_map (λ st. kept st.0 ≡ false) (λ st. st.0 ≡ i → ⊥) (λ st e q. true_not_false (sym e ∙ ap kept q ∙ h)) (outside kept ss) (outside_open kept ss))

  -- what all the stores leave, at any other
  pub outside_rest : (ss : List Store) (l : List ℕ) (i : ℕ) → kept i ≡ false → get_or (puts (outside kept ss) l) i 0 ≡ get_or (puts ss l) i 0
  unfolding outside puts
  outside_rest [] l i h = refl
  outside_rest (s ∷ ss) l i h =
      outside_first kept (λ k. get_or (puts k l) i 0 ≡ get_or (puts ss (set l s.0 s.1)) i 0) s ss
      (λ e.
      puts_agree (outside kept ss) l (set l s.0 s.1) i (sym (length-set l s.0 s.1))
      (sym (get_or-set_other l s.0 i s.1 0 (λ q. true_not_false (sym h ∙ ap kept q ∙ e))))
      ∙ outside_rest ss (set l s.0 s.1) i h)
      (λ e. outside_rest ss (set l s.0 s.1) i h)
