-- Stores into a list, one after the other: how code builds them up, and what stands at a place afterwards.
-- Assumes nothing.
use Rattle.std.specs.Prelude.{◌≡◌, List, [], ◌∷◌, ◌++◌, ℕ, ◌+◌, ◌≤◌, ◌<◌, length, get_or, set}
use Rattle.std.proofs.Math.Path.{refl, ap}
use Rattle.std.proofs.Common.{sym, ◌∙◌, inl, inr, le_antisymm, add-one, arith, length-set, get_or-set_same, get_or-set_other}
use Rattle.std.proofs.Math.Decide.{ℕ_discrete, dec_lt}
use Rattle.std.proofs.Math.Seq.{set_out}
use Rattle.std.proofs.lemmas.List.{set_comm}
use Rattle.laws.specs.Loops.{each}
use Rattle.laws.specs.Lists.{Each, Some}

-- a place and its new number
abbrev pub Store : Type 0
Store = ℕ × ℕ

unfoldable pub puts : List Store → List ℕ → List ℕ
puts [] l = l
puts (s ∷ ss) l = puts ss (set l s.0 s.1)

pub puts_length : (ss : List Store) (l : List ℕ) → length (puts ss l) ≡ length l
unfolding puts
puts_length [] l = refl
puts_length (s ∷ ss) l = puts_length ss _ ∙ length-set l s.0 s.1

pub puts_append : (a b : List Store) (l : List ℕ) → puts (a ++ b) l ≡ puts b (puts a l)
unfolding puts
puts_append [] b l = refl
puts_append (s ∷ a) b l = puts_append a b _

-- ---- how code builds them up

pub puts_one : (l : List ℕ) (p v x : ℕ) → v ≡ x → set l p v ≡ puts ((p, x) ∷ []) l
unfolding puts
puts_one l p v x e = ap (λ (y : ℕ). set l p y) e

pub puts_then : (a b : List Store) (l : List ℕ) {q r : List ℕ} → q ≡ puts a l → r ≡ puts b q → r ≡ puts (a ++ b) l
puts_then a b l e g = g ∙ ap (λ (x : List ℕ). puts b x) e ∙ sym (puts_append a b l)

-- a loop's turns
module _ (f : ℕ → List Store) (l : List ℕ) where
  pub puts_none : l ≡ puts (each 0 f) l
  unfolding each puts
  puts_none = refl

  pub puts_more : (n : ℕ) {q r : List ℕ} → q ≡ puts (each n f) l → r ≡ puts (f n) q → r ≡ puts (each (n + 1) f) l
  unfolding each
  puts_more n e g = puts_then (each n f) (f n) l e g ∙ ap (λ (k : ℕ). puts (each k f) l) (sym (add-one n))

  pub puts_end : (k n : ℕ) {q : List ℕ} → q ≡ puts (each k f) l → k ≤ n → n ≤ k → q ≡ puts (each n f) l
  puts_end k n e a b = rw (le_antisymm a b) at e

-- a store to a place that none of those before it goes to may come first
pub puts_set : (ss : List Store) (l : List ℕ) (p v : ℕ) → Each (λ (st : Store). st.0 ≡ p → ⊥) ss → set (puts ss l) p v ≡ puts ss (set l p v)
unfolding puts
puts_set [] l p v h = refl
puts_set (s ∷ ss) l p v h = puts_set ss (set l s.0 s.1) p v h.1 ∙ ap (λ (x : List ℕ). puts ss x) (set_comm l s.0 p s.1 v h.0)

-- ---- what stands at a place afterwards

-- what it was, where no store goes there
pub puts_other : (ss : List Store) (l : List ℕ) (i : ℕ) → Each (λ s. s.0 ≡ i → ⊥) ss → get_or (puts ss l) i 0 ≡ get_or l i 0
unfolding puts
puts_other [] l i h = refl
puts_other (s ∷ ss) l i h = puts_other ss (set l s.0 s.1) i h.1 ∙ get_or-set_other l s.0 i s.1 0 (λ q. h.0 (sym q))

-- a store to i stores v
abbrev pub Only : ℕ → ℕ → Store → Type 0
Only i v s = s.0 ≡ i → s.1 ≡ v

-- v, where it was v and nothing else is stored there
pub puts_stays : (i v : ℕ) (ss : List Store) (l : List ℕ) → i < length l → Each (Only i v) ss → get_or l i 0 ≡ v → get_or (puts ss l) i 0 ≡ v
unfolding puts
puts_stays i v [] l b h e = e
puts_stays i v (s ∷ ss) l b h e =
    puts_stays i v ss (set l s.0 s.1) (omega (arith, length-set l s.0 s.1)) h.1
    (elim (ℕ_discrete s.0 i) [
      | yes q ↦ rw q (get_or-set_same l i s.1 0 b ∙ h.0 q)
      | no q ↦ get_or-set_other l s.0 i s.1 0 (λ z. q (sym z)) ∙ e
    ])

-- v, where v and nothing else is stored there
pub puts_at : (i v : ℕ) (ss : List Store) (l : List ℕ) → i < length l → Each (Only i v) ss → Some (λ s. s.0 ≡ i) ss → get_or (puts ss l) i 0 ≡ v
unfolding puts
puts_at i v [] l b h e = absurd e
puts_at i v (s ∷ ss) l b h (inl q) =
    puts_stays i v ss (set l s.0 s.1) (omega (arith, length-set l s.0 s.1)) h.1 (rw q (get_or-set_same l i s.1 0 b ∙ h.0 q))
puts_at i v (s ∷ ss) l b h (inr q) = puts_at i v ss (set l s.0 s.1) (omega (arith, length-set l s.0 s.1)) h.1 q

-- ---- the same stores into two lists

-- at a place that both lists have
set_agree_in : (l m : List ℕ) (p v i : ℕ) → i < length l → i < length m → get_or l i 0 ≡ get_or m i 0 → get_or (set l p v) i 0 ≡ get_or (set m p v) i 0
set_agree_in l m p v i hl hm h =
    elim (ℕ_discrete i p) [
      | yes q ↦ rw (← q) (get_or-set_same l i v 0 hl ∙ sym (get_or-set_same m i v 0 hm))
      | no n ↦ get_or-set_other l p i v 0 n ∙ h ∙ sym (get_or-set_other m p i v 0 n)
    ]

pub puts_agree_in : (ss : List Store) (l m : List ℕ) (i : ℕ) → i < length l → i < length m → get_or l i 0 ≡ get_or m i 0 → get_or (puts ss l) i 0 ≡ get_or (puts ss m) i 0
unfolding puts
puts_agree_in [] l m i hl hm h = h
puts_agree_in (s ∷ ss) l m i hl hm h =
    puts_agree_in ss (set l s.0 s.1) (set m s.0 s.1) i
    (omega (arith, length-set l s.0 s.1)) (omega (arith, length-set m s.0 s.1)) (set_agree_in l m s.0 s.1 i hl hm h)

-- at any place, where the lists are as long
set_agree : (l m : List ℕ) (p v i : ℕ) → length l ≡ length m → get_or l i 0 ≡ get_or m i 0 → get_or (set l p v) i 0 ≡ get_or (set m p v) i 0
set_agree l m p v i e h =
    elim (dec_lt i (length l)) [
      | yes b ↦ set_agree_in l m p v i b (rw e at b) h
      | no b ↦ elim (ℕ_discrete i p) [
        | yes q ↦ out q (omega arith)
        | no n ↦ get_or-set_other l p i v 0 n ∙ h ∙ sym (get_or-set_other m p i v 0 n)
      ]
    ]
  where
    out : i ≡ p → length l ≤ i → get_or (set l p v) i 0 ≡ get_or (set m p v) i 0
    out q b = ap (λ (x : List ℕ). get_or x i 0) (set_out l p v (omega arith)) ∙ h ∙ sym (ap (λ (x : List ℕ). get_or x i 0) (set_out m p v (omega arith)))

pub puts_agree : (ss : List Store) (l m : List ℕ) (i : ℕ) → length l ≡ length m → get_or l i 0 ≡ get_or m i 0 → get_or (puts ss l) i 0 ≡ get_or (puts ss m) i 0
unfolding puts
puts_agree [] l m i e h = h
puts_agree (s ∷ ss) l m i e h =
    puts_agree ss (set l s.0 s.1) (set m s.0 s.1) i
    (length-set l s.0 s.1 ∙ e ∙ sym (length-set m s.0 s.1)) (set_agree l m s.0 s.1 i e h)
