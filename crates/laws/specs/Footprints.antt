-- Operations on a list that look only at the places of a footprint R and change only those of a footprint W, and when two commute.
-- A footprint is a test of places. Assumes nothing.
use Rattle.std.specs.Prelude.{◌≡◌, refl, Bool, not, List, [], ◌∷◌, ℕ, length, get_or, set, T}
use Rattle.std.proofs.Common.{sym, ap, ◌∙◌, subst, T_not, ext_get_or, get_or-set_other}
use Rattle.std.proofs.Math.Dec.{not_T}
use Rattle.laws.specs.Tests.{choose}
use Rattle.laws.specs.Lists.{Each}
use Rattle.laws.specs.Stores.{Store, puts, puts_length, puts_agree}

-- the two lists have the same numbers at the places of R
abbrev pub Agree : (ℕ → Bool) → List ℕ → List ℕ → Type 0
Agree R l m = (i : ℕ) → T (R i) → get_or l i 0 ≡ get_or m i 0

-- no place is in both
abbrev pub Disjoint : (ℕ → Bool) → (ℕ → Bool) → Type 0
Disjoint P Q = (i : ℕ) → T (P i) → T (Q i) → ⊥

-- f looks at R, changes W, which lies in R, and keeps the length
pub record Local (R : ℕ → Bool) (W : ℕ → Bool) (f : List ℕ → List ℕ) : Type 0 where
  pub within : (i : ℕ) → T (W i) → T (R i)
  pub keeps : (l : List ℕ) → length (f l) ≡ length l
  pub frame : (l : List ℕ) (i : ℕ) → T (not (W i)) → get_or (f l) i 0 ≡ get_or l i 0
  pub reads : (l m : List ℕ) → length l ≡ length m → Agree R l m → (i : ℕ) → T (W i) → get_or (f l) i 0 ≡ get_or (f m) i 0

-- the results agree on all of R too
pub reads_all : (R W : ℕ → Bool) (f : List ℕ → List ℕ) → Local R W f → (l m : List ℕ) → length l ≡ length m → Agree R l m → Agree R (f l) (f m)
reads_all R W f a l m e h i r =
    choose (W i) (λ w. a.reads l m e h i w) (λ w. a.frame l i w ∙ h i r ∙ sym (a.frame m i w))

-- what writes outside R leaves R as it was
pub untouched : (R W : ℕ → Bool) (R' : ℕ → Bool) (f : List ℕ → List ℕ) → Local R W f → Disjoint W R' → (l : List ℕ) → Agree R' (f l) l
untouched R W R' f a d l i r = a.frame l i (not_T (W i) (λ w. d i w r))

module _ (R₁ W₁ R₂ W₂ : ℕ → Bool) (f g : List ℕ → List ℕ) (a : Local R₁ W₁ f) (b : Local R₂ W₂ g) (d : Disjoint W₁ R₂) (e : Disjoint W₂ R₁) where
  commute_at : (l : List ℕ) (i : ℕ) → T (W₁ i) → get_or (f (g l)) i 0 ≡ get_or (g (f l)) i 0
  commute_at l i w =
      a.reads (g l) l (b.keeps l) (untouched R₂ W₂ R₁ g b e l) i w
      ∙ sym (b.frame (f l) i (not_T (W₂ i) (λ v. d i w (b.within i v))))

pub commute : (R₁ W₁ R₂ W₂ : ℕ → Bool) (f g : List ℕ → List ℕ) → Local R₁ W₁ f → Local R₂ W₂ g → Disjoint W₁ R₂ → Disjoint W₂ R₁
    → (l : List ℕ) → f (g l) ≡ g (f l)
commute R₁ W₁ R₂ W₂ f g a b d e l =
    ext_get_or 0 (f (g l)) (g (f l)) (a.keeps (g l) ∙ b.keeps l ∙ sym (b.keeps (f l) ∙ a.keeps l))
    (λ i _. choose (W₁ i) (commute_at R₁ W₁ R₂ W₂ f g a b d e l i)
    (λ v. choose (W₂ i) (λ w. sym (commute_at R₂ W₂ R₁ W₁ g f b a e d l i w))
    (λ w. a.frame (g l) i v ∙ b.frame l i w ∙ sym (b.frame (f l) i w ∙ a.frame l i v))))

-- ---- ways to make one

-- larger sets
pub widen : (R W R' W' : ℕ → Bool) (f : List ℕ → List ℕ) → Local R W f
    → ((i : ℕ) → T (R i) → T (R' i)) → ((i : ℕ) → T (W i) → T (W' i)) → ((i : ℕ) → T (W' i) → T (R' i)) → Local R' W' f
widen R W R' W' f a hr hw hs = record {
  within = hs;
  keeps = a.keeps;
  frame = λ l i n. a.frame l i (not_T (W i) (λ w. T_not (W' i) n (hw i w)));
  reads = λ l m e h i w. reads_all R' W f (record { within = λ j v. hs j (hw j v); keeps = a.keeps; frame = a.frame; reads = λ l' m' e' h' j v. a.reads l' m' e' (λ k r. h' k (hr k r)) j v }) l m e h i (hs i w);
}

-- one after the other
pub and_after : (R W : ℕ → Bool) (f g : List ℕ → List ℕ) → Local R W f → Local R W g → Local R W (λ l. g (f l))
and_after R W f g a b = record {
  within = a.within;
  keeps = λ l. b.keeps (f l) ∙ a.keeps l;
  frame = λ l i n. b.frame (f l) i n ∙ a.frame l i n;
  reads = λ l m e h. b.reads (f l) (f m) (a.keeps l ∙ e ∙ sym (a.keeps m)) (reads_all R W f a l m e h);
}

-- ---- an operation that is a list of stores

-- stores that fall in W leave the rest
pub puts_frame : (W : ℕ → Bool) (ss : List Store) → Each (λ s. T (W s.0)) ss → (l : List ℕ) (i : ℕ) → T (not (W i)) → get_or (puts ss l) i 0 ≡ get_or l i 0
unfolding puts
puts_frame W [] h l i n = refl
puts_frame W (s ∷ ss) h l i n =
    puts_frame W ss h.1 (set l s.0 s.1) i n
    ∙ get_or-set_other l s.0 i s.1 0 (λ q. T_not (W i) n (subst (λ (k : ℕ). T (W k)) (sym q) h.0))

-- an operation whose stores depend on R alone and fall in W
pub local_puts : (R W : ℕ → Bool) (stores : List ℕ → List Store)
    → ((i : ℕ) → T (W i) → T (R i))
    → ((l m : List ℕ) → length l ≡ length m → Agree R l m → stores l ≡ stores m)
    → ((l : List ℕ) → Each (λ s. T (W s.0)) (stores l))
    → Local R W (λ l. puts (stores l) l)
local_puts R W stores hs hr hw = record {
  within = hs;
  keeps = λ l. puts_length (stores l) l;
  frame = λ l i n. puts_frame W (stores l) (hw l) l i n;
  reads = λ l m e h i w. ap (λ (ss : List Store). get_or (puts ss l) i 0) (hr l m e h) ∙ puts_agree (stores m) l m i e (h i (hs i w));
}
