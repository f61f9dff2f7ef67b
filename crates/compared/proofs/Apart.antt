-- The search for the first entry at which two records differ, and what is said at each way out.
-- Assumes nothing.
use mathlib.Core.Path.{◌≡◌, sym, ap, ap₂, ◌∙◌}
use mathlib.Core.Bool.{Bool, true, false, not}
use mathlib.Core.List.{List}
use Prim.Native.Nat.{ℕ, ◌+◌, ◌≤◌, ◌<◌, min}
use native.Mathlib.Omega.{arith}
use Rattle.laws.specs.Choose.{pick_yes, pick_no, is_lt, not_lt, told_yes_not, told_no_not}
use Rattle.rules.specs.declared.edge.Edge.{Edge}
use Rattle.std.specs.declared.option.Option.{Option}
use Rattle.std.specs.declared.option.Option.TheVariants.{Some, None}
use Rattle.rules.specs.Refusals.{first, found_unless}
use Rattle.rules.specs.Record.{entry_count}
use Rattle.checks.proofs.First.{first_more, first_found, first_end, found_unless_holds, found_unless_not, at_first, at_not_nothing}
use Rattle.compared.specs.declared.beside.Difference.TheVariants.{Equal, Edges, FirstGoesOn, SecondGoesOn}
use Rattle.compared.specs.Compare.{same_numbers, edge_of, first_difference, said_of, difference_of}

-- ---- the search

abbrev pub apart : List ℕ → List ℕ → ℕ → Option ℕ
apart a b k = found_unless (same_numbers (edge_of a k) (edge_of b k)) k

module _ (a b : List ℕ) (k : ℕ) (before : first k (apart a b) ≡ None) where
  module _ {e f : Edge} {u : Bool} (is : e ≡ edge_of a k) (other : f ≡ edge_of b k) (says : u ≡ same_numbers e f) where
    asked : u ≡ same_numbers (edge_of a k) (edge_of b k)
    asked = says ∙ ap₂ same_numbers is other

    pub apart_more : not u ≡ false → first (k + 1) (apart a b) ≡ None
    apart_more ok = first_more (apart a b) k before (found_unless_not _ k (told_yes_not _ _ asked ok))

    pub apart_found : (n : ℕ) → n ≡ min (entry_count a) (entry_count b) → not u ≡ true → k < n → Some k ≡ first_difference a b
    unfolding first_difference
    apart_found n all bad h = first_found (apart a b) k _ before (found_unless_holds _ k (told_no_not _ _ asked bad)) (rw all at h)

  pub apart_end : (n : ℕ) → n ≡ min (entry_count a) (entry_count b) → k ≤ n → n ≤ k → None ≡ first_difference a b
  unfolding first_difference
  apart_end n all h g = first_end (apart a b) k _ before (rw all at h) (rw all at g)

unless_at : (t : Bool) (j : ℕ) {k : ℕ} → found_unless t j ≡ Some k → j ≡ k
unfolding found_unless
unless_at true j e = at_not_nothing (sym e)
unless_at false j e = cc

-- ---- what is said

module _ (a b : List ℕ) {r : Option ℕ} (sought : r ≡ first_difference a b) where
  -- both records have the entry that was found
  inside : {k : ℕ} → r ≡ Some k → (k < entry_count a) × (k < entry_count b)
  unfolding first_difference
  inside {k} e =
      let f = at_first (apart a b) (min (entry_count a) (entry_count b)) k (sym sought ∙ e) in
      let here : f.0 ≡ k = unless_at _ f.0 f.2 in
      let below = f.1 in
      (omega arith, omega arith)

  pub first_has : {k : ℕ} → r ≡ Some k → k < entry_count a
  first_has e = (inside e).0

  pub second_has : {k : ℕ} → r ≡ Some k → k < entry_count b
  second_has e = (inside e).1

  pub edges_said : {k : ℕ} {e f : Edge} → r ≡ Some k → e ≡ edge_of a k → f ≡ edge_of b k → Edges k e f ≡ difference_of a b
  unfolding difference_of said_of
  edges_said {k} found is other = ap₂ (λ (x y : Edge). Edges k x y) is other ∙ ap (said_of a b) (sym found ∙ sought)

  module _ {n m : ℕ} (none : r ≡ None) (first_count : n ≡ entry_count a) (second-count : m ≡ entry_count b) where
    alike : said_of a b None ≡ difference_of a b
    unfolding difference_of
    alike = ap (said_of a b) (sym none ∙ sought)

    pub first_said : {e : Edge} → m < n → e ≡ edge_of a m → FirstGoesOn m e ≡ difference_of a b
    unfolding said_of
    first_said {e} h is =
        let more : entry_count b < entry_count a = omega arith in
        pick_yes _ _ _ _ (is_lt _ _ more) (ap (λ (x : Edge). FirstGoesOn m x) is ∙ ap (λ (x : ℕ). FirstGoesOn x (edge_of a x)) second-count) ∙ alike

    pub second_said : {e : Edge} → n ≤ m → n < m → e ≡ edge_of b n → SecondGoesOn n e ≡ difference_of a b
    unfolding said_of
    second_said {e} g h is =
        let less : entry_count a ≤ entry_count b = omega arith in
        let more : entry_count a < entry_count b = omega arith in
        pick_no _ _ _ _ (not_lt _ _ less) (pick_yes _ _ _ _ (is_lt _ _ more) (ap (λ (x : Edge). SecondGoesOn n x) is ∙ ap (λ (x : ℕ). SecondGoesOn x (edge_of b x)) first_count)) ∙ alike

    pub equal_said : n ≤ m → m ≤ n → Equal n ≡ difference_of a b
    unfolding said_of
    equal_said g h =
        let less : entry_count a ≤ entry_count b = omega arith in
        let more : entry_count b ≤ entry_count a = omega arith in
        pick_no _ _ _ _ (not_lt _ _ less) (pick_no _ _ _ _ (not_lt _ _ more) (ap Equal first_count)) ∙ alike
