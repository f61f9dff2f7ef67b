-- Two results that a statement allows are equal: what C is told, with what is left of the lent lists, and with counts.
-- Assumes nothing.
use mathlib.Core.Path.{◌≡◌, sym, ◌∙◌}
use mathlib.Core.List.{List}
use Prim.Native.Nat.{ℕ}
use lib.IntN.{ℤ}
use Rattle.rules.specs.Refusals.{Answer}
use Rattle.answers.specs.Told.{Counted, Told, Reported, FilterTold}

pub counted_unique : {a : Answer} {count : ℕ} {lent : List ℕ} {n m : ℤ} {p q : List ℕ} → Counted a count lent n p → Counted a count lent m q → (n ≡ m) × (p ≡ q)
counted_unique t u = (t.answer ∙ sym u.answer, t.place_is ∙ sym u.place_is)

pub told_unique : {a : Answer} {lent : List ℕ} {n m : ℤ} {p q : List ℕ} → Told a lent n p → Told a lent m q → (n ≡ m) × (p ≡ q)
told_unique = counted_unique

module _ {A : Type 0} {check : Answer} {lent new : A} where
  pub reported_unique : {place : List ℕ} {n m : ℤ} {k l : A} {p q : List ℕ} → Reported check lent new place n k p → Reported check lent new place m l q → (n ≡ m) × (k ≡ l) × (p ≡ q)
  reported_unique t u =
      let e = told_unique t.told u.told in
      (e.0, t.left_is ∙ sym u.left_is, e.1)

  module _ {stored changed : ℕ} where
    pub filter_told_unique : {place counts : List ℕ} {n m : ℤ} {k l : A} {p q s t : List ℕ}
        → FilterTold check lent new stored changed place counts n k p s
        → FilterTold check lent new stored changed place counts m l q t
        → (n ≡ m) × (k ≡ l) × (p ≡ q) × (s ≡ t)
    filter_told_unique t u =
        let e = reported_unique t.reported u.reported in
        (e.0, e.1, e.2, t.counts_are ∙ sym u.counts_are)
