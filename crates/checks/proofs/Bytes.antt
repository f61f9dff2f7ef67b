-- Lists of a byte for each cell: what the loops over them keep, and how many keep marks are enough.
-- Assumes nothing.
use mathlib.Core.Path.{◌≡◌, refl, sym}
use mathlib.Core.List.{List}
use Prim.Native.Nat.{ℕ, ◌+◌, ◌≤◌, ◌<◌, max}
use native.Mathlib.Nat.{zero-add}
use native.Mathlib.Omega.{arith}
use borrow.Author.Rules.{rules}
use lib.ListN.{length, get_or, take}
use lib.Seq.{get_or-take}
use Rattle.laws.specs.Largest.{largest, largest_none, largest_more, largest_end, under_largest}
use Rattle.checks.specs.Asked.{Asked}

pub most_more : (l : List ℕ) (k : ℕ) {m r : ℕ} → m ≡ largest l 0 k → r ≡ max m (get_or l k 0) → r ≡ largest l 0 (k + 1)
most_more l k e f = largest_more l 0 k e (rw (zero-add k) f)

pub ruleset bytes = (rules, largest_none, most_more, largest_end)

-- no number is over the largest
pub under_most : (l : List ℕ) (n k : ℕ) → k < n → get_or l k 0 ≤ largest l 0 n
under_most l n k h = rw (zero-add k) at (under_largest l 0 n k h)

-- none, where the largest of count marks is 0; and else all
pub asked_none : (count : ℕ) (keep : List ℕ) {m : ℕ} → m ≡ largest keep 0 count → m ≡ 0 → Asked count keep 0
asked_none count keep e z = record {
  fits = omega arith;
  same = λ k h. let u : get_or keep k 0 ≡ 0 = omega (arith, under_most keep count k h) in sym u;
}

pub asked_all : (count : ℕ) (keep : List ℕ) → count ≤ length keep → Asked count keep (length keep)
asked_all count keep h = record { fits = omega arith; same = λ k l. get_or-take (length keep) keep k 0 (omega arith) }

pub ruleset askeds = (rules, asked_none, asked_all)
