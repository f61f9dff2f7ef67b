-- The entry's checks are those of the lists of numbers, and what it leaves is what the rules say.
-- Assumes nothing.
use mathlib.Core.Path.{◌≡◌, refl, sym}
use mathlib.Core.Bool.{Bool, true, false}
use mathlib.Core.List.{List}
use Prim.Native.Nat.{ℕ, ◌%◌, ◌≤◌, ◌<◌}
use native.Mathlib.Nat.{le_refl}
use native.Mathlib.Omega.{arith}
use lib.ListN.{length}
use lib.Dec.{ltb}
use borrow.Author.Tests.{lt-ltb, le-ltb}
use Rattle.laws.specs.Choose.{all, is_eq, is_lt, not_lt}
use Rattle.rules.specs.declared.settings.TuGrid.{TuGrid}
use Rattle.rules.specs.declared.refusals.Refusal.{Refusal}
use Rattle.rules.specs.Refusals.{Answer}
use Rattle.std.specs.declared.result.Result.TheVariants.{Ok, Err}
use Rattle.std.specs.declared.option.Option.{Option}
use Rattle.std.specs.declared.option.Option.TheVariants.{Some, None}
use Rattle.rules.specs.Refusals.{first, found_if, found_unless}
use Rattle.rules.specs.TuGrid.{Marks, fours_ok, leaf_good_at, bad_leaf, leaves_of, tx_grid_check}
use Rattle.checks.proofs.First.{at_first, at_not_nothing, found_if_holds, found_if_not}
use Rattle.tiles.specs.Fit.{Cut, AllGood}
use Rattle.grid.specs.Fit.{GridFits}
use Rattle.grid.specs.Start.{start_check, Started}
use Rattle.grid.specs.Stated.{Stated}
use Rattle.grid.proofs.Painted.{lists_painted}
use Rattle.grid.proofs.Checked.{check_is as grid-check, after_refused as grid-refused, after_accepted as grid-accepted, all_fit}
use Rattle.leaves.specs.declared.records.Leaf.{Leaf}
use Rattle.leaves.specs.Records.{flat, place_or, good_of, bad_after, leaves_check}
use Rattle.leaves.proofs.Flat.{flat_length, flat_count}

-- ---- refusal 9

-- one of n leaves is bad, and none
pub after_bad : (n good : ℕ) → good < n → Some good ≡ bad_after n good
unfolding bad_after
after_bad n good h = found_if_holds _ good (is_lt good n h)

pub after_good : (n good : ℕ) → n ≤ good → None ≡ bad_after n good
unfolding bad_after
after_good n good h = found_if_not _ good (not_lt good n h)

at_same : (t : Bool) (j k : ℕ) → found_unless t j ≡ Some k → j ≡ k
unfolding found_unless
at_same true j k e = at_not_nothing (sym e)
at_same false j k e = cc

-- what stands before the first bad one says where it is
bad_after_holds : (skip : Bool) (ls : List Leaf) → bad_after (length ls) (good_of skip ls) ≡ bad_leaf skip (flat ls)
unfolding bad_after good_of bad_leaf place_or found_if
bad_after_holds skip ls = rw (flat_count ls) (go (first (length ls) bad) refl)
  where
    bad : ℕ → Option ℕ
    bad k = found_unless (leaf_good_at skip (flat ls) k) k

    go : (f : Option ℕ) → first (length ls) bad ≡ f → found_if (ltb (place_or f (length ls)) (length ls)) (place_or f (length ls)) ≡ f
    go (Some k) e = let p = at_first bad (length ls) k e in let q = at_same (leaf_good_at skip (flat ls) p.0) p.0 k p.2 in rw (lt-ltb k (length ls) (rw q at p.1))
    go None e = rw (le-ltb (length ls) (length ls) (le_refl (length ls)))

-- ---- refusal 3

fours : (ls : List Leaf) → fours_ok (length (flat ls)) ≡ true
unfolding fours_ok
fours ls = let e = flat_length ls in sym (is_eq (length (flat ls) % 4) 0 (omega arith))

-- ---- the whole

-- the checks, told that no list of records is cut short, and where its first bad one is
pub check_is : (s : TuGrid) (ls skips : List Leaf) (g : Marks) (keep : List ℕ) → start_check s true (leaves_check (length ls) (good_of false ls) (length skips) (good_of true skips)) g keep ≡ tx_grid_check s (flat ls) (flat skips) g keep
unfolding leaves_check all
check_is s ls skips g keep = grid-check s true _ (flat ls) (flat skips) g keep (rw (fours ls, fours skips)) (rw (bad_after_holds false ls, bad_after_holds true skips))

-- the grid's start, by another word for refusal 9
pub started_by : (nine nine' : Answer) {s : TuGrid} {fours : Bool} {g g' : Marks} {k k' : List ℕ} {a : Answer} → nine ≡ nine' → Started s fours nine g k a g' k' → Started s fours nine' g k a g' k'
started_by nine nine' e p = rw e at p

-- ---- the entry's ways out, where `start` left the answer a, the lists g1 and the keep marks k1

module _ (s : TuGrid) (nine : Answer) (ls skips : List Leaf) (g g1 : Marks) (k k1 : List ℕ) (same : start_check s true nine g k ≡ tx_grid_check s (flat ls) (flat skips) g k) where
  pub after_refused : {r : Refusal} → Started s true nine g k (Err r) g1 k1 → Stated s (flat ls) (flat skips) g k (Err r) g1 k1
  after_refused p = grid-refused (flat ls) (flat skips) same p refl

  module _ (p : Started s true nine g k (Ok tt) g1 k1) where
    pub all_accepted : GridFits s (length g.vedge) (length g.hedge) (length g.sqw) (length g.sqh) × Cut s × AllGood (flat ls) × AllGood (flat skips)
    all_accepted = all_fit (flat ls) (flat skips) same p refl

    pub after_accepted : (g2 : Marks) {g3 : Marks} → g2 ≡ leaves_of s false (flat ls) g1 → g3 ≡ leaves_of s true (flat skips) g2 → Stated s (flat ls) (flat skips) g k (Ok tt) g3 k1
    after_accepted g2 b c = grid-accepted (flat ls) (flat skips) same p refl (lists_painted s (flat ls) (flat skips) g1 g2 b c)
