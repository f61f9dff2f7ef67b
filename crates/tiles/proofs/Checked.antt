-- What accepted checks leave in hand: ranges, caps and good leaves.
-- Assumes nothing.
use mathlib.Core.Path.{◌≡◌}
use mathlib.Core.List.{List}
use mathlib.Core.Bool.{Bool, true, false}
use mathlib.Core.Logic.{⊎_elim}
use Prim.Native.Nat.{ℕ, ◌/◌, ◌≤◌}
use native.Mathlib.Omega.{arith}
use lib.ListN.{length}
use lib.Dec.{leb}
use borrow.Author.Tests.{leb-true, eqb-true}
use Rattle.laws.specs.Choose.{both_parts, either_parts}
use Rattle.rules.specs.declared.settings.TuGrid.{TuGrid}
use Rattle.std.specs.declared.option.Option.TheVariants.{None}
use Rattle.rules.specs.Numbers.{subsampling_ok}
use Rattle.rules.specs.Refusals.{found_unless}
use Rattle.rules.specs.TuGrid.{cells_ok, cap_ok, leaf_good_at, bad_leaf}
use Rattle.checks.proofs.First.{nothing_all, unless_nothing}
use Rattle.checks.proofs.Ranges.{in_range_holds}
use Rattle.tiles.specs.Fit.{Cut, AllGood}
use Rattle.tiles.proofs.Leaves.{leaf_good_holds}

-- ---- sizes

pub cols_most : (cols rows : ℕ) → cells_ok cols rows ≡ true → cols ≤ 1024
unfolding cells_ok
cols_most cols rows e = (in_range_holds 1 1024 cols (both_parts _ _ e).0).1

pub rows_most : (cols rows : ℕ) → cells_ok cols rows ≡ true → rows ≤ 1024
unfolding cells_ok
rows_most cols rows e = (in_range_holds 1 1024 rows (both_parts _ _ e).1).1

pub ssx_most : (ssx ssy : ℕ) → subsampling_ok ssx ssy ≡ true → ssx ≤ 1
unfolding subsampling_ok
ssx_most ssx ssy e = leb-true _ _ (both_parts _ _ e).0

pub ssy_most : (ssx ssy : ℕ) → subsampling_ok ssx ssy ≡ true → ssy ≤ 1
unfolding subsampling_ok
ssy_most ssx ssy e =
    let p = both_parts (leb ssx 1) (leb ssy ssx) e in
    omega (arith, leb-true ssx 1 p.0, leb-true ssy ssx p.1)

-- ---- caps

-- a property of 1, 2, 4, 8 and 16 is one of every cap
pub by_cap : (P : ℕ → Type 0) → P 1 → P 2 → P 4 → P 8 → P 16 → (n : ℕ) → cap_ok n ≡ true → P n
unfolding cap_ok
by_cap P a b c d e n h =
    ⊎_elim (λ q. rw (eqb-true n 1 q) a) (λ h.
    ⊎_elim (λ q. rw (eqb-true n 2 q) b) (λ h.
    ⊎_elim (λ q. rw (eqb-true n 4 q) c) (λ h.
    ⊎_elim (λ q. rw (eqb-true n 8 q) d) (λ q. rw (eqb-true n 16 q) e)
    (either_parts _ _ h)) (either_parts _ _ h)) (either_parts _ _ h)) (either_parts _ _ h)

cap_some : (n : ℕ) → cap_ok n ≡ true → 1 ≤ n
cap_some = by_cap (λ n. 1 ≤ n) (omega arith) (omega arith) (omega arith) (omega arith) (omega arith)

pub cut_of : (s : TuGrid) → subsampling_ok s.ssx s.ssy ≡ true → cap_ok s.capw ≡ true → cap_ok s.caph ≡ true → Cut s
cut_of s e a b = record { ssx_most = ssx_most _ _ e; ssy_most = ssy_most _ _ e; some_w = cap_some _ a; some_h = cap_some _ b }

-- ---- leaves

-- a list in which no leaf is bad
pub all_good : (skip : Bool) (ls : List ℕ) → bad_leaf skip ls ≡ None → AllGood ls
unfolding bad_leaf leaf_good_at
all_good skip ls e =
    record { each = λ k h. leaf_good_holds skip _ _ _ _ (unless_nothing _ k (nothing_all (λ j. found_unless (leaf_good_at skip ls j) j) (length ls / 4) e k h)) }
