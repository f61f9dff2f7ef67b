-- What accepted checks leave in hand for a TU grid: ranges, lengths and good leaves; and the ways out of its start and of an entry that starts so.
-- Assumes nothing.
use mathlib.Core.Path.{◌≡◌, refl, sym, ◌∙◌}
use mathlib.Core.List.{List, [], ◌∷◌}
use mathlib.Core.Bool.{Bool, true, false}
use Prim.Native.Nat.{ℕ, ◌*◌, ◌≤◌}
use lib.ListN.{length}
use borrow.Author.Tests.{leb-true}
use mir.Val.{Fits}
use mir.Syntax.{w64}
use Rattle.laws.specs.Choose.{both, all, both_parts, all_parts}
use Rattle.rules.specs.declared.settings.TuGrid.{TuGrid}
use Rattle.rules.specs.Refusals.{Answer}
use Rattle.std.specs.declared.result.Result.TheVariants.{Ok, Err}
use Rattle.rules.specs.declared.refusals.Refusal.{Refusal}
use Rattle.rules.specs.declared.refusals.Refusal.TheVariants.{Leaf}
use Rattle.rules.specs.Numbers.{subsampling_ok}
use Rattle.rules.specs.Refusals.{or_else, unless, found, settle}
use Rattle.rules.specs.TuGrid.{Marks, cells_ok, fours_ok, bad_leaf, leaves_of, clear_of, blank_of, lists_long, tx_grid_check, tx_grid_after, cleared_after}
use Rattle.checks.proofs.Checks.{checks, else_parts, unless_true, found_nothing, refused_by_holds, accepted_by, settle_refused_by, settle_accepted_by}
use Rattle.tiles.specs.Fit.{Cut, AllGood}
use Rattle.tiles.proofs.Places.{cells_fit}
use Rattle.tiles.proofs.Checked.{cols_most, rows_most, cut_of, all_good}
use Rattle.grid.specs.Fit.{GridFits}
use Rattle.grid.specs.Start.{long_by, check_by, start_check, Started}
use Rattle.grid.specs.Stated.{Stated}
use Rattle.grid.proofs.Painted.{grid_built}

-- the number of cells fits a word once the sizes are accepted
pub tx_cells : (s : TuGrid) → true ≡ both (cells_ok s.cols s.rows) (subsampling_ok s.ssx s.ssy) → Fits w64 (s.rows * s.cols)
tx_cells s e = let p = (both_parts _ _ (sym e)).0 in cells_fit s.rows s.cols (rows_most _ _ p) (cols_most _ _ p)

-- what answers the checks' function
pub ruleset checking = (checks, tx_cells)

-- lists of these lengths are long enough
long_fit : (s : TuGrid) (v h w t k : ℕ) → s.cols ≤ 1024 → s.rows ≤ 1024 → long_by (s.rows * s.cols) v h w t k ≡ true → GridFits s v h w t × (s.rows * s.cols ≤ k)
long_fit s v h w t k a b e =
    let p1 = all_parts _ _ e in
    let p2 = all_parts _ _ p1.1 in
    let p3 = all_parts _ _ p2.1 in
    let p4 = all_parts _ _ p3.1 in
    let p5 = all_parts _ _ p4.1 in
    (record { cols_most = a; rows_most = b; long_v = leb-true _ _ p1.0; long_h = leb-true _ _ p2.0; long_w = leb-true _ _ p3.0; long_t = leb-true _ _ p4.0 }, leb-true _ _ p5.0)

-- ---- the start's ways out, by the answer a of its checks

-- what it needs for lists that start at 0
pub start_fit : (s : TuGrid) (fours : Bool) (nine a : Answer) (v h w t k : ℕ) → a ≡ check_by s fours nine v h w t k → a ≡ Ok tt → GridFits s v h w t × (s.rows * s.cols ≤ k)
unfolding check_by
start_fit s fours nine a v h w t k e f =
    let p1 = else_parts _ _ (sym e ∙ f) in
    let p2 = else_parts _ _ p1.1 in
    let sizes = both_parts _ _ (unless_true _ _ p1.0) in
    long_fit s v h w t k (cols_most _ _ sizes.0) (rows_most _ _ sizes.0) (unless_true _ _ p2.0)

module _ {s : TuGrid} {fours : Bool} {nine a : Answer} {g : Marks} {k : List ℕ} (made : a ≡ start_check s fours nine g k) where
  pub start_refused : {r : Refusal} → a ≡ Err r → Started s fours nine g k (Err r) g k
  start_refused e = record { answer = refused_by_holds _ _ made e; lists = settle_refused_by _ _ _ _ made e; cleared = settle_refused_by _ _ _ _ made e }

  pub start_done : a ≡ Ok tt → {g' : Marks} {k' : List ℕ} → g' ≡ blank_of (s.rows * s.cols) g → k' ≡ clear_of (s.rows * s.cols) k → Started s fours nine g k (Ok tt) g' k'
  start_done e f b = record { answer = accepted_by _ _ made e; lists = settle_accepted_by _ _ _ _ _ made e f; cleared = settle_accepted_by _ _ _ _ _ made e b }

-- ---- the checks of leaves of four numbers

-- a list of tests that hold, or one test after the other
unless_all : (b : Bool) (bs : List Bool) (r : Refusal) (x : Answer) → or_else (unless b r) (or_else (unless (all bs) r) x) ≡ or_else (unless (all (b ∷ bs)) r) x
unfolding all or_else unless
unless_all true bs r x = refl
unless_all false bs r x = refl

-- by what a look through both lists of leaves found
pub check_is : (s : TuGrid) (fours : Bool) (nine : Answer) (ls skips : List ℕ) (g : Marks) (keep : List ℕ) → fours ≡ all (fours_ok (length ls) ∷ fours_ok (length skips) ∷ []) → nine ≡ or_else (found (bad_leaf false ls) Leaf) (found (bad_leaf true skips) Leaf) → start_check s fours nine g keep ≡ tx_grid_check s ls skips g keep
unfolding check_by tx_grid_check lists_long
check_is s fours nine ls skips g keep e f = rw (e, f, unless_all)

-- all that building asks for
tx_accepted : (s : TuGrid) (ls skips : List ℕ) (g : Marks) (keep : List ℕ) → tx_grid_check s ls skips g keep ≡ Ok tt → GridFits s (length g.vedge) (length g.hedge) (length g.sqw) (length g.sqh) × Cut s × AllGood ls × AllGood skips
unfolding tx_grid_check lists_long
tx_accepted s ls skips g keep e =
    let p1 = else_parts _ _ e in
    let p2 = else_parts _ _ p1.1 in
    let p3 = else_parts _ _ p2.1 in
    let p4 = else_parts _ _ p3.1 in
    let sizes = both_parts _ _ (unless_true _ _ p1.0) in
    let lists = all_parts _ _ (unless_true _ _ p2.0) in
    let caps = both_parts _ _ (unless_true _ _ p3.0) in
    let fit = long_fit s _ _ _ _ (length keep) (cols_most _ _ sizes.0) (rows_most _ _ sizes.0) lists.0 in
    (fit.0, cut_of s sizes.1 caps.0 caps.1, all_good false ls (found_nothing _ Leaf p4.0), all_good true skips (found_nothing _ Leaf p4.1))

-- ---- the ways out of an entry whose start left the answer a, the lists g1 and the keep marks k1

module _ {s : TuGrid} {fours : Bool} {nine a : Answer} (ls skips : List ℕ) {g g1 : Marks} {k k1 : List ℕ} (same : start_check s fours nine g k ≡ tx_grid_check s ls skips g k) (p : Started s fours nine g k a g1 k1) where
  -- refused: all lists are as they were lent
  pub after_refused : {r : Refusal} → a ≡ Err r → Stated s ls skips g k (Err r) g1 k1
  unfolding tx_grid_after cleared_after settle
  after_refused f = let e = sym f ∙ p.answer ∙ same in record { answer = e; lists = rw (← e) (rw (same, ← e) at p.lists); cleared = rw (← e) (rw (same, ← e) at p.cleared) }

  module _ (acc : a ≡ Ok tt) where
    all_accepted : tx_grid_check s ls skips g k ≡ Ok tt
    all_accepted = sym (p.answer ∙ same) ∙ acc

    pub all_fit : GridFits s (length g.vedge) (length g.hedge) (length g.sqw) (length g.sqh) × Cut s × AllGood ls × AllGood skips
    all_fit = tx_accepted s ls skips g k all_accepted

    -- accepted: the lists start at 0, and hold the leaves, then the skip leaves
    pub after_accepted : {g3 : Marks} → g3 ≡ leaves_of s true skips (leaves_of s false ls g1) → Stated s ls skips g k (Ok tt) g3 k1
    unfolding tx_grid_after cleared_after settle
    after_accepted c =
        let e = all_accepted in
        record { answer = sym e; lists = rw e (grid_built s ls skips g g1 (rw (same, e) at p.lists) c); cleared = rw e (rw (same, e) at p.cleared) }
