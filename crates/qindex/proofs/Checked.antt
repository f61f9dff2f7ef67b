-- What accepted checks leave in hand for a qindex grid: ranges and lengths.
-- Assumes nothing.
use mathlib.Core.Path.{◌≡◌, sym}
use mathlib.Core.List.{List, [], ◌∷◌}
use mathlib.Core.Bool.{true}
use Prim.Native.Nat.{ℕ, ◌*◌}
use lib.ListN.{length}
use borrow.Author.Tests.{leb-true}
use mir.Val.{Fits}
use mir.Syntax.{w64}
use Rattle.laws.specs.Choose.{all, all_parts}
use Rattle.rules.specs.declared.settings.QindexGrid.{QindexGrid}
use Rattle.std.specs.declared.result.Result.TheVariants.{Ok}
use Rattle.rules.specs.Numbers.{in_range, subsampling_ok}
use Rattle.rules.specs.TuGrid.{cells_ok}
use Rattle.rules.specs.QindexGrid.{q_grid_check}
use Rattle.checks.proofs.Ranges.{in_range_holds}
use Rattle.checks.proofs.Checks.{else_parts, unless_true}
use Rattle.tiles.proofs.Places.{cells_fit}
use Rattle.tiles.proofs.Checked.{cols_most, rows_most, ssx_most, ssy_most}
use Rattle.qindex.specs.Fit.{QFit}

-- the number of cells fits a word once the sizes are accepted
pub q_cells : (s : QindexGrid) → true ≡ all (cells_ok s.cols s.rows ∷ subsampling_ok s.ssx s.ssy ∷ in_range 1 128 s.sbcols ∷ []) → Fits w64 (s.rows * s.cols)
q_cells s e = let p = (all_parts _ _ (sym e)).0 in cells_fit s.rows s.cols (rows_most _ _ p) (cols_most _ _ p)

-- all that building asks for
pub q_accepted : (s : QindexGrid) (sbq q : List ℕ) → q_grid_check s sbq q ≡ Ok tt → QFit s (length sbq) (length q)
unfolding q_grid_check
q_accepted s sbq q e =
    let p = else_parts _ _ e in
    let s1 = all_parts _ _ (unless_true _ _ p.0) in
    let s2 = all_parts _ _ s1.1 in
    let s3 = all_parts _ _ s2.1 in
    let l1 = all_parts _ _ (unless_true _ _ p.1) in
    let l2 = all_parts _ _ l1.1 in
    record {
      cols_most = cols_most _ _ s1.0;
      rows_most = rows_most _ _ s1.0;
      ssx_most = ssx_most _ _ s2.0;
      ssy_most = ssy_most _ _ s2.0;
      sbcols_most = (in_range_holds 1 128 _ s3.0).1;
      some = leb-true _ _ l1.0;
      long = leb-true _ _ l2.0;
    }
