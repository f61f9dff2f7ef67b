-- What accepted checks leave in hand for the marks of a rectangle, and the entry's ways out.
-- Assumes nothing.
use mathlib.Core.Path.{◌≡◌, sym, ◌∙◌}
use mathlib.Core.Bool.{true}
use mathlib.Core.List.{List}
use Prim.Native.Nat.{ℕ, ◌*◌}
use lib.ListN.{length}
use borrow.Author.Tests.{leb-true}
use mir.Val.{Fits}
use mir.Syntax.{w64}
use Rattle.laws.specs.Choose.{both_parts}
use Rattle.rules.specs.declared.settings.Keep.{Keep}
use Rattle.rules.specs.Refusals.{Answer}
use Rattle.std.specs.declared.result.Result.TheVariants.{Ok, Err}
use Rattle.rules.specs.declared.refusals.Refusal.{Refusal}
use Rattle.rules.specs.TuGrid.{cells_ok}
use Rattle.rules.specs.Keep.{kept_of, keep_check, keep_after}
use Rattle.checks.proofs.Ranges.{in_range_holds}
use Rattle.checks.proofs.Checks.{else_parts, unless_true, refused_by_holds, accepted_by, settle_refused_by, settle_accepted_by}
use Rattle.tiles.proofs.Places.{cells_fit}
use Rattle.tiles.proofs.Checked.{cols_most, rows_most}
use Rattle.rectangle.specs.Cut.{RectangleFits}
use Rattle.rectangle.specs.Stated.{Stated}

-- the number of cells fits a word once the sizes are accepted
pub keep_cells : (s : Keep) → true ≡ cells_ok s.cols s.rows → Fits w64 (s.rows * s.cols)
keep_cells s e = cells_fit s.rows s.cols (rows_most _ _ (sym e)) (cols_most _ _ (sym e))

-- all that setting the marks asks for
pub keep_accepted : (s : Keep) (k : List ℕ) → keep_check s k ≡ Ok tt → RectangleFits s (length k)
unfolding keep_check cells_ok
keep_accepted s k e =
    let p = else_parts _ _ e in
    let q = else_parts _ _ p.1 in
    let sizes = both_parts _ _ (unless_true _ _ p.0) in
    record { some = (in_range_holds 1 1024 _ sizes.0).0; cols_most = (in_range_holds 1 1024 _ sizes.0).1; rows_most = (in_range_holds 1 1024 _ sizes.1).1; long = leb-true _ _ (unless_true _ _ q.0) }

-- ---- the entry's ways out, by the answer a of its checks

pub keep_refused : {s : Keep} {k : List ℕ} {a : Answer} {r : Refusal} → a ≡ keep_check s k → a ≡ Err r → Stated s k (Err r) k
unfolding keep_after
keep_refused e f = record { answer = refused_by_holds _ _ e f; marks = settle_refused_by _ _ _ _ e f }

pub keep_fit : (s : Keep) (k : List ℕ) {a : Answer} → a ≡ keep_check s k → a ≡ Ok tt → RectangleFits s (length k)
keep_fit s k e f = keep_accepted s k (sym e ∙ f)

pub keep_stated : {s : Keep} {k n : List ℕ} {a : Answer} → a ≡ keep_check s k → a ≡ Ok tt → n ≡ kept_of s k → Stated s k (Ok tt) n
unfolding keep_after
keep_stated e f g = record { answer = accepted_by _ _ e f; marks = settle_accepted_by _ _ _ _ _ e f g }
