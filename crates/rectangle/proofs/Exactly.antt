-- The entry gives each number exactly when its test fails and those before it hold; and it accepts something, with the marks that it then leaves.
-- Assumes nothing.
use mathlib.Core.Path.{◌≡◌, refl}
use mathlib.Core.List.{List, [], ◌∷◌}
use Prim.Native.Nat.{ℕ}
use Rattle.laws.specs.Choose.{pick, both, all}
use Rattle.laws.specs.Loops.{filled}
use Rattle.rules.specs.declared.settings.Keep.{Keep}
use Rattle.rules.specs.Refusals.{Answer}
use Rattle.std.specs.declared.result.Result.TheVariants.{Ok}
use Rattle.rules.specs.Numbers.{in_range}
use Rattle.rules.specs.Refusals.{or_else, unless, found, settle, sooner, first, found_if, over_top}
use Rattle.rules.specs.TuGrid.{cells_ok}
use Rattle.rules.specs.Plane.{bad_keep}
use Rattle.rules.specs.Keep.{in_rectangle, kept_at, kept_of, keep_check, keep_after}
use Rattle.checks.specs.Exactly.{Exactly}
use Rattle.checks.proofs.Exactly.{exactly}
use Rattle.rectangle.specs.Exactly.{keep_tests}

pub keep_exactly : (s : Keep) (keep : List ℕ) {r : Answer} → r ≡ keep_check s keep → Exactly r (keep_tests s keep)
unfolding keep_check
keep_exactly s keep e = exactly (keep_tests s keep) refl e

-- two rows of three cells, and one more entry
abbrev lent : List ℕ
lent = 1 ∷ 0 ∷ 0 ∷ 0 ∷ 0 ∷ 0 ∷ 7 ∷ []

-- a rectangle in their last column that reaches far beyond it, of so many rows
abbrev last : ℕ → Keep
last h = record { cols = 3; rows = 2; row = 0; col = 2; h = h; w = 9 }

pub keep_accepts : keep_check (last 1) lent ≡ Ok tt
unfolding both in_range or_else unless found sooner first found_if over_top cells_ok bad_keep keep_check
keep_accepts = refl

-- cut to the plane, it keeps one cell, one in each row, or none
pub keep_one : keep_after (last 1) lent ≡ 1 ∷ 0 ∷ 1 ∷ 0 ∷ 0 ∷ 0 ∷ 7 ∷ []
unfolding pick both all filled in_range or_else unless found settle sooner first found_if over_top cells_ok in_rectangle kept_at kept_of bad_keep keep_check keep_after
keep_one = refl

pub keep_each : keep_after (last 9) lent ≡ 1 ∷ 0 ∷ 1 ∷ 0 ∷ 0 ∷ 1 ∷ 7 ∷ []
unfolding pick both all filled in_range or_else unless found settle sooner first found_if over_top cells_ok in_rectangle kept_at kept_of bad_keep keep_check keep_after
keep_each = refl

pub keep_none : keep_after (last 0) lent ≡ lent
unfolding pick both all filled in_range or_else unless found settle sooner first found_if over_top cells_ok in_rectangle kept_at kept_of bad_keep keep_check keep_after
keep_none = refl
