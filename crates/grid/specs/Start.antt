-- The checks by what is known of the lists, and the lists that start at 0.
-- Assumes nothing.
use Rattle.std.specs.Prelude.{◌≡◌, Bool, List, [], ◌∷◌, ℕ, ◌*◌, leb, length}
use Rattle.laws.specs.Choose.{both, all}
use Rattle.rules.specs.declared.settings.TuGrid.{TuGrid}
use Rattle.rules.specs.declared.refusals.Refusal.TheVariants.{Size, Length, Setting}
use Rattle.rules.specs.Refusals.{Answer}
use Rattle.rules.specs.Numbers.{subsampling_ok}
use Rattle.rules.specs.Refusals.{or_else, unless, settle}
use Rattle.rules.specs.TuGrid.{Marks, cells_ok, cap_ok, clear_of, blank_of}

-- five lists of these lengths have n entries each
abbrev pub long_by : ℕ → ℕ → ℕ → ℕ → ℕ → ℕ → Bool
long_by n v h w t k = all (leb n v ∷ leb n h ∷ leb n w ∷ leb n t ∷ leb n k ∷ [])

-- the checks in the order 2, 3, 5, 9: fours, that the lists of leaves have four numbers a leaf; nine, refusal 9 of the leaves; four lists and keep marks of these lengths
unfoldable pub check_by : TuGrid → Bool → Answer → ℕ → ℕ → ℕ → ℕ → ℕ → Answer
check_by s fours nine v h w t k =
    or_else (unless (both (cells_ok s.cols s.rows) (subsampling_ok s.ssx s.ssy)) Size)
    (or_else (unless (long_by (s.rows * s.cols) v h w t k) Length)
    (or_else (unless fours Length)
    (or_else (unless (both (cap_ok s.capw) (cap_ok s.caph)) Setting)
    nine)))

abbrev pub start_check : TuGrid → Bool → Answer → Marks → List ℕ → Answer
start_check s fours nine g keep = check_by s fours nine (length g.vedge) (length g.hedge) (length g.sqw) (length g.sqh) (length keep)

-- the answer a of the checks, and the four lists g' and the keep marks k' then, of lists g and keep marks k: they start at 0 where nothing is refused
pub record Started (s : TuGrid) (fours : Bool) (nine : Answer) (g : Marks) (k : List ℕ) (a : Answer) (g' : Marks) (k' : List ℕ) : Type 0 where
  pub answer : a ≡ start_check s fours nine g k
  pub lists : g' ≡ settle (start_check s fours nine g k) g (blank_of (s.rows * s.cols) g)
  pub cleared : k' ≡ settle (start_check s fours nine g k) k (clear_of (s.rows * s.cols) k)
