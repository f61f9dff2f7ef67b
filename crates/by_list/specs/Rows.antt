-- What the entry of a call on filled rows tells C, with its settings and its state as lists of numbers.
-- Assumes nothing.
use Rattle.std.specs.Prelude.{◌≡◌, false, List, ℕ, leb, eqb, length, get_or, set, ℤ}
use Rattle.laws.specs.Choose.{pick}
use Rattle.rules.specs.declared.rows.RowState.{RowState}
use Rattle.rules.specs.declared.refusals.Refusal.TheVariants.{Length, Spent}
use Rattle.rules.specs.Refusals.{Answer}
use Rattle.std.specs.declared.result.Result.TheVariants.{Ok, Err}
use Rattle.rules.specs.Refusals.{number_of, or_else, unless, settle}
use Rattle.rules.specs.Plane.{Grid}
use Rattle.rules.specs.Rows.{rows_check, rows_after, rows_stored, rows_changed, rows_final}
use Rattle.answers.specs.Told.{tallied, Counted}
use Rattle.numbers.specs.Settings.{plane_of}
use Rattle.by_list.specs.Planes.{list_check}

-- ---- the state as a list of two numbers: the held count, and 0 where it is not spent

-- a list of fewer is one shorter than needed, refused before all else, since no state can be read from it; then "order 15, then 1 to 7": the settings' own list comes after 15
unfoldable pub lists_check : List ℤ → List ℕ → Answer
lists_check settings st = or_else (unless (leb 2 (length st)) Length) (or_else (unless (eqb (get_or st 1 0) 0) Spent) (list_check settings))

-- the state of a list that is not spent
abbrev pub unspent : List ℕ → RowState
unspent st = record { held = get_or st 0 0; spent = false }

-- a state put into the list of one that was not spent
unfoldable pub held_by : RowState → List ℕ → List ℕ
held_by t st = pick t.spent (set (set st 0 t.held) 1 1) (set st 0 t.held)

-- ---- a call

unfoldable pub c_rows_check : List ℤ → List ℕ → Grid → List ℕ → ℕ → List ℕ → Answer
c_rows_check settings steps g st filled l = or_else (lists_check settings st) (rows_check (plane_of settings) steps g (unspent st) filled l)

-- what the lists refuse leaves the plane and counts nothing; any other call does as the rules say
unfoldable pub c_rows_plane : List ℤ → List ℕ → Grid → List ℕ → ℕ → List ℕ → List ℕ
c_rows_plane settings steps g st filled l = settle (lists_check settings st) l (rows_after (plane_of settings) steps g (unspent st) filled l)

unfoldable pub c_rows_stored : List ℤ → List ℕ → Grid → List ℕ → ℕ → List ℕ → ℕ
c_rows_stored settings steps g st filled l = settle (lists_check settings st) 0 (rows_stored (plane_of settings) steps g (unspent st) filled l)

unfoldable pub c_rows_changed : List ℤ → List ℕ → Grid → List ℕ → ℕ → List ℕ → ℕ
c_rows_changed settings steps g st filled l = settle (lists_check settings st) 0 (rows_changed (plane_of settings) steps g (unspent st) filled l)

unfoldable pub c_rows_final : List ℤ → List ℕ → Grid → List ℕ → ℕ → List ℕ → ℕ
c_rows_final settings steps g st filled l = settle (lists_check settings st) 0 (rows_final (plane_of settings) steps g (unspent st) filled l)

-- the list of the state afterwards: an accepted call holds the new count, 8 spends the state and keeps its held count, "all but 8 leave state and plane unchanged"
unfoldable pub state_left : Answer → List ℕ → ℕ → List ℕ
state_left (Ok tt) st filled = set st 0 filled
state_left (Err r) st filled = pick (eqb (number_of r) 8) (set st 1 1) st

-- what C is told: how many rows from the top are final, or minus the refusal number
pub record RowsTold (settings : List ℤ) (steps : List ℕ) (g : Grid) (st : List ℕ) (filled : ℕ) (l place counts : List ℕ) (n : ℤ) (m t placed tally : List ℕ) : Type 0 where
  pub told : Counted (c_rows_check settings steps g st filled l) (c_rows_final settings steps g st filled l) place n placed
  pub plane : m ≡ c_rows_plane settings steps g st filled l
  pub state : t ≡ state_left (c_rows_check settings steps g st filled l) st filled
  pub counts_are : tally ≡ tallied (c_rows_stored settings steps g st filled l) (c_rows_changed settings steps g st filled l) counts
