-- All that the entry states. Assumes nothing.
use Rattle.std.specs.Prelude.{◌≡◌, List, ℕ}
use Rattle.rules.specs.declared.settings.Plane.{Plane}
use Rattle.rules.specs.declared.rows.RowState.{RowState}
use Rattle.rules.specs.declared.rows.RowsAnswer.{RowsAnswer}
use Rattle.rules.specs.Plane.{Grid}
use Rattle.rules.specs.Rows.{rows_check, rows_after, rows_stored, rows_changed, rows_state, rows_final}

-- its answer a, with the counts, the next state and the rows called final, and the plane m afterwards, of a state st, a new count and a plane l
pub record Stated (s : Plane) (steps : List ℕ) (g : Grid) (st : RowState) (filled : ℕ) (l : List ℕ) (a : RowsAnswer) (m : List ℕ) : Type 0 where
  pub answer : a.answer ≡ rows_check s steps g st filled l
  pub plane : m ≡ rows_after s steps g st filled l
  pub stored : a.stored ≡ rows_stored s steps g st filled l
  pub changed : a.changed ≡ rows_changed s steps g st filled l
  pub state : a.state ≡ rows_state s steps g st filled l
  pub final_rows : a.finalrows ≡ rows_final s steps g st filled l
