-- `deblock_rows` gives each refusal number, with its place, exactly when its test fails there and those before it hold.
-- Assumes nothing.
use mathlib.Core.Path.{◌≡◌, refl, ◌∙◌}
use mathlib.Core.List.{List}
use Prim.Native.Nat.{ℕ}
use Rattle.rules.specs.declared.settings.Plane.{Plane}
use Rattle.rules.specs.declared.rows.RowState.{RowState}
use Rattle.rules.specs.declared.rows.RowsAnswer.{RowsAnswer}
use Rattle.rules.specs.Refusals.{Answer}
use Rattle.rules.specs.Thresholds.{steps_check, deltas_check}
use Rattle.rules.specs.Plane.{Grid, tiles_check}
use Rattle.rules.specs.Rows.{settings_check, rows_check}
use Rattle.checks.specs.Exactly.{chain, Exactly}
use Rattle.checks.proofs.Exactly.{else_joined, exactly}
use Rattle.rows.specs.Stated.{Stated}
use Rattle.rows_promises.specs.Exactly.{rows_tests}

module _ (s : Plane) (steps : List ℕ) (g : Grid) (st : RowState) (filled : ℕ) (l : List ℕ) where
  rows_chain : rows_check s steps g st filled l ≡ chain (rows_tests s steps g st filled l)
  unfolding rows_check settings_check steps_check deltas_check tiles_check
  rows_chain = simp else_joined

  pub rows_exactly : {a : Answer} → a ≡ rows_check s steps g st filled l → Exactly a (rows_tests s steps g st filled l)
  rows_exactly e = exactly (rows_tests s steps g st filled l) refl (e ∙ rows_chain)

  -- of whatever the entry may answer
  pub stated_exactly : {a : RowsAnswer} {m : List ℕ} → Stated s steps g st filled l a m → Exactly a.answer (rows_tests s steps g st filled l)
  stated_exactly done = rows_exactly done.answer
