-- What a refused call leaves: the plane always, the state unless a bad sample spends it; that a spent state refuses each further call; and that the statement allows one result.
-- Assumes nothing.
use mathlib.Core.Path.{◌≡◌, sym, ap, ◌∙◌}
use mathlib.Core.Bool.{Bool, true}
use mathlib.Core.List.{List}
use Prim.Native.Nat.{ℕ}
use borrow.Author.Tests.{ne_eqb}
use Rattle.laws.specs.Choose.{pick}
use Rattle.rules.specs.declared.settings.Plane.{Plane}
use Rattle.rules.specs.declared.rows.RowState.{RowState}
use Rattle.rules.specs.declared.rows.RowsAnswer.{RowsAnswer}
use Rattle.rules.specs.declared.refusals.Refusal.{Refusal}
use Rattle.rules.specs.declared.refusals.Refusal.TheVariants.{Spent, Sample}
use Rattle.rules.specs.Refusals.{Answer}
use Rattle.std.specs.declared.result.Result.TheVariants.{Err}
use Rattle.rules.specs.Refusals.{number_of}
use Rattle.rules.specs.Plane.{Grid}
use Rattle.rules.specs.Rows.{rows_check, rows_after, rows_stored, rows_changed, spent_by, state_after, rows_state, rows_final}
use Rattle.checks.proofs.Checks.{settle_refused}
use Rattle.rows.specs.Stated.{Stated}
use Rattle.rows.proofs.Calls.{spent_refused}

module _ {s : Plane} {steps : List ℕ} {g : Grid} {st : RowState} {filled : ℕ} {l : List ℕ} {a : RowsAnswer} {m : List ℕ} (done : Stated s steps g st filled l a m) where
  module _ {r : Refusal} (told : a.answer ≡ Err r) where
    is_refused : rows_check s steps g st filled l ≡ Err r
    is_refused = sym done.answer ∙ told

    -- the plane as that call found it, nothing counted, no row called final
    pub refused_as_lent : (m ≡ l) × (a.stored ≡ 0) × (a.changed ≡ 0) × (a.finalrows ≡ 0)
    unfolding rows_after rows_stored rows_changed rows_final
    refused_as_lent = (
      done.plane ∙ sym (settle_refused _ _ _ (sym is_refused)),
      done.stored ∙ sym (settle_refused _ _ _ (sym is_refused)),
      done.changed ∙ sym (settle_refused _ _ _ (sym is_refused)),
      done.final_rows ∙ sym (settle_refused _ _ _ (sym is_refused)),
    )

    state_by : a.state ≡ spent_by r st
    unfolding rows_state state_after
    state_by = done.state ∙ ap (λ (x : Answer). state_after x st filled) is_refused

    -- "all but 8 leave state and plane unchanged"
    pub state_unchanged : (number_of r ≡ 8 → ⊥) → a.state ≡ st
    unfolding spent_by pick
    state_unchanged n = state_by ∙ ap (λ (b : Bool). pick b (record { held = st.held; spent = true }) st) (ne_eqb (number_of r) 8 n)

  -- 8: "the state is spent", and keeps its held count
  pub sample_spends : {k : ℕ} → a.answer ≡ Err (Sample k) → (a.state.spent ≡ true) × (a.state.held ≡ st.held)
  unfolding spent_by pick
  sample_spends told = (ap (λ (t : RowState). t.spent) (state_by told), ap (λ (t : RowState). t.held) (state_by told))

  -- "and each further call is refused", by 15 and whatever else is lent
  pub spent_stays : st.spent ≡ true → (a.answer ≡ Err Spent) × (a.state ≡ st) × (m ≡ l)
  unfolding spent_by pick
  spent_stays e =
      let told = done.answer ∙ sym (spent_refused s steps g st filled l e) in
      (told, state_by told, (refused_as_lent told).0)

  -- the statement leaves one result
  pub one_result : {b : RowsAnswer} {o : List ℕ} → Stated s steps g st filled l b o
      → (a.answer ≡ b.answer) × (m ≡ o) × (a.stored ≡ b.stored) × (a.changed ≡ b.changed) × (a.state ≡ b.state) × (a.finalrows ≡ b.finalrows)
  one_result y = (
    done.answer ∙ sym y.answer,
    done.plane ∙ sym y.plane,
    done.stored ∙ sym y.stored,
    done.changed ∙ sym y.changed,
    done.state ∙ sym y.state,
    done.final_rows ∙ sym y.final_rows,
  )
