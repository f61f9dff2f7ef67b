-- `lists_check` asks for the state's length, whether it is spent, and then for what the settings give. Assumes nothing.
use Rattle.by_list.proofs.States.{state_short, state_spent, state_good}
use borrow.Author.Rules.{rules}
use native.Mathlib.Omega.{arith}
use Rattle.by_list.proofs.filled_rows.lists_check.Goals as goal

pub returns-then-state-lt2 : goal.returns-then-state-lt2
returns-then-state-lt2 c = state_short _ _ c.if-state-lt2.true

pub returns-then-spent-gt0 : goal.returns-then-spent-gt0
returns-then-spent-gt0 c = state_spent _ _ c.if-state-lt2.false (λ e. omega (arith, e, c.if-spent-gt0.true))

pub returns : goal.returns
returns c = state_good _ _ c.if-state-lt2.false (omega (arith, c.if-spent-gt0.false)) c.list_check.ensures
