-- `rows_check` meets its contract. Assumes nothing.
use mathlib.Core.Path.{◌∙◌}
use borrow.Author.Rules.{rules}
use Rattle.checks.proofs.Checks.{handed}
use Rattle.rows.proofs.Calls.{spent_refused, settings_refused, counts_refused, new_asks, sample_refused, call_accepted}
use Rattle.rows.proofs.check.rows_check.Goals as goal

pub returns-then-state : goal.returns-then-state
returns-then-state c = λ steps g is. spent_refused _ _ _ _ _ _ c.if-state.true

pub returns-in_err-given : goal.returns-in_err-given
returns-in_err-given c = λ steps g is. handed _ c.from_residual.ensures ∙ settings_refused _ _ _ _ _ _ c.if-state.false is c.in_err-given.was

pub returns-then-not-counts_ok : goal.returns-then-not-counts_ok
returns-then-not-counts_ok c = λ steps g is. counts_refused _ _ _ _ _ _ c.if-state.false is c.in_ok-given.was c.counts_ok.ensures c.if-not-counts_ok.true-raw

pub over_new-over-requires : goal.over_new-over-requires
over_new-over-requires c = new_asks (c.requires c.in_ok-given.was) _ _ c.counts_ok.ensures c.if-not-counts_ok.false-raw

pub returns-in-Some : goal.returns-in-Some
returns-in-Some c = λ steps g is.
    sample_refused _ _ _ _ _ _ c.if-state.false is c.in_ok-given.was c.counts_ok.ensures c.if-not-counts_ok.false-raw c.over_new-over.ensures (search rules)

pub returns : goal.returns
returns c = λ steps g is.
    call_accepted _ _ _ _ _ _ c.if-state.false is c.in_ok-given.was c.counts_ok.ensures c.if-not-counts_ok.false-raw c.over_new-over.ensures (search rules)
