-- `settings_check` meets its contract. Assumes nothing.
use mathlib.Core.List.{[]}
use mathlib.Core.Path.{refl, ◌∙◌}
use Rattle.laws.specs.Choose.{told_yes_not, told_no_not}
use Rattle.checks.proofs.Checks.{stop, go_on, handed, unless_bad, unless_good}
use Rattle.rules.specs.Rows.{settings_check}
use Rattle.plane_checks.proofs.Accepted.{sizes_by}
use Rattle.plane.proofs.Accepting.{sized_by}
use Rattle.plane.proofs.Settings.{deltas_read, past_lengths, past_deltas}
use Rattle.plane.proofs.check.settings_check.Goals as goal

pub returns-then-not-is : goal.returns-then-not-is
unfolding settings_check
returns-then-not-is c = stop _ _ (unless_bad _ _ (told_no_not _ _ c.is.ensures c.if-not-is.true-raw))

pub returns-then-not-sizes_ok : goal.returns-then-not-sizes_ok
unfolding settings_check
returns-then-not-sizes_ok c = go_on _ _ _ (unless_good _ _ (told_yes_not _ _ c.is.ensures c.if-not-is.false-raw)) (stop _ _ (unless_bad _ _ (told_no_not _ _ c.sizes_ok.ensures c.if-not-sizes_ok.true-raw)))

pub lengths_ok-requires : goal.lengths_ok-requires
lengths_ok-requires c = sizes_by _ _ c.sizes_ok.ensures c.if-not-sizes_ok.false-raw

pub returns-then-not-lengths_ok : goal.returns-then-not-lengths_ok
unfolding settings_check
returns-then-not-lengths_ok c = go_on _ _ _ (unless_good _ _ (told_yes_not _ _ c.is.ensures c.if-not-is.false-raw)) (go_on _ _ _ (unless_good _ _ (told_yes_not _ _ c.sizes_ok.ensures c.if-not-sizes_ok.false-raw)) (stop _ _ (unless_bad _ _ (told_no_not _ _ (c.lengths_ok.ensures _) c.if-not-lengths_ok.true-raw))))

pub returns-in_err-steps_check : goal.returns-in_err-steps_check
returns-in_err-steps_check c =
    handed _ c.from_residual.ensures ∙ past_lengths _ _ _ _ c.is.ensures c.if-not-is.false-raw
    c.sizes_ok.ensures c.if-not-sizes_ok.false-raw
    (c.lengths_ok.ensures _) c.if-not-lengths_ok.false-raw
    (stop _ _ c.in_err-steps_check.ensures)

pub returns-in_err-deltas_check : goal.returns-in_err-deltas_check
returns-in_err-deltas_check c =
    handed _ c.from_residual-in_err-deltas_check.ensures ∙ past_lengths _ _ _ _ c.is.ensures c.if-not-is.false-raw
    c.sizes_ok.ensures c.if-not-sizes_ok.false-raw
    (c.lengths_ok.ensures _) c.if-not-lengths_ok.false-raw
    (go_on _ _ _ c.in_ok-steps_check.ensures (stop _ _ (deltas_read (record { sfits = c.struct_told-2-1.given.1.1.1.1.1.1.1.1.1.0.1 })
    (record { sfits = c.struct_told-2-1.given.1.1.1.1.1.1.1.1.1.1.0.1 }) c.in_err-deltas_check.ensures)))

pub returns-in_err-tiles_check : goal.returns-in_err-tiles_check
returns-in_err-tiles_check c =
    handed _ c.from_residual-in_err-tiles_check.ensures ∙ past_deltas _ _ _ _ c.is.ensures c.if-not-is.false-raw
    c.sizes_ok.ensures c.if-not-sizes_ok.false-raw
    (c.lengths_ok.ensures _) c.if-not-lengths_ok.false-raw
    c.in_ok-steps_check.ensures refl
    (deltas_read (record { sfits = c.struct_told-2-1.given.1.1.1.1.1.1.1.1.1.0.1 }) (record { sfits = c.struct_told-2-1.given.1.1.1.1.1.1.1.1.1.1.0.1 }) c.in_ok-deltas_check.ensures) refl
    (stop _ _ c.in_err-tiles_check.ensures)

pub grid_check-requires : goal.grid_check-requires
grid_check-requires c =
    let z = sized_by _ _ _ _ _ [] _
    c.is.ensures
    c.if-not-is.false-raw
    c.sizes_ok.ensures
    c.if-not-sizes_ok.false-raw
    (c.lengths_ok.ensures _)
    c.if-not-lengths_ok.false-raw in
    (z.sizes_ok, z.lists_long)

pub returns : goal.returns
returns c =
    past_deltas _ _ _ _ c.is.ensures c.if-not-is.false-raw
    c.sizes_ok.ensures c.if-not-sizes_ok.false-raw
    (c.lengths_ok.ensures _) c.if-not-lengths_ok.false-raw
    c.in_ok-steps_check.ensures refl
    (deltas_read (record { sfits = c.struct_told-2-1.given.1.1.1.1.1.1.1.1.1.0.1 }) (record { sfits = c.struct_told-2-1.given.1.1.1.1.1.1.1.1.1.1.0.1 }) c.in_ok-deltas_check.ensures) refl
    (go_on _ _ _ c.in_ok-tiles_check.ensures (c.grid_check.ensures _))
