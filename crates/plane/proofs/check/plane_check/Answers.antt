-- `plane_check` meets its contract. Assumes nothing.
use mathlib.Core.Path.{refl, sym, ◌∙◌}
use borrow.Author.Rules.{rules}
use Rattle.checks.proofs.Checks.{stop, go_on, handed, found_bad_by, found_good_by}
use Rattle.plane.proofs.Accepting.{settled, plane_parts, checked_samples}
use Rattle.plane.proofs.check.plane_check.Goals as goal

pub returns-in_err-settings_check : goal.returns-in_err-settings_check
returns-in_err-settings_check c = handed _ c.from_residual.ensures ∙ stop _ _ c.in_err-settings_check.ensures ∙ sym (plane_parts _ _ _ _)

pub over_plane-over-requires : goal.over_plane-over-requires
over_plane-over-requires c = checked_samples (settled _ _ _ _ (sym c.in_ok-settings_check.ensures))

pub returns-in-Some : goal.returns-in-Some
returns-in-Some c =
    go_on _ _ _ c.in_ok-settings_check.ensures
    (found_bad_by _ _ _ _ c.over_plane-over.ensures (search rules) refl)
    ∙ sym (plane_parts _ _ _ _)

pub returns : goal.returns
returns c =
    go_on _ _ _ c.in_ok-settings_check.ensures
    (found_good_by _ _ _ c.over_plane-over.ensures (search rules))
    ∙ sym (plane_parts _ _ _ _)
