-- `list_ok` looks for a sample over the top. Assumes nothing.
use mathlib.Core.Path.{refl}
use Rattle.rules.specs.declared.refusals.Refusal.TheVariants.{Sample}
use Rattle.checks.proofs.Checks.{found_bad_by, found_good_by}
use Rattle.ccso.proofs.check.list_ok.Goals as goal

pub returns-in-Some : goal.returns-in-Some
returns-in-Some c = found_bad_by _ _ Sample _ c.row.ensures c.in-Some.is refl

pub returns-in-None : goal.returns-in-None
returns-in-None c = found_good_by _ _ Sample c.row.ensures c.in-None.is
