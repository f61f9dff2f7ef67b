-- `list_leaves` turns a list's first bad leaf into a refusal. Assumes nothing.
use mathlib.Core.Path.{refl}
use Rattle.checks.proofs.Checks.{found_bad_by, found_good_by}
use Rattle.rules.specs.declared.refusals.Refusal.TheVariants.{Leaf}
use Rattle.frame_checks.proofs.leaves.list_leaves.Goals as goal

pub returns-in-Some : goal.returns-in-Some
returns-in-Some c = found_bad_by _ _ Leaf _ c.bad_leaf.ensures c.in-Some.is refl

pub returns-in-None : goal.returns-in-None
returns-in-None c = found_good_by _ _ Leaf c.bad_leaf.ensures c.in-None.is
