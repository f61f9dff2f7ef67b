-- `settings_ok` is its three parts. Assumes nothing.
use Rattle.ccso.proofs.Ranged.{settings}
use Rattle.ccso.proofs.check.settings_ok.Goals as goal

pub returns-then-not-cuts_ok : goal.returns-then-not-cuts_ok
returns-then-not-cuts_ok c = search settings

pub returns-then-not-classes_ok : goal.returns-then-not-classes_ok
returns-then-not-classes_ok c = search settings

pub returns : goal.returns
returns c = search settings
