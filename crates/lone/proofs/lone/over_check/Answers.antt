-- What was found, as a check.
use Rattle.checks.proofs.Checks.{checks}
use borrow.Author.Rules.{rules}
use Rattle.lone.proofs.lone.over_check.Goals as goal

pub returns-in-Some : goal.returns-in-Some
returns-in-Some c = search checks

pub returns-in-None : goal.returns-in-None
returns-in-None c = search checks
