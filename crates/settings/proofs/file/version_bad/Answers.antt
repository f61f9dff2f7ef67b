-- `version_bad` asks of the first number alone. Assumes nothing.
use borrow.Author.Rules.{rules}
use Rattle.settings.proofs.Settling.{version_none, version_some}
use Rattle.settings.proofs.file.version_bad.Goals as goal

pub returns-then-numbers-eq0 : goal.returns-then-numbers-eq0
returns-then-numbers-eq0 c = version_none c.args.numbers.now (search rules)

pub returns : goal.returns
returns c = version_some _ c.args.numbers.now (search rules) c.from.ensures.0
