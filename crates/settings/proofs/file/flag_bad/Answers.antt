-- `flag_bad` asks of chroma's flag alone. Assumes nothing.
use borrow.Author.Rules.{rules}
use borrow.Author.Tests.{ne_eqb}
use Rattle.settings.proofs.Settling.{flag_none, flag_down, flag_up}
use Rattle.settings.proofs.file.flag_bad.Goals as goal

pub returns-then-numbers-lt8 : goal.returns-then-numbers-lt8
returns-then-numbers-lt8 c = flag_none c.args.numbers.now (search rules)

pub returns-then-flag-ne0 : goal.returns-then-flag-ne0
returns-then-flag-ne0 c = rw (ne_eqb _ _ c.if-flag-ne0.true) (flag_down c.args.numbers.now _ _ (search rules) c.from-flag.ensures c.if-flag-ne0.true)

pub returns-else-flag-ne0 : goal.returns-else-flag-ne0
returns-else-flag-ne0 c = flag_up c.args.numbers.now _ _ (search rules) c.from-flag.ensures c.if-flag-ne0.false
