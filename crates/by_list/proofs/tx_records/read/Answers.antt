-- `read` gives the settings of a list that is long enough, and else ones that are refused. Assumes nothing.
use Rattle.by_list.proofs.Records.{read_short, read_long}
use borrow.Author.Rules.{rules}
use Rattle.by_list.proofs.tx_records.read.Goals as goal

pub returns-then-settings-lt6 : goal.returns-then-settings-lt6
returns-then-settings-lt6 c = read_short _ c.if-settings-lt6.true

pub returns : goal.returns
returns c = read_long _ c.if-settings-lt6.false c.tu_grid_of.ensures
