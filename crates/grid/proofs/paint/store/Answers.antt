-- `store` sets one place of each list. Assumes nothing.
use borrow.Author.Rules.{rules}
use Rattle.rules.specs.TuGrid.{store_cell}
use Rattle.grid.proofs.paint.store.Goals as goal

pub returns : goal.returns
unfolding store_cell
returns c = search rules
