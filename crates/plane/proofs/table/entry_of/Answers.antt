-- `entry_of` meets its contract. Assumes nothing.
use Rattle.plane.proofs.Tables.{tables as needs}
use Rattle.plane.proofs.table.entry_of.Goals as goal

pub returns-then-k-lt1416 : goal.returns-then-k-lt1416
returns-then-k-lt1416 c = search needs

pub returns-then-starts_tile : goal.returns-then-starts_tile
returns-then-starts_tile c = search needs

pub returns : goal.returns
returns c = search needs
