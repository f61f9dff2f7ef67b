-- `row_bytes` counts one byte a sample, or two. Assumes nothing.
use borrow.Author.Rules.{rules}
use Rattle.laws.specs.Choose.{tests}
use Rattle.pictures.specs.Rows.{row_bytes}
use Rattle.pictures.proofs.planes.row_bytes.Goals as goal

pub returns-then-wide : goal.returns-then-wide
unfolding row_bytes
returns-then-wide c = record { upper_bound = search rules; value = search tests }

pub returns-else-wide : goal.returns-else-wide
unfolding row_bytes
returns-else-wide c = record { upper_bound = search rules; value = search tests }
