-- `skip` goes to the first byte that is no space, where the line is in the text. Assumes nothing.
use Rattle.settings.proofs.Taking.{skipping}
use Rattle.settings.proofs.values.skip.Goals as goal

pub returns-then-text-end : goal.returns-then-text-end
returns-then-text-end c = search skipping

pub returns-then-end-at : goal.returns-then-end-at
returns-then-end-at c = search skipping

pub returns : goal.returns
returns c = search skipping
