-- `choice::width_of` meets its contract: the tests in the order of the code choose the same width.
-- Assumes nothing.
use Rattle.width.proofs.Order.{widths}
use Rattle.width.proofs.choice.width_of.Goals as goal

pub returns-then-side-e : goal.returns-then-side-e
returns-then-side-e c = search widths depth 16

pub returns-then-one_wide : goal.returns-then-one_wide
returns-then-one_wide c = search widths depth 16

pub returns-then-two_wide : goal.returns-then-two_wide
returns-then-two_wide c = search widths depth 16

pub returns-then-steep : goal.returns-then-steep
returns-then-steep c = search widths depth 16

pub returns-then-p-eq3 : goal.returns-then-p-eq3
returns-then-p-eq3 c = search widths depth 16

pub returns : goal.returns
returns c = search widths depth 16
