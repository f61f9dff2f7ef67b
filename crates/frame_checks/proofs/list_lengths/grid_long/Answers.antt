-- `grid_long` tests the six lists of a grid; its cells' number fits. Assumes nothing.
use Rattle.rules.specs.Frame.{grid_long}
use Rattle.laws.specs.Choose.{tests}
use Rattle.frame_checks.proofs.list_lengths.grid_long.Goals as goal

pub returns-then-g-cells : goal.returns-then-g-cells
unfolding grid_long
returns-then-g-cells c = search tests

pub returns-then-g-cells-2 : goal.returns-then-g-cells-2
unfolding grid_long
returns-then-g-cells-2 c = search tests

pub returns-then-g-cells-3 : goal.returns-then-g-cells-3
unfolding grid_long
returns-then-g-cells-3 c = search tests

pub returns-then-g-cells-4 : goal.returns-then-g-cells-4
unfolding grid_long
returns-then-g-cells-4 c = search tests

pub returns-then-g-cells-5 : goal.returns-then-g-cells-5
unfolding grid_long
returns-then-g-cells-5 c = search tests

pub returns : goal.returns
unfolding grid_long
returns c = search tests depth 7
