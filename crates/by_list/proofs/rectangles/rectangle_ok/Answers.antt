-- `rectangle_ok` asks for the sign of each of the four numbers. Assumes nothing.
use Rattle.laws.specs.Choose.{tests}
use Rattle.by_list.specs.Rectangles.{rectangle_ok}
use borrow.Author.Rules.{rules}
use Rattle.by_list.proofs.rectangles.rectangle_ok.Goals as goal

pub returns-then-not-is_count : goal.returns-then-not-is_count
unfolding rectangle_ok
returns-then-not-is_count c = search tests

pub returns-then-not-is_count-2 : goal.returns-then-not-is_count-2
unfolding rectangle_ok
returns-then-not-is_count-2 c = search tests

pub returns-then-not-is_count-3 : goal.returns-then-not-is_count-3
unfolding rectangle_ok
returns-then-not-is_count-3 c = search tests

pub returns : goal.returns
unfolding rectangle_ok
returns c = search tests
