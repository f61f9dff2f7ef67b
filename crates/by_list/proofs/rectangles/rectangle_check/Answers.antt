-- `rectangle_check` asks for the length and then the signs. Assumes nothing.
use Rattle.by_list.proofs.Lists.{rectangle_short, rectangle_below, rectangle_good}
use borrow.Author.Rules.{rules}
use Rattle.by_list.proofs.rectangles.rectangle_check.Goals as goal

pub returns-then-settings-lt6 : goal.returns-then-settings-lt6
returns-then-settings-lt6 c = rectangle_short _ c.if-settings-lt6.true

pub returns-then-not-rectangle_ok : goal.returns-then-not-rectangle_ok
returns-then-not-rectangle_ok c = rectangle_below _ c.if-settings-lt6.false c.rectangle_ok.ensures c.if-not-rectangle_ok.true-raw

pub returns : goal.returns
returns c = rectangle_good _ c.if-settings-lt6.false c.rectangle_ok.ensures c.if-not-rectangle_ok.false-raw
