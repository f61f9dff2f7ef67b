-- `list_check` asks for the length, the depth and the flags, in this order. Assumes nothing.
use Rattle.laws.specs.Choose.{told_yes_not, told_yes, told_no_not, told_no}
use Rattle.by_list.specs.Frames.{list_check}
use Rattle.by_list.proofs.Lists.{list_short, list_depth, list_flags, list_good}
use borrow.Author.Rules.{rules}
use Rattle.by_list.proofs.frames.list_check.Goals as goal

pub returns-then-list-lt15 : goal.returns-then-list-lt15
unfolding list_check
returns-then-list-lt15 c = list_short 15 6 _ _ c.if-list-lt15.true

pub returns-then-not-is : goal.returns-then-not-is
unfolding list_check
returns-then-not-is c = list_depth 15 6 _ _ c.if-list-lt15.false c.count.ensures c.is.ensures c.if-not-is.true-raw

pub returns-then-not-flags_ok : goal.returns-then-not-flags_ok
unfolding list_check
returns-then-not-flags_ok c = list_flags 15 6 _ _ c.if-list-lt15.false c.count.ensures c.is.ensures c.if-not-is.false-raw (told_no_not _ _ c.flags_ok.ensures c.if-not-flags_ok.true-raw)

pub returns : goal.returns
unfolding list_check
returns c = list_good 15 6 _ _ c.if-list-lt15.false c.count.ensures c.is.ensures c.if-not-is.false-raw (told_yes_not _ _ c.flags_ok.ensures c.if-not-flags_ok.false-raw)
