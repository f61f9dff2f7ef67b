-- `list_check` asks for the length, the depth and the flag, in this order. Assumes nothing.
use Rattle.by_list.specs.Planes.{list_check}
use Rattle.by_list.proofs.Lists.{one_more, one_most, list_short, list_depth, list_flags, list_good}
use borrow.Author.Rules.{rules}
use native.Mathlib.Omega.{arith}
use Rattle.by_list.proofs.planes.list_check.Goals as goal

pub returns-then-settings-lt11 : goal.returns-then-settings-lt11
unfolding list_check
returns-then-settings-lt11 c = list_short 11 8 _ _ c.if-settings-lt11.true

pub returns-then-not-is : goal.returns-then-not-is
unfolding list_check
returns-then-not-is c = list_depth 11 8 _ _ c.if-settings-lt11.false c.count.ensures c.is.ensures c.if-not-is.true-raw

pub returns-then-count-gt1 : goal.returns-then-count-gt1
unfolding list_check
returns-then-count-gt1 c =
    let far = c in
    list_flags 11 8 _ _ far.if-settings-lt11.false c.count.ensures c.is.ensures c.if-not-is.false-raw (one_more _ c.count-2.ensures (omega arith))

pub returns : goal.returns
unfolding list_check
returns c =
    let far = c in
    list_good 11 8 _ _ far.if-settings-lt11.false c.count.ensures c.is.ensures c.if-not-is.false-raw (one_most _ c.count-2.ensures (omega (arith, c.if-count-gt1.false)))
