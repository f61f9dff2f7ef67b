-- `cuts_ok` tests scale and cuts. Assumes nothing.
use Rattle.ccso.proofs.Ranged.{range_yes, range_no, order_told}
use Rattle.ccso.specs.Checks.{cuts_ok}
use Rattle.rules.specs.Numbers.{in_range}
use Rattle.laws.specs.Choose.{all_bad, all_ok, all_last, both_bad, both_ok, both_later, is_le, not_le}
use Rattle.ccso.proofs.check.cuts_ok.Goals as goal

pub returns-then-s-lt1 : goal.returns-then-s-lt1
unfolding cuts_ok in_range
returns-then-s-lt1 c = all_bad _ _ (both_bad _ _ (not_le _ _ c.if-s-lt1.true))

pub returns-then-s-gt16 : goal.returns-then-s-gt16
unfolding cuts_ok in_range
returns-then-s-gt16 c = all_bad _ _ (both_later _ _ (not_le _ _ c.if-s-gt16.true))

pub returns-then-not-in_range : goal.returns-then-not-in_range
unfolding cuts_ok in_range
returns-then-not-in_range c = all_ok _ _ _ (both_ok _ _ _ (is_le _ _ c.if-s-lt1.false) (is_le _ _ c.if-s-gt16.false)) (all_bad _ _ (range_no _ _ _ _ c.struct_told-1.given.1.1.1.1.1.1.0.1 c.in_range.ensures c.if-not-in_range.true-raw))

pub returns-then-not-in_range-2 : goal.returns-then-not-in_range-2
unfolding cuts_ok in_range
returns-then-not-in_range-2 c =
    all_ok _ _ _
    (both_ok _ _ _ (is_le _ _ c.if-s-lt1.false) (is_le _ _ c.if-s-gt16.false))
    (all_ok _ _ _
    (range_yes _ _ _ _ c.struct_told-1.given.1.1.1.1.1.1.0.1 c.in_range.ensures c.if-not-in_range.false-raw)
    (all_bad _ _ (range_no _ _ _ _ c.struct_told-1.given.1.1.1.1.1.1.1.0.1 c.in_range-2.ensures c.if-not-in_range-2.true-raw)))

pub returns : goal.returns
unfolding cuts_ok in_range
returns c =
    all_ok _ _ _
    (both_ok _ _ _ (is_le _ _ c.if-s-lt1.false) (is_le _ _ c.if-s-gt16.false))
    (all_ok _ _ _
    (range_yes _ _ _ _ c.struct_told-1.given.1.1.1.1.1.1.0.1 c.in_range.ensures c.if-not-in_range.false-raw)
    (all_ok _ _ _
    (range_yes _ _ _ _ c.struct_told-1.given.1.1.1.1.1.1.1.0.1 c.in_range-2.ensures c.if-not-in_range-2.false-raw)
    (all_last _ _
    (order_told
    c.args.s.lo
    c.args.s.hi
    _
    c.struct_told-1.given.1.1.1.1.1.1.0.1
    c.struct_told-1.given.1.1.1.1.1.1.1.0.1
    c.at_most.ensures))))
