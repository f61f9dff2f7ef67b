-- `taps_ok` tests both taps and the band log2. Assumes nothing.
use Rattle.ccso.proofs.Ranged.{range_yes, range_no}
use Rattle.ccso.specs.Checks.{taps_ok}
use Rattle.rules.specs.Ccso.{band_ok}
use Rattle.laws.specs.Choose.{all_bad, all_ok, all_last}
use mathlib.Core.Path.{refl}
use Rattle.ccso.proofs.check.taps_ok.Goals as goal

pub returns-then-not-in_range : goal.returns-then-not-in_range
unfolding taps_ok
returns-then-not-in_range c = all_bad _ _ (range_no _ _ _ _ c.struct_told-1.given.1.1.1.1.1.1.1.1.1.1.1.0.1 c.in_range.ensures c.if-not-in_range.true-raw)

pub returns-then-not-in_range-2 : goal.returns-then-not-in_range-2
unfolding taps_ok
returns-then-not-in_range-2 c =
    all_ok _ _ _
    (range_yes _ _ _ _ c.struct_told-1.given.1.1.1.1.1.1.1.1.1.1.1.0.1 c.in_range.ensures c.if-not-in_range.false-raw)
    (all_bad _ _ (range_no _ _ _ _ c.struct_told-1.given.1.1.1.1.1.1.1.1.1.1.1.1.0.1 c.in_range-2.ensures c.if-not-in_range-2.true-raw))

pub returns-then-not-in_range-3 : goal.returns-then-not-in_range-3
unfolding taps_ok
returns-then-not-in_range-3 c =
    all_ok _ _ _
    (range_yes _ _ _ _ c.struct_told-1.given.1.1.1.1.1.1.1.1.1.1.1.0.1 c.in_range.ensures c.if-not-in_range.false-raw)
    (all_ok _ _ _
    (range_yes _ _ _ _ c.struct_told-1.given.1.1.1.1.1.1.1.1.1.1.1.1.0.1 c.in_range-2.ensures c.if-not-in_range-2.false-raw)
    (all_bad _ _ (range_no _ _ _ _ c.struct_told-1.given.1.1.1.1.1.1.1.1.1.1.1.1.1.0.1 c.in_range-3.ensures c.if-not-in_range-3.true-raw)))

pub returns-then-not-in_range-4 : goal.returns-then-not-in_range-4
unfolding taps_ok
returns-then-not-in_range-4 c =
    all_ok _ _ _
    (range_yes _ _ _ _
    c.struct_told-1.given.1.1.1.1.1.1.1.1.1.1.1.0.1
    c.in_range.ensures
    c.if-not-in_range.false-raw)
    (all_ok _ _ _
    (range_yes _ _ _ _ c.struct_told-1.given.1.1.1.1.1.1.1.1.1.1.1.1.0.1 c.in_range-2.ensures c.if-not-in_range-2.false-raw)
    (all_ok _ _ _
    (range_yes _ _ _ _ c.struct_told-1.given.1.1.1.1.1.1.1.1.1.1.1.1.1.0.1 c.in_range-3.ensures c.if-not-in_range-3.false-raw)
    (all_bad _ _ (range_no _ _ _ _ c.struct_told-1.given.1.1.1.1.1.1.1.1.1.1.1.1.1.1.0.1 c.in_range-4.ensures c.if-not-in_range-4.true-raw))))

pub returns : goal.returns
unfolding taps_ok band_ok
returns c =
    all_ok _ _ _
    (range_yes _ _ _ _
    c.struct_told-1.given.1.1.1.1.1.1.1.1.1.1.1.0.1
    c.in_range.ensures
    c.if-not-in_range.false-raw)
    (all_ok _ _ _
    (range_yes _ _ _ _
    c.struct_told-1.given.1.1.1.1.1.1.1.1.1.1.1.1.0.1
    c.in_range-2.ensures
    c.if-not-in_range-2.false-raw)
    (all_ok _ _ _
    (range_yes _ _ _ _ c.struct_told-1.given.1.1.1.1.1.1.1.1.1.1.1.1.1.0.1 c.in_range-3.ensures c.if-not-in_range-3.false-raw)
    (all_ok _ _ _ (range_yes _ _ _ _ c.struct_told-1.given.1.1.1.1.1.1.1.1.1.1.1.1.1.1.0.1 c.in_range-4.ensures c.if-not-in_range-4.false-raw) (all_last _ _ refl))))
