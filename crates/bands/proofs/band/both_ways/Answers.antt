-- `both_ways` meets its contract: one sweep after the other. Assumes nothing.
use native.Mathlib.Omega.{arith}
use borrow.Author.Rules.{rules}
use Rattle.plane.proofs.Runs.{field_same, few_none, few_most, most_none}
use Rattle.bands.proofs.Bands.{part_in, ready_goes, ran_band}
use Rattle.bands.proofs.band.both_ways.Goals as goal

pub overflow_sub-due : goal.overflow_sub-due
overflow_sub-due c =
    let given = c.requires in
    let up = ready_goes given.2 given.3 c.ready_rows-from.ensures c.ready_rows-upto.ensures in
    omega (arith, up.0)

pub sweep-requires : goal.sweep-requires
sweep-requires c =
    let given = c.requires in
    let up = ready_goes given.2 given.3 c.ready_rows-from.ensures c.ready_rows-upto.ensures in
    (field_same (search rules) given.1, part_in _ _ _ (omega (arith, up.0, up.1)), omega arith, few_most most_none c.sweep-vertical.ensures.few (omega arith))

pub returns : goal.returns
returns c = λ steps ts of.
    ran_band _ _ _ _ _ _ _ of _ _ _ _ c.ready_rows-from.ensures c.ready_rows-upto.ensures
    _ c.sweep-vertical.ensures.ran c.sweep.ensures.ran
