-- `ac_quant_qtx` is the AC step a(i). Assumes nothing.
use native.Mathlib.Omega.{arith}
use Rattle.thresholds.proofs.Quants.{highest, step_zero, step_other, place_within}
use Rattle.thresholds.proofs.Accepted.{steps_long}
use borrow.Author.Rules.{rules}
use Rattle.thresholds.proofs.steps.ac_quant_qtx.Goals as goal

pub returns-then-i : goal.returns-then-i
returns-then-i c = step_zero _ _ _ c.if-i.true

pub limited-k-requires : goal.limited-k-requires
limited-k-requires c = let h = highest _ c.requires.0 in omega arith

pub bounds-steps-k : goal.bounds-steps-k
bounds-steps-k c =
    let long = steps_long _ c.requires.1 in
    omega (arith, place_within _ _ (omega arith) c.requires.0 c.highest.ensures c.limited-k.ensures)

pub returns : goal.returns
returns c = step_other _ _ _ c.if-i.false c.highest.ensures c.limited-k.ensures
