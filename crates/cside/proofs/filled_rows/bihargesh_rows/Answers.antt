-- `bihargesh_rows` answers by the rules of a call on filled rows. Assumes nothing.
use native.Mathlib.Omega.{arith}
use Rattle.by_list.proofs.States.{state_long}
use Rattle.cside.proofs.Filled.{fillings as needs}
use Rattle.cside.proofs.filled_rows.bihargesh_rows.Goals as goal

pub returns-in-Err : goal.returns-in-Err
returns-in-Err c = search needs

pub plane_of-s-requires : goal.plane_of-s-requires
plane_of-s-requires c = search needs

pub bounds-state-0 : goal.bounds-state-0
bounds-state-0 c = omega (arith, state_long _ _ c.lists_check-lists.ensures c.in_default.is)

pub hold-requires : goal.hold-requires
hold-requires c = search needs

pub told_rows-requires : goal.told_rows-requires
told_rows-requires c = search needs

pub returns : goal.returns
returns c = search needs
