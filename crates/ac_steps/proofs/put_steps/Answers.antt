-- `put_steps` fills a list's front with the table. Assumes nothing.
use native.Mathlib.Omega.{arith}
use Rattle.ac_steps.specs.Steps.{tabled}
use Rattle.ac_steps.proofs.Following.{following as needs, filled_right}
use Rattle.ac_steps.proofs.put_steps.Goals as goal

pub loop-i-init : goal.loop-i-init
loop-i-init c = search needs

pub next_step-requires : goal.next_step-requires
next_step-requires c =
    let inv = c.loop-i.invariant in
    (search needs, omega arith, filled_right _ _ inv.3 (omega arith))

pub loop-i-preserved : goal.loop-i-preserved
loop-i-preserved c = search needs

pub returns : goal.returns
unfolding tabled
returns c = search needs
