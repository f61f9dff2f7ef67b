-- `steps` are all 352 of the table. Assumes nothing.
use native.Mathlib.Omega.{arith}
use Prim.Native.Nat.{◌*◌}
use Rattle.low_first.specs.Bytes.{number_in}
use Rattle.rules.specs.CSide.{steps_in}
use Rattle.low_first.proofs.Fills.{fills as needs, whole_end}
use Rattle.byte_lists.proofs.table.steps.Goals as goal

pub loop-k-init : goal.loop-k-init
loop-k-init c = search needs

pub loop-k-preserved : goal.loop-k-preserved
loop-k-preserved c = search needs

pub returns : goal.returns
unfolding steps_in
returns c =
    let inv = c.loop-k.invariant in
    whole_end _ (λ i. number_in 4 c.args.bytes.now (4 * i)) _ 352 inv.1 inv.0 (omega arith) inv.3
