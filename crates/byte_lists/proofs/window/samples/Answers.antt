-- `samples` are all 72 of the window. Assumes nothing.
use native.Mathlib.Omega.{arith}
use Prim.Native.Nat.{◌*◌}
use Rattle.low_first.specs.Bytes.{number_in}
use Rattle.rules.specs.CSide.{samples_in}
use Rattle.low_first.proofs.Fills.{fills as needs, whole_end}
use Rattle.byte_lists.proofs.window.samples.Goals as goal

pub loop-k-init : goal.loop-k-init
loop-k-init c = search needs

pub loop-k-preserved : goal.loop-k-preserved
loop-k-preserved c = search needs

pub returns : goal.returns
unfolding samples_in
returns c =
    let inv = c.loop-k.invariant in
    whole_end _ (λ i. number_in 2 c.args.bytes.now (2 * i)) _ 72 inv.1 inv.0 (omega arith) inv.3
