-- `put_samples` puts the window's samples back, one after the other. Assumes nothing.
use mathlib.Core.Path.{refl}
use Prim.Native.Nat.{◌+◌, ◌*◌}
use native.Mathlib.Omega.{arith}
use lib.ListN.{get_or}
use Rattle.low_first.proofs.RoundTrip.{putting as needs, puts_more, puts_end}
use Rattle.rules.specs.CSide.{bytes_of}
use Rattle.byte_lists.proofs.window.put_samples.Goals as goal

pub loop-k-init : goal.loop-k-init
loop-k-init c = search needs

pub loop-k-preserved : goal.loop-k-preserved
loop-k-preserved c =
    let put = c in
    let at = put in
    let inv = at.loop-k.invariant in
    let fill = puts_more 2 (λ i. get_or at.args.l.now i 0) at.args.bytes.now at.loop-k.k (2 * at.loop-k.k) (2 * (at.loop-k.k + 1)) inv.1 (omega arith) (omega arith) (omega arith) refl put.put_two.ensures in
    (omega arith, fill, search needs, inv.3)

pub returns : goal.returns
unfolding bytes_of
returns c =
    let inv = c.loop-k.invariant in
    puts_end 2 (λ i. get_or c.args.l.now i 0) c.args.bytes.now c.loop-k.k 72 (2 * c.loop-k.k) inv.1 inv.0 (omega arith) (omega arith)
