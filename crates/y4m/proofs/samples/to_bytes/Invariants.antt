-- `to_bytes` fills the bytes place by place. Assumes nothing.
use Rattle.laws.specs.Loops.{filled}
use Rattle.y4m.specs.Rows.{byte_of}
use mathlib.Core.Path.{◌≡◌}
use lib.ListN.{length}
use Rattle.y4m.proofs.samples.to_bytes.Given as goal

abbrev pub invariant-loop-i : goal.invariant-loop-i
invariant-loop-i l = (length l.bytes ≡ length l.initial.bytes) × (l.bytes ≡ filled l.initial.bytes (λ j. byte_of l.wide l.row j) l.i)
