-- `to_samples` fills the row place by place. Assumes nothing.
use Rattle.laws.specs.Loops.{filled}
use Rattle.y4m.specs.Rows.{padded_at}
use mathlib.Core.Path.{◌≡◌}
use lib.ListN.{length}
use Rattle.y4m.proofs.samples.to_samples.Given as goal

abbrev pub invariant-loop-k : goal.invariant-loop-k
invariant-loop-k l = (length l.row ≡ length l.initial.row) × (l.row ≡ filled l.initial.row (λ i. padded_at l.wide l.width l.bytes i) l.k)
