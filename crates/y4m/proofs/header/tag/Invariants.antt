-- `tag` walks to the first such letter. Assumes nothing.
use Rattle.text.specs.Places.{seek}
use Rattle.y4m.specs.Headers.{tag_at}
use Prim.Native.Nat.{◌-◌, ◌≤◌}
use mathlib.Core.Path.{◌≡◌}
use Rattle.y4m.proofs.header.tag.Given as goal

abbrev pub invariant-loop-at : goal.invariant-loop-at
invariant-loop-at l = (l.at ≤ l.last) × (seek (tag_at l.text l.letter) l.at (l.last - l.at) ≡ seek (tag_at l.text l.letter) 0 l.last)
