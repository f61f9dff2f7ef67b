-- `next_tag` walks to the next such letter. Assumes nothing.
use Rattle.text.specs.Places.{seek}
use Rattle.y4m.specs.Headers.{tag_at}
use Prim.Native.Nat.{◌-◌}
use mathlib.Core.Path.{◌≡◌}
use Rattle.pictures.proofs.outside.next_tag.Given as goal

abbrev pub invariant-loop-at : goal.invariant-loop-at
invariant-loop-at l = seek (tag_at l.text l.letter) l.at (l.last - l.at) ≡ seek (tag_at l.text l.letter) l.from (l.last - l.from)
