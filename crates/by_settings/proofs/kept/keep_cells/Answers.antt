-- `keep_cells`'s loop: the rectangles passed so far are marked. Assumes nothing.
use mathlib.Core.Path.{◌≡◌, ◌∙◌}
use Prim.Native.Nat.{◌-◌, ◌≤◌}
use lib.ListN.{length}
use Rattle.laws.specs.Loops.{turns}
use Rattle.rules.specs.Keep.{keep_after}
use Rattle.by_settings.specs.Kept.{rectangle_of, kept_by}
use Rattle.by_settings.proofs.Keeping.{keeping as needs, keep_more}
use Rattle.by_settings.proofs.kept.keep_cells.Goals as goal

pub loop-i-init : goal.loop-i-init
loop-i-init c = search needs

pub loop-i-preserved : goal.loop-i-preserved
loop-i-preserved c = (keep_more _ _ _ _ c.loop-i.invariant.0 c.rectangle_at.ensures c.keep_rectangle.ensures.marks, c.keep_rectangle.auto.keep ∙ c.loop-i.invariant.1)

pub returns : goal.returns
unfolding kept_by
returns c = search needs
