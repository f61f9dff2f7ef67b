-- `keep_cells`'s loop: the rectangles passed so far are marked. Assumes nothing.
use mathlib.Core.Path.{◌≡◌, ◌∙◌}
use lib.ListN.{length}
use Rattle.laws.specs.Loops.{turns}
use Rattle.rules.specs.Keep.{keep_after}
use Rattle.by_settings.specs.Kept.{rectangle_of, kept_by}
use Rattle.by_settings.proofs.Keeping.{keeping as needs, keep_more}
use Rattle.by_settings.proofs.kept.keep_cells.Given as goal

abbrev pub invariant-loop-i : goal.invariant-loop-i
invariant-loop-i l = (l.keep ≡ turns l.i (λ k. keep_after (rectangle_of l.s l.rectangles k)) l.initial.keep) × (length l.keep ≡ length l.initial.keep)
