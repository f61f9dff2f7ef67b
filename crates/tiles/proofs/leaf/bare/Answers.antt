-- `bare` takes 4096 off where the flag says that it is there. Assumes nothing.
use mathlib.Core.Path.{sym, ◌∙◌}
use borrow.Author.Rules.{rules}
use Rattle.laws.specs.Choose.{pick_yes, pick_no, told_yes, told_no}
use Rattle.rules.specs.TuGrid.{bare_of}
use Rattle.tiles.proofs.Leaves.{flag_most}
use Rattle.tiles.proofs.leaf.bare.Goals as goal

pub overflow_sub-w : goal.overflow_sub-w
overflow_sub-w c = let h = flag_most _ (sym c.flag.ensures ∙ c.if-flag.true) in search rules

pub returns-then-flag : goal.returns-then-flag
unfolding bare_of
returns-then-flag c = pick_yes _ _ _ _ (told_yes _ _ c.flag.ensures c.if-flag.true) c.wide.ensures

pub returns-else-flag : goal.returns-else-flag
unfolding bare_of
returns-else-flag c = pick_no _ _ _ _ (told_no _ _ c.flag.ensures c.if-flag.false) c.wide-else-flag.ensures
