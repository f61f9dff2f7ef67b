-- `bad_leaf`'s loop: no leaf passed so far is bad. Assumes nothing.
use mathlib.Core.Path.{◌≡◌}
use Prim.Native.Nat.{◌-◌, ◌≤◌}
use Rattle.laws.specs.Choose.{told_yes_not, told_no_not}
use Rattle.std.specs.declared.option.Option.TheVariants.{None}
use Rattle.rules.specs.Refusals.{first, found_unless}
use Rattle.rules.specs.TuGrid.{leaf_good_at, bad_leaf}
use Rattle.checks.proofs.First.{firsts}
use Rattle.tiles.proofs.leaf.bad_leaf.Goals as goal

pub loop-k-init : goal.loop-k-init
loop-k-init c = search (firsts, told_yes_not, told_no_not)

pub returns-then-not-good_at : goal.returns-then-not-good_at
unfolding bad_leaf
returns-then-not-good_at c = search (firsts, told_yes_not, told_no_not)

pub loop-k-preserved : goal.loop-k-preserved
loop-k-preserved c = search (firsts, told_yes_not, told_no_not)

pub returns : goal.returns
unfolding bad_leaf
returns c = search (firsts, told_yes_not, told_no_not)
