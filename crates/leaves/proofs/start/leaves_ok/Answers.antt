-- `leaves_ok` looks at the leaves, then at the skip leaves. Assumes nothing.
use Rattle.leaves.proofs.Entry.{after_bad, after_good}
use Rattle.leaves.specs.Records.{leaves_check}
use Rattle.checks.proofs.Checks.{stop, go_on, found_bad, found_good}
use Rattle.rules.specs.declared.refusals.Refusal.TheVariants.{Leaf}
use mathlib.Core.Path.{refl}
use Rattle.leaves.proofs.start.leaves_ok.Goals as goal

pub returns-then-good-n : goal.returns-then-good-n
unfolding leaves_check
returns-then-good-n c = stop _ _ (found_bad _ Leaf _ (after_bad _ _ c.if-good-n.true) refl)

pub returns-then-sound-m : goal.returns-then-sound-m
unfolding leaves_check
returns-then-sound-m c = go_on _ _ _ (found_good _ Leaf (after_good _ _ c.if-good-n.false)) (found_bad _ Leaf _ (after_bad _ _ c.if-sound-m.true) refl)

pub returns : goal.returns
unfolding leaves_check
returns c = go_on _ _ _ (found_good _ Leaf (after_good _ _ c.if-good-n.false)) (found_good _ Leaf (after_good _ _ c.if-sound-m.false))
