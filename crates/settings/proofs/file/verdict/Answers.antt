-- `verdict` asks one thing after the other. Assumes nothing.
use Rattle.settings.proofs.Settling.{verdict_cut, verdict_bad, verdict_good}
use Rattle.settings.proofs.file.verdict.Goals as goal

pub returns-then-not-whole : goal.returns-then-not-whole
returns-then-not-whole c = verdict_cut _ _ _ _ _ _ c.whole.ensures c.if-not-whole.true

pub returns-then-number_bad : goal.returns-then-number_bad
returns-then-number_bad c = verdict_bad _ _ _ _ _ _ c.whole.ensures c.if-not-whole.false _ c.number_bad.ensures c.if-number_bad.true

pub returns : goal.returns
returns c = verdict_good _ _ _ _ _ _ c.whole.ensures c.if-not-whole.false _ c.number_bad.ensures c.if-number_bad.false
