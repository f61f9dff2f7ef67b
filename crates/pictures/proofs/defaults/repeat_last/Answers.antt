-- `repeat_last` fills the places after the last entry. Assumes nothing.
use Rattle.pictures.proofs.Repeats.{none_repeated, all_repeated}
use Rattle.pictures.proofs.defaults.repeat_last.Goals as goal

pub returns-then-n-eq0 : goal.returns-then-n-eq0
returns-then-n-eq0 c = none_repeated _ _ c.then-n-eq0.either

pub returns : goal.returns
returns c = all_repeated _ _ c.requires c.if-n-eq0.false c.if-n-ge4096.false (c.fill.ensures.after (λ y e. e))
