-- `classify` compares counts as the rules compare differences. Assumes nothing.
use Rattle.ccso_sample.proofs.Classes.{classes}
use Rattle.ccso_sample.proofs.taps.classify.Goals as goal

pub returns-then-t-c : goal.returns-then-t-c
returns-then-t-c c = search classes

pub returns-then-t-c-2 : goal.returns-then-t-c-2
returns-then-t-c-2 c = search classes

pub returns : goal.returns
returns c = search classes
