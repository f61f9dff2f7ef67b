-- `line` goes by the line's name. Assumes nothing.
use mathlib.Core.Path.{refl}
use Rattle.settings.proofs.Settling.{kind_some, line_empty, line_unknown, line_known}
use Rattle.settings.proofs.file.line.Goals as goal

pub returns-then-at-end-clause-result_after : goal.returns-then-at-end-clause-result_after
returns-then-at-end-clause-result_after c = line_empty _ _ _ _ _ c.spaces-at.ensures.value c.if-at-end.true

pub returns-in-None-clause-result_after : goal.returns-in-None-clause-result_after
returns-in-None-clause-result_after c =
    line_unknown _ _ _ _ _ c.spaces-at.ensures.value _ _ c.if-at-end.false c.read_word-w.ensures.value c.in-None.ensures.0 refl

pub returns-in-Some-clause-result_after : goal.returns-in-Some-clause-result_after
returns-in-Some-clause-result_after c =
    line_known _ _ _ _ _ c.spaces-at.ensures.value _ _ c.if-at-end.false c.read_word-w.ensures.value c.in-Some.ensures.0 _ (kind_some _) c.setting.ensures.result_after
