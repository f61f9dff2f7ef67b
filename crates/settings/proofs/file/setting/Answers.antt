-- `setting` asks for the first setting. Assumes nothing.
use Rattle.settings.proofs.Settling.{lent_same, kept_same, setting_soon, setting_on}
use Rattle.settings.proofs.file.setting.Goals as goal

pub returns-then-too_soon : goal.returns-then-too_soon
returns-then-too_soon c = record { lent = lent_same _; kept = kept_same _; result_after = setting_soon _ _ _ _ _ _ c.too_soon.ensures c.if-too_soon.true }

pub returns : goal.returns
returns c = record {
  lent = c.fill.ensures.lent;
  kept = c.fill.ensures.kept;
  result_after = setting_on _ _ _ _ _ _
      c.too_soon.ensures
      _
      c.if-too_soon.false
      c.fill.ensures.result_after;
}
