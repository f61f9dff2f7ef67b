-- `given_long` tests the lists that are only read. Assumes nothing.
use Rattle.rules.specs.Frame.{given_long}
use Rattle.laws.specs.Choose.{all_bad, all_ok, told_yes, told_no}
use Rattle.frame_checks.proofs.list_lengths.given_long.Goals as goal

pub returns-then-not-count_ok : goal.returns-then-not-count_ok
unfolding given_long
returns-then-not-count_ok c = all_bad _ _ (told_no _ _ c.count_ok.ensures c.if-not-count_ok.true)

pub returns : goal.returns
unfolding given_long
returns c = all_ok _ _ _ (told_yes _ _ c.count_ok.ensures c.if-not-count_ok.false) c.leaves_long.ensures
