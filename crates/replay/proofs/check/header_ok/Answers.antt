-- `header_ok` meets its contract: each test in its order. Assumes nothing.
use Rattle.laws.specs.Choose.{tests, all_ok, all_last, is_le, is_eq}
use Rattle.std.proofs.Common.{ℕ, eqb, ap, rules}
use Rattle.rules.specs.Replay.{header_ok}
use Rattle.replay.proofs.check.header_ok.Goals as goal

pub returns-then-bytes-lt5 : goal.returns-then-bytes-lt5
unfolding header_ok
returns-then-bytes-lt5 c = search tests

pub returns-then-bytes-ne69 : goal.returns-then-bytes-ne69
unfolding header_ok
returns-then-bytes-ne69 c = search tests

pub returns-then-bytes-ne68 : goal.returns-then-bytes-ne68
unfolding header_ok
returns-then-bytes-ne68 c = search tests

pub returns-then-bytes-ne71 : goal.returns-then-bytes-ne71
unfolding header_ok
returns-then-bytes-ne71 c = search tests

pub returns : goal.returns
unfolding header_ok
returns c = all_ok _ _ _ (is_le _ _ c.if-bytes-lt5.false) (all_ok _ _ _ (is_eq _ _ c.if-bytes-ne69.false) (all_ok _ _ _ (is_eq _ _ c.if-bytes-ne68.false) (all_ok _ _ _ (is_eq _ _ c.if-bytes-ne71.false) (all_last _ _ (ap (λ (n : ℕ). eqb n 1) c.two_at.ensures)))))
