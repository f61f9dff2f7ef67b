-- `check` leaves at the first check that fails. Assumes nothing.
use Rattle.rules.specs.Ccso.{ccso_check}
use Rattle.ccso.proofs.Accepted.{answers, admitted, passed_yes, luma_there, target_there, offsets_there}
use Rattle.ccso.proofs.check.check.Goals as goal

pub returns-then-not-is : goal.returns-then-not-is
returns-then-not-is c = search answers

pub returns-then-not-sizes_ok : goal.returns-then-not-sizes_ok
returns-then-not-sizes_ok c = search answers

pub returns-then-not-lengths_ok : goal.returns-then-not-lengths_ok
returns-then-not-lengths_ok c = search answers

pub returns-then-not-settings_ok : goal.returns-then-not-settings_ok
returns-then-not-settings_ok c = search answers

pub count_of-requires : goal.count_of-requires
count_of-requires c = search admitted

pub bad_offset-requires : goal.bad_offset-requires
bad_offset-requires c = offsets_there _ _ _ _ _ (passed_yes _ _ c.lengths_ok.ensures c.if-not-lengths_ok.false-raw) _ (passed_yes _ _ c.settings_ok.ensures c.if-not-settings_ok.false-raw) c.count_of.ensures

pub returns-then-is_some : goal.returns-then-is_some
unfolding ccso_check
returns-then-is_some c = search answers

pub samples_ok-requires : goal.samples_ok-requires
samples_ok-requires c =
    let l = passed_yes _ _ c.lengths_ok.ensures c.if-not-lengths_ok.false-raw in (
      passed_yes _ _ c.is.ensures c.if-not-is.false-raw,
      passed_yes _ _ c.sizes_ok.ensures c.if-not-sizes_ok.false-raw,
      luma_there _ _ _ _ _ l,
      target_there _ _ _ _ _ l,
    )

pub returns : goal.returns
unfolding ccso_check
returns c = search answers
