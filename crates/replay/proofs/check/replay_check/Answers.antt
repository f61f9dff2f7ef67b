-- `replay_check` meets its contract: each check in its order; what the later ones need is what the earlier ones tested. Assumes nothing.
use Rattle.std.proofs.Common.{refl, ◌∙◌}
use Rattle.laws.specs.Choose.{told_yes, told_no}
use Rattle.checks.proofs.Checks.{checks, handed, stop, go_on, unless_bad, unless_good}
use Rattle.rules.specs.Replay.{replay_check}
use Rattle.replay.proofs.Checking.{record_refused, roomy_by, replay_passed}
use Rattle.replay.proofs.Entries.{sized_of}
use Rattle.replay.proofs.check.replay_check.Goals as goal

pub returns-then-not-is : goal.returns-then-not-is
unfolding replay_check
returns-then-not-is c = search checks

pub returns-then-not-sizes_ok : goal.returns-then-not-sizes_ok
unfolding replay_check
returns-then-not-sizes_ok c = search checks

pub lengths_ok-requires : goal.lengths_ok-requires
lengths_ok-requires c = sized_of _ (told_yes _ _ c.sizes_ok.ensures c.if-not-sizes_ok.false)

pub returns-then-not-lengths_ok : goal.returns-then-not-lengths_ok
unfolding replay_check
returns-then-not-lengths_ok c =
    let its-is = c.is in
    let its-if1 = c.if-not-is in
    let its-sizes-ok = c.sizes_ok in
    let its-if2 = c.if-not-sizes_ok in
    let its-lengths-ok = c.lengths_ok in
    go_on _ _ _ (unless_good _ _ (told_yes _ _ its-is.ensures its-if1.false)) (go_on _ _ _ (unless_good _ _ (told_yes _ _ its-sizes-ok.ensures its-if2.false)) (stop _ _ (unless_bad _ _ (told_no _ _ its-lengths-ok.ensures c.if-not-lengths_ok.true))))

pub returns-in_err-record_check : goal.returns-in_err-record_check
returns-in_err-record_check c =
    handed _ c.from_residual.ensures
    ∙ record_refused _ _ _ _
    (told_yes _ _ c.is.ensures c.if-not-is.false)
    (told_yes _ _ c.sizes_ok.ensures c.if-not-sizes_ok.false)
    (told_yes _ _ c.lengths_ok.ensures c.if-not-lengths_ok.false)
    c.in_err-record_check.ensures
    refl

pub room_check-requires : goal.room_check-requires
room_check-requires c =
    roomy_by _ _ c.args.keep.now c.args.plane.now
    (told_yes _ _ c.is.ensures c.if-not-is.false)
    (told_yes _ _ c.sizes_ok.ensures c.if-not-sizes_ok.false)
    (told_yes _ _ c.lengths_ok.ensures c.if-not-lengths_ok.false)
    c.in_ok-record_check.ensures
    refl

pub returns : goal.returns
returns c =
    replay_passed _ _ _ _
    (told_yes _ _ c.is.ensures c.if-not-is.false)
    (told_yes _ _ c.sizes_ok.ensures c.if-not-sizes_ok.false)
    (told_yes _ _ c.lengths_ok.ensures c.if-not-lengths_ok.false)
    c.in_ok-record_check.ensures
    refl
    c.room_check.ensures
