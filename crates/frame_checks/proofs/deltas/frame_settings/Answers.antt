-- `frame_settings` is luma's deltas and caps, then chroma's. Assumes nothing.
use mir.Syntax.{w32}
use mir.Facts.{to_z-of_z}
use Rattle.rules.specs.Frame.{frame_settings}
use Rattle.frame_checks.proofs.Accepted.{three_bad, three_ok}
use Rattle.checks.proofs.Checks.{unless_bad, unless_good}
use Rattle.laws.specs.Choose.{told_yes, told_no}
use Rattle.frame_checks.proofs.deltas.frame_settings.Goals as goal

pub returns-then-not-kind_ok : goal.returns-then-not-kind_ok
unfolding frame_settings
returns-then-not-kind_ok c = let y = rw (to_z-of_z {w = w32} {z = c.args.f.deltay} (record { sfits = c.struct_told-1.given.1.1.1.1.1.1.1.0.1 })) at c.kind_ok.ensures in unless_bad _ _ (three_bad _ _ _ _ (told_no _ _ y c.if-not-kind_ok.true))

pub returns-then-not-kind_ok-2 : goal.returns-then-not-kind_ok-2
unfolding frame_settings
returns-then-not-kind_ok-2 c =
    let y = rw (to_z-of_z {w = w32} {z = c.args.f.deltay} (record { sfits = c.struct_told-1.given.1.1.1.1.1.1.1.0.1 })) at c.kind_ok.ensures in
    let u = rw (to_z-of_z {w = w32} {z = c.args.f.deltauv} (record { sfits = c.struct_told-2-1.given.1.1.1.1.1.1.1.1.0.1 })) at c.kind_ok-2.ensures in
    unless_bad _ _ (three_ok _ _ _ _ _ (told_yes _ _ y c.if-not-kind_ok.false) (told_no _ _ u c.if-not-kind_ok-2.true))

pub returns : goal.returns
unfolding frame_settings
returns c =
    let y = rw (to_z-of_z {w = w32} {z = c.args.f.deltay} (record { sfits = c.struct_told-1.given.1.1.1.1.1.1.1.0.1 })) at c.kind_ok.ensures in
    let u = rw (to_z-of_z {w = w32} {z = c.args.f.deltauv} (record { sfits = c.struct_told-2-1.given.1.1.1.1.1.1.1.1.0.1 })) at c.kind_ok-2.ensures in
    unless_good _ _ (three_ok _ _ _ _ _ (told_yes _ _ y c.if-not-kind_ok.false) (told_yes _ _ u c.if-not-kind_ok-2.false))
