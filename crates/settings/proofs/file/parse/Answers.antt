-- `parse` goes from line to line. Assumes nothing.
use mathlib.Core.Path.{refl}
use native.Mathlib.Omega.{arith}
use Rattle.std.proofs.lemmas.Result.{err_from_is_err_and}
use Rattle.settings.proofs.Settling.{kept_same, kept_then, lent_same, lent_then}
use Rattle.settings.proofs.Stepping.{stepped_less}
use Rattle.settings.proofs.Walking.{amiss, good, parsed, walk_start, walk_next, walk_amiss, walk_done}
use Rattle.settings.proofs.file.parse.Goals as goal

pub loop-here-init : goal.loop-here-init
loop-here-init c = rw c.new-walk.ensures (omega arith, omega arith, lent_same _, kept_same _, refl)

pub next-requires : goal.next-requires
next-requires c = c.loop-here.invariant.1

pub loop-here-smaller : goal.loop-here-smaller
loop-here-smaller c = stepped_less c.in-Some.ensures

pub loop-here-preserved : goal.loop-here-preserved
loop-here-preserved c =
    let i = c.loop-here.invariant in
    let t = c.in-Some.ensures in
    let e = c.line-told.ensures in (
      t.inside,
      omega (arith, i.1, t.count, t.forward),
      lent_then i.2 e.lent,
      kept_then i.3 e.kept,
      walk_next _ _ _ _ i.4 i.1 _ _ t _ _ e.result_after (good c.in_ok-placed.ensures),
    )

pub returns-in_err-placed-clause-lent : goal.returns-in_err-placed-clause-lent
returns-in_err-placed-clause-lent c = lent_then c.loop-here.invariant.2 c.line-told.ensures.lent

pub returns-in_err-placed-clause-kept : goal.returns-in_err-placed-clause-kept
returns-in_err-placed-clause-kept c = kept_then c.loop-here.invariant.3 c.line-told.ensures.kept

pub returns-in_err-placed-clause-result_after : goal.returns-in_err-placed-clause-result_after
returns-in_err-placed-clause-result_after c =
    let p = err_from_is_err_and c.from_residual.result c.from_residual.ensures.1 in
    let e = c.in_err-placed.ensures in
    let i = c.loop-here.invariant in
    rw (p.1, p.2) (parsed e (walk_start _ _ _ refl (walk_amiss _ _ _ _ i.4 i.1 _ _ c.in-Some.ensures _ _ c.line-told.ensures.result_after (amiss _ e))))

pub returns-clause-lent : goal.returns-clause-lent
returns-clause-lent c = c.loop-here.invariant.2

pub returns-clause-kept : goal.returns-clause-kept
returns-clause-kept c = c.loop-here.invariant.3

pub returns-clause-result_after : goal.returns-clause-result_after
returns-clause-result_after c =
    let i = c.loop-here.invariant in
    let n = c.in_default.ensures in
    parsed c.placed-2.ensures (walk_start _ _ _ refl (walk_done _ _ _ _ i.4 i.1 _ _ n.0 n.1 c.missing.ensures))
