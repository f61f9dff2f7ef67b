-- `fill` is put together from what its callees say. Assumes nothing.
use mathlib.Core.Path.{refl}
use Rattle.std.proofs.lemmas.Result.{err_from_is_err_and}
use Rattle.settings.proofs.Settling.{expected_some, fill_bad, fill_good}
use Rattle.settings.proofs.file.fill.Goals as goal

pub returns-in_err-verdict-clause-result_after : goal.returns-in_err-verdict-clause-result_after
returns-in_err-verdict-clause-result_after c =
    let e = c.take-t.ensures in
    let p = err_from_is_err_and c.from_residual.result c.from_residual.ensures.1 in
    rw (p.1, p.2) (fill_bad _ _ _ _ _ _ _ _ _ _ _ c.from-k.ensures c.rule_of-rule.ensures c.start-from.ensures e.result_after c.in_err-verdict.ensures _ e.places_unchanged (expected_some _))

pub returns-clause-result_after : goal.returns-clause-result_after
returns-clause-result_after c =
    let e = c.take-t.ensures in
    fill_good _ _ _ _ _ _ _ _ _ _ _ c.from-k.ensures c.rule_of-rule.ensures c.start-from.ensures e.result_after c.in_ok-verdict.ensures _ e.places_unchanged refl
