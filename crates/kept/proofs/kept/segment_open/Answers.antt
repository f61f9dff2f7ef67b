-- The width chosen, the window read, and each sample stored unless its cell is kept: step by step by its law. Assumes nothing.
use mathlib.Core.Path.{refl, ap}
use native.Mathlib.Omega.{arith}
use lib.ListN.{length}
use Rattle.segment.proofs.Edges.{widths_fit, lanes_fit}
use Rattle.kept.proofs.Swept.{filtered_off, filtered_open, fit_as}
use Rattle.kept.proofs.kept.segment_open.Goals as goal

pub returns-then-w-eq0 : goal.returns-then-w-eq0
returns-then-w-eq0 c =
    let chosen = c.filter_segment-o.ensures.1 refl in
    filtered_off _ _ c.args.e _ chosen.width c.if-w-eq0.true chosen.plane

pub new-requires : goal.new-requires
new-requires c =
    let chosen = c.filter_segment-o.ensures.1 refl in
    let fit = c.requires.0 in
    let f = widths_fit c.args.e _ fit chosen.width c.if-w-eq0.false c.most_before.ensures c.min-n.ensures in
    (fit.q_most, omega arith, omega arith, omega arith, omega arith)

pub lines_open-t-requires : goal.lines_open-t-requires
lines_open-t-requires c =
    let chosen = c.filter_segment-o.ensures.1 refl in
    let t = c.new.ensures in
    rw (t.0, t.1) (lanes_fit c.args.e _ (fit_as (ap length chosen.plane) c.requires.0) chosen.width c.if-w-eq0.false c.most_before.ensures c.min-n.ensures)

pub returns : goal.returns
returns c =
    let chosen = c.filter_segment-o.ensures.1 refl in
    let t = c.new.ensures in
    let lines = rw (t.0, t.1, t.2, t.3) at c.lines_open-t.ensures in
    filtered_open _ _ c.args.e _ _ _ c.requires.0 chosen.width c.if-w-eq0.false c.most_before.ensures c.min-n.ensures chosen.plane c.window.ensures refl lines
