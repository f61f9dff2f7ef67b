-- `run_record` meets its contract: the entries passed have run and are counted. Assumes nothing.
use Rattle.std.proofs.Common.{◌≡◌, ◌-◌, ◌≤◌, length, refl, arith, rules}
use Rattle.replay.specs.Fit.{Ran}
use Rattle.replay.proofs.Entries.{first_entries, replayed_none, replayed_more, replayed_end, entry_runs, runnable_same}
use Rattle.replay.proofs.run.run_record.Goals as goal

pub loop-k-init : goal.loop-k-init
loop-k-init c = (omega arith, replayed_none c.args.s _ _ _, refl)

pub filter_marked-o-requires : goal.filter_marked-o-requires
filter_marked-o-requires c =
    let e = c.count-n.ensures in
    (entry_runs _ _ (omega arith) c.entry.ensures.0 (runnable_same c.loop-k.invariant.2 c.requires), omega (arith, c.requires.sized.row))

pub loop-k-preserved : goal.loop-k-preserved
loop-k-preserved c =
    let start = c.args in
    let turns = c.loop-k in
    let its-entry = c.entry in
    let given = c.requires in
    let its-filter-marked = c.filter_marked-o in
    let its-wrapping-add-usize = c.wrapping_add_usize-stored in
    let its-wrapping-add-usize2 = c.wrapping_add_usize-changed in
    let test = c.loop-k-test in
    (omega (arith, test.true), replayed_more start.s _ _ _ _ turns.invariant.1 its-entry.ensures.0 given.top_is its-filter-marked.ensures its-wrapping-add-usize.ensures.value its-wrapping-add-usize2.ensures.value, search rules)

pub returns : goal.returns
returns c = replayed_end _ _ _ _ _ _ c.loop-k.invariant.1 c.count-n.ensures c.loop-k.invariant.0 (omega arith)
