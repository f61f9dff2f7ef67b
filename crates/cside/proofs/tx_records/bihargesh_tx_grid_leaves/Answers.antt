-- `bihargesh_tx_grid_leaves` answers by a TU grid's rules, its leaves read from records. Assumes nothing.
use mir.Syntax.{w32}
use mir.Val.{SFits}
use mir.Facts.{to_z-of_z}
use borrow.Author.Rules.{rules}
use Rattle.rules.specs.TuGrid.{marks}
use Rattle.leaves.specs.Records.{flat}
use Rattle.cside.proofs.Leaves.{records_told}
use Rattle.cside.proofs.tx_records.bihargesh_tx_grid_leaves.Goals as goal

pub returns : goal.returns
returns c =
    let f : SFits w32 c.tell.result = search rules in
    rw (to_z-of_z f)
    (records_told c.args.settings.now (flat c.args.leaves.now) (flat c.args.skips.now)
    (marks c.args.vedge.now c.args.hedge.now c.args.sqw.now c.args.sqh.now)
    c.args.keep.now c.read-s.result c.build_tx_grid-a.ensures c.tell.ensures c.read-s.ensures)
