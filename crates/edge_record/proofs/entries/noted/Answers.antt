-- `noted` builds the grid over zeros, and runs a dark plane over it. Assumes nothing.
use Rattle.edge_record.proofs.Noting.{noted_by}
use Rattle.edge_record.proofs.entries.noted.Goals as goal

pub returns : goal.returns
returns c =
    noted_by _ _ _ _ _ _ _ _ _
    c.build_tx_grid.ensures
    c.build_qindex_grid.ensures.1
    c.marks-vedge.ensures
    c.marks-hedge.ensures
    c.marks-sqw.ensures
    c.marks-sqh.ensures
    c.marks-keep.ensures
    c.indices-qindex.ensures
    c.dark_plane-plane.ensures
    c.record_plane-a.ensures c.bytes_of.ensures
