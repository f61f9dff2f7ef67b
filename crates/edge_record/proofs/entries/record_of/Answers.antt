-- `record_of` notes by the lists that the settings have. Assumes nothing.
use Rattle.edge_record.proofs.Noting.{noted_so}
use Rattle.edge_record.proofs.entries.record_of.Goals as goal

pub returns : goal.returns
returns c =
    noted_so c.args.f c.args.chroma _ _ _ _ _ _ _ _ _ _ c.lists_of-at.ensures.0 c.steps_of-n.ensures.0
    c.leaves_of-leaves.ensures.from_value.0 c.leaves_of-leaves.ensures.from_value.1
    c.tiles_of-tiles.ensures.from_value.0 c.tiles_of-tiles.ensures.from_value.1
    c.plane_of.ensures c.tu_of.ensures c.q_of.ensures c.noted.ensures
