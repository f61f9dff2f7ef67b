-- `write_row` fills the front of the buffer. Assumes nothing.
use Rattle.pictures.proofs.Parts.{row_out_holds}
use Rattle.pictures.proofs.planes.write_row.Goals as goal

pub returns : goal.returns
returns c = row_out_holds _ _ _ _ c.requires c.to_bytes.ensures
