-- What an entry of a record asks of its edge: that its numbers fit their bytes.
-- Assumes nothing.
use Rattle.std.specs.Prelude.{◌<◌}
use Rattle.rules.specs.declared.edge.Edge.{Edge}

pub record InBytes (e : Edge) : Type 0 where
  pub x_fits : e.x < 65536
  pub y_fits : e.y < 65536
  pub dir_fits : e.dir < 256
  pub pair_fits : e.pair < 256
  pub q_fits : e.q < 65536
  pub side_fits : e.side < 65536
