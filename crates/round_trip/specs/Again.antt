-- A plane's record run again: the settings it is run with.
-- Assumes nothing.
use Rattle.rules.specs.declared.settings.Plane.{Plane}
use Rattle.rules.specs.declared.settings.Replay.{Replay}

-- the plane's own cells, stride and depth
abbrev pub again_of : Plane → Replay
again_of s = record { cols = s.cols; rows = s.rows; stride = s.stride; depth = s.depth }
