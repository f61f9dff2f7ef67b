-- A plane's settings to run its record again: the cells of its shape. Assumes nothing.
use Rattle.std.specs.Prelude.{ℕ, ◌/◌}
use Rattle.rules.specs.declared.settings.Replay.{Replay}
use Rattle.pictures.specs.declared.planes.Shape.{Shape}

abbrev pub settings_of : Shape → ℕ → Replay
settings_of s depth =
    record {
      cols = s.stride / 4;
      rows = s.rows / 4;
      stride = s.stride;
      depth = depth;
    }
