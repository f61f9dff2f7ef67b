-- Ticket 4's bound on what a frame stores.
-- Assumes nothing.
use Rattle.std.specs.Prelude.{ℕ, ◌+◌, ◌*◌}
use Rattle.laws.specs.Choose.{pick}
use Rattle.rules.specs.declared.settings.Frame.{Frame}
use Rattle.rules.specs.Frame.{luma_plane, chroma_plane, chroma_on}
use Rattle.promises.specs.Counts.{most_edges}

-- "stores at most 64 samples for each" edge of the planes that are filtered
abbrev pub most_stored : Frame → ℕ
most_stored f =
    most_edges (luma_plane f) * 64
    + pick (chroma_on f) (most_edges (chroma_plane f) * 64) 0
    + pick (chroma_on f) (most_edges (chroma_plane f) * 64) 0
