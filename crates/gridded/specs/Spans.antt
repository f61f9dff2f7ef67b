-- Where the leaves and the tile starts of luma or of chroma stand. Assumes nothing.
use Rattle.std.specs.Prelude.{Bool, true, false, ℕ}
use Rattle.by_settings.specs.declared.lists.Lists.{Lists}

-- luma's leaves, or chroma's
abbrev pub leaves_from : Lists → Bool → ℕ
leaves_from l false = l.leaves
leaves_from l true = l.chroma

abbrev pub leaves_end : Lists → Bool → ℕ
leaves_end l false = l.leavesend
leaves_end l true = l.chromaend

-- luma's tile starts, or chroma's
abbrev pub tiles_from : Lists → Bool → ℕ
tiles_from l false = l.tiles
tiles_from l true = l.chromatiles

abbrev pub tiles_end : Lists → Bool → ℕ
tiles_end l false = l.tilesend
tiles_end l true = l.chromatilesend
