-- `paint_leaf` paints the tile of its four numbers, which lies near the plane. Assumes nothing.
use Rattle.tiles.proofs.Leaves.{tile_placed}
use borrow.Author.Rules.{rules}
use Rattle.grid.proofs.paint.paint_leaf.Goals as goal

pub paint-requires : goal.paint-requires
paint-requires c = record { grid_fits = search rules; placed = tile_placed _ _ _ _ _ _ _ c.requires.cut c.requires.good c.tile_of-a.ensures }
