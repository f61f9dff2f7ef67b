-- `tile_of` puts the six numbers of its callees together. Assumes nothing.
use borrow.Author.Rules.{rules}
use Rattle.rules.specs.TuGrid.{tile_of, size_of}
use Rattle.tiles.proofs.tile.tile_of.Goals as goal

pub returns : goal.returns
unfolding tile_of size_of
returns c = cc
