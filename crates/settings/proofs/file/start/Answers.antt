-- `start` goes by the list. Assumes nothing.
use Rattle.settings.proofs.Settling.{start_numbers, start_tiles, start_on}
use Rattle.settings.proofs.file.start.Goals as goal

pub returns-in-Numbers : goal.returns-in-Numbers
returns-in-Numbers c = start_numbers _ _ _ c.in-Numbers.is

pub returns-in-Tiles : goal.returns-in-Tiles
returns-in-Tiles c = start_tiles _ _ _ c.in-Tiles.is

pub returns-in_default : goal.returns-in_default
returns-in_default c = start_on _ _ _ c.in_default.not-Numbers c.in_default.not-Tiles
