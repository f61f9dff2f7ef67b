-- `dark_plane` is all zero. Assumes nothing.
use mathlib.Core.Path.{refl}
use Rattle.edge_record.specs.Noted.{dark}
use Rattle.edge_record.proofs.entries.dark_plane.Goals as goal

pub returns : goal.returns
unfolding dark
returns c = refl
