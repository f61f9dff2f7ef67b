-- `luma_plane` is the rules' luma plane. Assumes nothing.
use mir.Syntax.{w32}
use mir.Facts.{to_z-of_z}
use Rattle.frame_checks.proofs.Ranges.{luma_is}
use Rattle.frame_checks.proofs.parts.luma_plane.Goals as goal

pub returns : goal.returns
returns c = luma_is c.args.f _ _ _ (to_z-of_z {w = w32} {z = c.args.f.deltay} (record { sfits = c.struct_told-1.given.1.1.1.1.1.1.1.0.1 })) c.up_to_eight-width.ensures.0 c.up_to_eight-height.ensures.0
