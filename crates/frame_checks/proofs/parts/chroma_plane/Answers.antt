-- `chroma_plane` is the rules' chroma plane. Assumes nothing.
use mir.Syntax.{w32}
use mir.Facts.{to_z-of_z}
use Rattle.frame_checks.proofs.Ranges.{chroma_is, eighths_by, down_by}
use Rattle.frame_checks.proofs.parts.chroma_plane.Goals as goal

pub returns : goal.returns
returns c =
    chroma_is
    c.args.f
    _
    _
    _
    _
    _
    _
    _
    (to_z-of_z {w = w32} {z = c.args.f.deltauv} (record { sfits = c.struct_told-1.given.1.1.1.1.1.1.1.1.0.1 }))
    (eighths_by _ _ _ c.halved.ensures.0 c.up_to_eight-width.ensures.0)
    (eighths_by _ _ _ c.halved-2.ensures.0 c.up_to_eight-height.ensures.0)
    (down_by _ _ _ _ c.up_to_eight.ensures.0 c.shifted.ensures)
    (down_by _ _ _ _ c.up_to_eight-2.ensures.0 c.shifted-2.ensures)
    c.shifted-3.ensures
    c.shifted-4.ensures
