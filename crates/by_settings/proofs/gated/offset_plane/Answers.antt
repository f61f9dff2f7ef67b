-- `offset_plane` hands on what CCSO gives by the plane's settings, flags and offsets. Assumes nothing.
use Rattle.by_settings.proofs.Gating.{gating}
use borrow.Author.Rules.{rules}
use Rattle.by_settings.proofs.gated.offset_plane.Goals as goal

pub returns-then-not-wants : goal.returns-then-not-wants
returns-then-not-wants c = search gating

pub returns : goal.returns
returns c = search gating
