-- `too_soon` goes by the kind. Assumes nothing.
use Rattle.settings.proofs.Settling.{soon_never, soon_asked}
use Rattle.settings.proofs.file.too_soon.Goals as goal

pub returns-in-Version : goal.returns-in-Version
returns-in-Version c = soon_never _ _ c.in-Version.is

pub returns-in_default : goal.returns-in_default
returns-in_default c = soon_asked _ _ c.in_default.not-Version
