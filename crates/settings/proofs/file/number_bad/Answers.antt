-- `number_bad` goes by the kind. Assumes nothing.
use Rattle.settings.proofs.Settling.{version_asked, flag_asked, none_asked}
use Rattle.settings.proofs.file.number_bad.Goals as goal

pub returns-in-Version : goal.returns-in-Version
returns-in-Version c = version_asked _ _ _ c.in-Version.is c.version_bad.ensures

pub returns-in-Chroma : goal.returns-in-Chroma
returns-in-Chroma c = flag_asked _ _ _ c.in-Chroma.is c.flag_bad.ensures

pub returns-in_default : goal.returns-in_default
returns-in_default c = none_asked _ _ c.in_default.not-Version c.in_default.not-Chroma
