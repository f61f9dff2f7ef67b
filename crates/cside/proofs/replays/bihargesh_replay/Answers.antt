-- `bihargesh_replay` answers by the rules of a record that is run again. Assumes nothing.
use Rattle.cside.proofs.Telling.{replays as needs}
use Rattle.cside.proofs.replays.bihargesh_replay.Goals as goal

pub returns-then-settings-lt4 : goal.returns-then-settings-lt4
returns-then-settings-lt4 c = search needs

pub returns : goal.returns
returns c = search needs
