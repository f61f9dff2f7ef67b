-- Either sign of D, by one law.
use Rattle.taps.proofs.Signs.{along_shift}
use Rattle.taps.proofs.moves.Move.before.Goals as goal

pub returns : goal.returns
returns c = let s = c.shifted.ensures in (along_shift _ _ _ _ c.size.ensures.0 s.0, s.1, s.2)
