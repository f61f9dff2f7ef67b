-- Where neither meets a limit, by the law of a pair.
use Rattle.std.proofs.Common.{refl, arith}
use Rattle.taps.proofs.Pairs.{pair_is}
use Rattle.taps.proofs.moves.unlimited.Goals as goal

pub returns-then-down-top : goal.returns-then-down-top
returns-then-down-top c = pair_is _ _ _ _ _ _ refl c.if-up-top.true c.if-down-top.true (omega arith) c.requires (omega arith) refl
