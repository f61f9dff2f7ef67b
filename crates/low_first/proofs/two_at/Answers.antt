-- `two_at` reads two bytes, low first. Assumes nothing.
use native.Mathlib.Omega.{arith}
use Rattle.low_first.proofs.RoundTrip.{read_two}
use Rattle.low_first.proofs.two_at.Goals as goal

pub returns : goal.returns
returns c = read_two c.args.bytes.now c.args.at (omega (arith, c.from_le_bytes.ensures))
