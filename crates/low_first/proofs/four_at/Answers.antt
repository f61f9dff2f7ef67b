-- `four_at` reads four bytes, low first. Assumes nothing.
use mathlib.Core.Path.{refl}
use native.Mathlib.Omega.{arith}
use Rattle.low_first.proofs.RoundTrip.{read_four}
use Rattle.low_first.proofs.four_at.Goals as goal

pub returns : goal.returns
returns c = let e = read_four c.args.bytes.now c.args.at refl refl refl refl in omega (arith, e, c.from_le_bytes.ensures)
