-- `bends::bend` meets its contract.
-- Assumes nothing.
use Rattle.width.proofs.Differences.{bend_is}
use native.Mathlib.Omega.{arith}
use Rattle.width.proofs.bends.bend.Goals as goal

pub returns : goal.returns
returns c = let e = bend_is c.args.a c.args.b c.args.c in (omega arith, omega arith)
