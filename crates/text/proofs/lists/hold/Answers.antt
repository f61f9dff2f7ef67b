-- `hold` reads one entry more, unless one differed before. Assumes nothing.
use native.Mathlib.Omega.{arith}
use Rattle.text.proofs.Holding.{held_off, held_same, held_differs}
use Rattle.text.proofs.lists.hold.Goals as goal

pub returns-then-not-h : goal.returns-then-not-h
returns-then-not-h c = (held_off _ _ _ _ c.if-not-h.true, omega arith)

pub returns-then-e-v : goal.returns-then-e-v
returns-then-e-v c = (held_differs _ _ _ _ _ c.read_unsigned-e.ensures.value c.if-not-h.false c.if-e-v.true, omega arith)

pub returns : goal.returns
returns c = (held_same _ _ _ _ _ c.read_unsigned-e.ensures.value c.if-not-h.false c.if-e-v.false, omega arith)
