-- `compare` meets its contract: both edges of the first entry that differs, or the edge with which the longer record goes on. Assumes nothing.
use Rattle.compared.proofs.Apart.{first_has, second_has, edges_said, first_said, second_said, equal_said}
use native.Mathlib.Omega.{arith}
use borrow.Author.Rules.{rules}
use Rattle.compared.proofs.beside.compare.Goals as goal

pub entry-requires : goal.entry-requires
entry-requires c = first_has _ _ c.first_difference.ensures (search rules)

pub entry-requires-in-Some : goal.entry-requires-in-Some
entry-requires-in-Some c = second_has _ _ c.first_difference.ensures (search rules)

pub returns-in-Some : goal.returns-in-Some
returns-in-Some c = edges_said _ _ c.first_difference.ensures (search rules) c.entry.ensures.0 c.entry-in-Some.ensures.0

pub returns-then-m-n : goal.returns-then-m-n
returns-then-m-n c = first_said _ _ c.first_difference.ensures (search rules) c.count-n.ensures c.count-m.ensures c.if-m-n.true c.entry-then-m-n.ensures.0

pub returns-then-n-m : goal.returns-then-n-m
returns-then-n-m c = second_said _ _ c.first_difference.ensures (search rules) c.count-n.ensures c.count-m.ensures c.if-m-n.false c.if-n-m.true c.entry-then-n-m.ensures.0

pub returns : goal.returns
returns c = equal_said _ _ c.first_difference.ensures (search rules) c.count-n.ensures c.count-m.ensures c.if-m-n.false c.if-n-m.false
