-- `first_difference` meets its contract: the entries passed are equal in both records. Assumes nothing.
use Rattle.compared.proofs.Apart.{apart, apart_more, apart_found, apart_end}
use Rattle.checks.proofs.First.{first_none}
use Rattle.rules.specs.Refusals.{first}
use Rattle.std.specs.declared.option.Option.TheVariants.{None}
use native.Mathlib.Omega.{arith}
use Prim.Native.Nat.{◌-◌, ◌≤◌, min}
use mathlib.Core.Path.{◌≡◌, ap₂, ◌∙◌}
use borrow.Author.Rules.{rules}
use Rattle.compared.proofs.beside.first_difference.Given as goal

abbrev pub invariant-loop-k : goal.invariant-loop-k
invariant-loop-k l = (l.k ≤ l.n) × (first l.k (apart l.a l.b) ≡ None)

abbrev pub decreases-loop-k : goal.decreases-loop-k
decreases-loop-k l = l.n - l.k
