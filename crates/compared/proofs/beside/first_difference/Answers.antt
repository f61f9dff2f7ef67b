-- `first_difference` meets its contract: the entries passed are equal in both records. Assumes nothing.
use Rattle.compared.proofs.Apart.{apart, apart_more, apart_found, apart_end}
use Rattle.checks.proofs.First.{first_none}
use Rattle.rules.specs.Refusals.{first}
use Rattle.std.specs.declared.option.Option.TheVariants.{None}
use native.Mathlib.Omega.{arith}
use Prim.Native.Nat.{◌-◌, ◌≤◌, min}
use mathlib.Core.Path.{◌≡◌, ap₂, ◌∙◌}
use borrow.Author.Rules.{rules}
use Rattle.compared.proofs.beside.first_difference.Goals as goal

pub loop-k-init : goal.loop-k-init
loop-k-init c = (omega arith, first_none _)

pub returns-then-not-same_numbers : goal.returns-then-not-same_numbers
returns-then-not-same_numbers c =
    apart_found _ _ _
    c.loop-k.invariant.1
    c.entry.ensures.0
    c.entry-in-loop-k.ensures.0
    c.same_numbers.ensures
    _
    (c.min-n.ensures ∙ ap₂ min c.count.ensures c.count-2.ensures)
    c.if-not-same_numbers.true-raw
    (omega arith)

pub loop-k-preserved : goal.loop-k-preserved
loop-k-preserved c = (omega arith, apart_more _ _ _ c.loop-k.invariant.1 c.entry.ensures.0 c.entry-in-loop-k.ensures.0 c.same_numbers.ensures c.if-not-same_numbers.false-raw)

pub returns : goal.returns
returns c = apart_end _ _ _ c.loop-k.invariant.1 _ (c.min-n.ensures ∙ ap₂ min c.count.ensures c.count-2.ensures) c.loop-k.invariant.0 (omega arith)
