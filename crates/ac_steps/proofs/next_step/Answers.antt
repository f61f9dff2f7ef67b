-- `next_step` goes on with the table: an entry written out, the one before it, or twice the one 24 before it. Assumes nothing.
use borrow.Author.Rules.{rules}
use mathlib.Core.Path.{◌∙◌, ap}
use Prim.Native.Nat.{ℕ, ◌-◌, ◌*◌}
use native.Mathlib.Omega.{arith}
use Rattle.ac_steps.specs.Steps.{octave}
use Rattle.ac_steps.proofs.Following.{written, stays, twice, small}
use Rattle.ac_steps.proofs.next_step.Goals as goal

pub returns-in-0-to-24 : goal.returns-in-0-to-24
unfolding octave
returns-in-0-to-24 c = written _ (search rules)

pub returns-in_default : goal.returns-in_default
returns-in_default c = c.requires.2 _ (omega arith) ∙ stays _ (search rules)

pub overflow_mul-result : goal.overflow_mul-result
overflow_mul-result c = record { fits = omega (arith, c.requires.2 (c.args.i - 24) (omega arith), small (c.args.i - 24) (omega arith)) }

pub returns-in-25-to-255 : goal.returns-in-25-to-255
returns-in-25-to-255 c = ap (λ (x : ℕ). 2 * x) (c.requires.2 _ (omega arith)) ∙ twice _ (search rules) (search rules)
