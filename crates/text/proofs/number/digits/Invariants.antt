-- `digits` reads a run of digits: what is left to read after each turn is what the whole run says. Assumes nothing.
use mathlib.Core.Path.{◌≡◌}
use Prim.Native.Nat.{◌-◌, ◌≤◌}
use Rattle.text.specs.Digits.{read_digits}
use Rattle.text.proofs.number.digits.Given as goal

abbrev pub invariant-loop-at : goal.invariant-loop-at
invariant-loop-at l = (l.from ≤ l.at) × (l.at ≤ l.end) × (read_digits l.text l.value l.at (l.end - l.at) ≡ read_digits l.text 0 l.from (l.end - l.from))
