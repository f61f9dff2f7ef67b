-- `letters` reads a word's letters: what is left to read after each turn is what the whole run says. Assumes nothing.
use mathlib.Core.Path.{◌≡◌}
use Prim.Native.Nat.{◌-◌, ◌≤◌}
use Rattle.text.specs.Words.{read_letters}
use Rattle.text.proofs.spell.letters.Given as goal

abbrev pub invariant-loop-at : goal.invariant-loop-at
invariant-loop-at l = (l.from ≤ l.at) × (l.at ≤ l.end) × (read_letters l.text l.value l.at (l.end - l.at) ≡ read_letters l.text 0 l.from (l.end - l.from))
