-- `shape_of` halves and rounds up each way. Assumes nothing.
use mathlib.Core.Path.{◌≡◌}
use Prim.Native.Nat.{ℕ, ◌≤◌}
use borrow.Author.Rules.{rules}
use Rattle.rules.specs.Frame.{halved}
use Rattle.rounding.proofs.Within.{half_some}
use Rattle.pictures.specs.Shapes.{shape_of}
use Rattle.pictures.proofs.planes.shape_of.Goals as goal

some_half : (ss n r : ℕ) → ss ≤ 1 → 1 ≤ n → r ≡ halved ss n → 1 ≤ r
some_half ss n r h l e = rw e (half_some ss n h l)

ruleset shaping = (rules, some_half)

pub returns : goal.returns
unfolding shape_of
returns c = record { shape_fits = search shaping; value = cc }
