-- The statement leaves one result: any two answers, counts and planes that it allows are equal.
-- Assumes nothing.
use mathlib.Core.Path.{◌≡◌, sym, ◌∙◌}
use mathlib.Core.List.{List}
use Prim.Native.Nat.{ℕ}
use Rattle.rules.specs.declared.settings.Plane.{Plane}
use Rattle.std.specs.declared.result.Result.{Result}
use Rattle.rules.specs.declared.counts.Counts.{Counts}
use Rattle.rules.specs.declared.refusals.Refusal.{Refusal}
use Rattle.rules.specs.Refusals.{answered, changed_in, stored_in}
use Rattle.rules.specs.Plane.{Grid}
use Rattle.plane.specs.Checked.{Stated}

pub one_result : {s : Plane} {steps : List ℕ} {g : Grid} {l : List ℕ} {a b : Result Counts Refusal} {m n : List ℕ} → Stated s steps g l a m → Stated s steps g l b n
    → (answered a ≡ answered b) × (m ≡ n) × (stored_in a ≡ stored_in b) × (changed_in a ≡ changed_in b)
one_result x y = (x.answer ∙ sym y.answer, x.plane ∙ sym y.plane, x.stored ∙ sym y.stored, x.changed ∙ sym y.changed)
