-- `deblock_plane` gives each refusal number, with its place, exactly when its test fails there and those before it hold.
-- Assumes nothing.
use mathlib.Core.Path.{◌≡◌, refl, sym, ap, ◌∙◌}
use mathlib.Core.List.{List}
use Prim.Native.Nat.{ℕ}
use Rattle.rules.specs.declared.settings.Plane.{Plane}
use Rattle.rules.specs.Refusals.{Answer}
use Rattle.std.specs.declared.result.Result.{Result}
use Rattle.rules.specs.declared.counts.Counts.{Counts}
use Rattle.rules.specs.declared.refusals.Refusal.{Refusal}
use Rattle.rules.specs.Refusals.{answered}
use Rattle.rules.specs.Refusals.{or_else}
use Rattle.rules.specs.Thresholds.{steps_check, deltas_check}
use Rattle.rules.specs.Plane.{Grid, tiles_check, plane_check}
use Rattle.checks.specs.Exactly.{chain, Exactly}
use Rattle.checks.proofs.Exactly.{else_joined, exactly}
use Rattle.plane.specs.Checked.{Stated}
use Rattle.promises.specs.Exactly.{plane_tests}

-- the fifth and the sixth check as one
fifth_joined : (a b c d e f g : Answer) → or_else a (or_else b (or_else c (or_else d (or_else e (or_else f g))))) ≡ or_else a (or_else b (or_else c (or_else d (or_else (or_else e f) g))))
fifth_joined a b c d e f g = ap (λ (x : Answer). or_else a (or_else b (or_else c (or_else d x)))) (sym (else_joined e f g))

-- both checks of 5 are its one test
pub plane_chain : (s : Plane) (steps : List ℕ) (g : Grid) (l : List ℕ) → plane_check s steps g l ≡ chain (plane_tests s steps g l)
unfolding plane_check steps_check deltas_check tiles_check
plane_chain s steps g l = fifth_joined _ _ _ _ _ _ _

pub plane_exactly : (s : Plane) (steps : List ℕ) (g : Grid) (l : List ℕ) {a : Answer} → a ≡ plane_check s steps g l → Exactly a (plane_tests s steps g l)
plane_exactly s steps g l e = exactly (plane_tests s steps g l) refl (e ∙ plane_chain s steps g l)

-- of whatever the entry may answer
pub stated_exactly : (s : Plane) (steps : List ℕ) (g : Grid) (l : List ℕ) {a : Result Counts Refusal} {m : List ℕ} → Stated s steps g l a m → Exactly (answered a) (plane_tests s steps g l)
stated_exactly s steps g l done = plane_exactly s steps g l done.answer
